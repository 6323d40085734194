use Rattle.std.proofs.Common.{◌≡◌, ◌<◌, ◌+◌, ℕ, [], ◌∷◌, Some, sym, ap, ◌∙◌, subst, arith}
use Rattle.tc_hall.proofs.Vocabulary.{Freed, HallView, Knows, Lock, MayFree, PassView, Sat, kept, locks, of_lock, rest, slot_word, threads}
use Rattle.tc_hall.proofs.Cases.{clash}
use Rattle.tc_hall.proofs.Stepping.{FreesAll, frees, Reaches, reaches}
use Rattle.tc_hall.specs.Standing.{IfLined, FreesAs}
use Rattle.tc_hall.proofs.Putting.{freed, frees_still}
use Rattle.tc_hall.proofs.Holding.{put_slot, put_found, put_carried, put_view}
use Rattle.tc_hall.proofs.hall.Hall.free.Goals as goal

pub load-requires : goal.load-requires
load-requires c =
    let seat = c.pass.inside.seat in
    let key = c.self.inside.board.shared.key in
    let l = c.args.lock in
    let own = ap (λ (p : PassView). p.table) c.pass.view_is ∙ (c.requires.own ∙ sym (ap (λ (h : HallView). h.table) c.self.view_is)) in
    let below : l.number < locks key = subst (λ (h : HallView). l.number < locks h.terms) (sym c.self.view_is) c.requires.lock in
    let may : MayFree seat.me.0 l = subst (λ (p : PassView). MayFree p.knows l) (sym c.pass.view_is) c.requires.ready in
    let at : threads key + l.number ≡ c.self.inside.threads + c.number.result = (let n = c.self.invariant.0 in let e = c.number.ensures in omega arith) in (
      own,
      omega (arith, c.self.invariant.1, c.self.invariant.3, c.number.ensures, c.word_of.ensures),
      subst (λ (z : ℕ). Reaches key c.self.inside.board.shared.table_id.slots seat.id z seat.me.0 seat.me.1) (sym c.word_of.ensures)
          (reaches key _ seat.id (c.self.inside.threads + c.number.result) seat.me.0 seat.me.1 c.pass.invariant.0 c.pass.invariant.1 c.pass.invariant.3 (of_lock l.number (kept l) (sym at) may.has)),
    )

pub slot_mut-slot-requires : goal.slot_mut-slot-requires
slot_mut-slot-requires c =
    let own = ap (λ (p : PassView). p.table) c.pass.view_is ∙ (c.requires.own ∙ sym (ap (λ (h : HallView). h.table) c.self.view_is)) in
    let did = c.load.ensures in
    let slot : ℕ = c.self.inside.threads + c.number.result in
    (did.0 ∙ own, put_slot slot (Lock c.args.lock) c.pass.inside.seat.me c.load.new.seat.me c.pass.invariant.0 (did.2 slot c.word_of.ensures))

pub unreachable-requires : goal.unreachable-requires
unreachable-requires c =
    let slot : ℕ = c.self.inside.threads + c.number.result in
    let none = c.replace.ensures.found ∙ put_found slot (Lock c.args.lock) c.pass.inside.seat.me c.load.new.seat.me c.pass.invariant.0 (c.load.ensures.2 slot c.word_of.ensures) c.slot_mut-slot.result.now c.slot_mut-slot.ensures.value in
    clash c.replace.result c.in-Some.field-0 none c.in-Some.is

pub store-requires : goal.store-requires
store-requires c =
    let own = ap (λ (p : PassView). p.table) c.pass.view_is ∙ (c.requires.own ∙ sym (ap (λ (h : HallView). h.table) c.self.view_is)) in
    let key = c.self.inside.board.shared.key in
    let m = c.pass.inside.seat.me in
    let m1 = c.load.new.seat.me in
    let l = c.args.lock in
    let did = c.load.ensures in
    let slot : ℕ = c.self.inside.threads + c.number.result in
    let below : l.number < locks key = subst (λ (h : HallView). l.number < locks h.terms) (sym c.self.view_is) c.requires.lock in
    let may : MayFree m.0 l = subst (λ (p : PassView). MayFree p.knows l) (sym c.pass.view_is) c.requires.ready in
    let stands : IfLined key m.0 (FreesAs m.0 l.number) = subst (λ (z : HallView × PassView). IfLined z.0.terms z.1.knows (FreesAs z.1.knows l.number)) (λ i. (sym c.self.view_is i, sym c.pass.view_is i)) c.requires.stands in
    let at : threads key + l.number ≡ slot = (let n = c.self.invariant.0 in let e = c.number.ensures in omega arith) in
    let got = did.2 slot c.word_of.ensures in
    let view = put_view slot (Lock l) m c.load.new.seat.me c.pass.invariant.0 got in (
      did.0 ∙ own,
      omega (arith, c.self.invariant.1, c.self.invariant.3, c.number.ensures, c.word_of-2.ensures),
      subst (λ (z : ℕ). FreesAll key c.self.inside.board.shared.table_id.slots c.load.new.seat.id z m1.0 ((slot, c.replace.new.self) ∷ rest m1.1)) (ap slot_word at ∙ sym c.word_of-2.ensures)
          (frees key _ _ m1.0 l _
          (put_carried slot (Lock l) m c.load.new.seat.me c.pass.invariant.0 got c.replace.new.self c.replace.ensures.left ∙ ap (λ (z : ℕ). (z, Some (Lock l)) ∷ []) (sym at))
          (ap (λ (z : Knows). z.open_slot) view ∙ ap (λ (z : ℕ). Some z) (sym at)) (ap (λ (z : Knows). z.spent) view ∙ c.pass.invariant.3) (subst (λ (z : Knows). MayFree z l) (sym view) record { has = may.has; rests = may.rests }) (frees_still key m.0 m1.0 l.number (Some slot) view stands)),
    )

pub invariant_of-pass : goal.invariant_of-pass
invariant_of-pass c =
    let m = c.pass.inside.seat.me in
    let slot : ℕ = c.self.inside.threads + c.number.result in
    let got = c.load.ensures.2 slot c.word_of.ensures in
    let carried = put_carried slot (Lock c.args.lock) m c.load.new.seat.me c.pass.invariant.0 got c.replace.new.self c.replace.ensures.left in
    let view = put_view slot (Lock c.args.lock) m c.load.new.seat.me c.pass.invariant.0 got in
    let did = c.store.ensures.2 slot c.args.lock carried in
    (ap (λ (z : Sat). z.1) did, ap (λ (z : Sat). z.0.open_slot) did, c.pass.invariant.2 ∙ sym (ap (λ (z : Sat). z.0.worker) did ∙ ap (λ (v : Knows). v.worker) view), ap (λ (z : Sat). z.0.spent) did ∙ (ap (λ (v : Knows). v.spent) view ∙ c.pass.invariant.3))

pub returns-clause-freed : goal.returns-clause-freed
returns-clause-freed c =
    let m = c.pass.inside.seat.me in
    let slot : ℕ = c.self.inside.threads + c.number.result in
    let got = c.load.ensures.2 slot c.word_of.ensures in
    let carried = put_carried slot (Lock c.args.lock) m c.load.new.seat.me c.pass.invariant.0 got c.replace.new.self c.replace.ensures.left in
    let view = put_view slot (Lock c.args.lock) m c.load.new.seat.me c.pass.invariant.0 got in
    let did = c.store.ensures.2 slot c.args.lock carried in
    subst (λ (p : PassView). Freed c.args.lock p.knows c.store.new.seat.me.0) c.pass.view_is (freed c.args.lock m.0 c.load.new.seat.me.0 c.store.new.seat.me.0 slot view c.pass.invariant.1 (ap (λ (z : Sat). z.0) did))
