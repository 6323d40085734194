use Rattle.std.proofs.Common.{◌≡◌, ◌<◌, ℕ, [], ◌∷◌, Option, Some, sym, ap, ◌∙◌, subst, arith}
use Rattle.tc_hall.proofs.Vocabulary.{Gave, HallView, IsAsLeft, IsInRange, Knows, MayPut, Package, PassView, Sat, HallTerms, bare, locks, of_package, rest, slot_word, threads}
use Rattle.tc_hall.proofs.Cases.{clash}
use Rattle.tc_hall.proofs.Stepping.{Reaches, reaches, FillsAs, Fills, fills}
use Rattle.tc_hall.specs.Standing.{IfLined, PutsAs}
use Rattle.tc_hall.proofs.Putting.{may_put_as, puts_still, left_as, gave}
use Rattle.tc_hall.proofs.Holding.{put_slot, put_found, put_carried, put_view}
use Rattle.tc_hall.proofs.hall.Hall.put_as.Goals as goal

pub load-requires : goal.load-requires
load-requires g c =
    let seat = c.pass.inside.seat in
    let own = ap (λ (p : PassView). p.table) c.pass.view_is ∙ (c.requires.own ∙ sym (ap (λ (h : HallView). h.table) c.self.view_is)) in
    let below : c.args.«package».context.thread < threads c.self.inside.board.shared.key = subst (λ (h : HallView). c.args.«package».context.thread < threads h.terms) (sym c.self.view_is) c.requires.places.0 in
    let may : MayPut c.args.place seat.me.0 c.args.«package» = subst (λ (p : PassView). MayPut c.args.place p.knows c.args.«package») (sym c.pass.view_is) c.requires.ready in
    let t : c.thread-t.result ≡ c.args.«package».context.thread = c.thread-t.ensures in (
      own,
      omega (arith, c.self.invariant.0, c.self.invariant.1, c.word_of.ensures),
      subst (λ (z : ℕ). Reaches c.self.inside.board.shared.key c.self.inside.board.shared.table_id.slots seat.id z seat.me.0 seat.me.1) (sym c.word_of.ensures)
          (reaches c.self.inside.board.shared.key _ seat.id c.thread-t.result seat.me.0 seat.me.1 c.pass.invariant.0 c.pass.invariant.1 c.pass.invariant.3 (of_package c.args.«package».context.thread (bare c.args.«package») t may.has)),
    )

pub slot_mut-slot-requires : goal.slot_mut-slot-requires
slot_mut-slot-requires g c =
    let own = ap (λ (p : PassView). p.table) c.pass.view_is ∙ (c.requires.own ∙ sym (ap (λ (h : HallView). h.table) c.self.view_is)) in
    let did = c.load.ensures in
    (did.0 ∙ own, put_slot c.thread-t.result (Package c.args.«package») c.pass.inside.seat.me c.load.new.seat.me c.pass.invariant.0 (did.2 c.thread-t.result c.word_of.ensures))

pub unreachable-requires : goal.unreachable-requires
unreachable-requires g c =
    let none = c.replace.ensures.found ∙ put_found c.thread-t.result (Package c.args.«package») c.pass.inside.seat.me c.load.new.seat.me c.pass.invariant.0 (c.load.ensures.2 c.thread-t.result c.word_of.ensures) c.slot_mut-slot.result.now c.slot_mut-slot.ensures.value in
    clash c.replace.result c.in-Some.field-0 none c.in-Some.is

pub store-requires : goal.store-requires
store-requires g c =
    let own = ap (λ (p : PassView). p.table) c.pass.view_is ∙ (c.requires.own ∙ sym (ap (λ (h : HallView). h.table) c.self.view_is)) in
    let key = c.self.inside.board.shared.key in
    let m = c.pass.inside.seat.me in
    let m1 = c.load.new.seat.me in
    let q = c.args.«package» in
    let did = c.load.ensures in
    let below : q.context.thread < threads key = subst (λ (h : HallView). q.context.thread < threads h.terms) (sym c.self.view_is) c.requires.places.0 in
    let range : IsInRange (locks key) c.args.place = subst (λ (h : HallView). IsInRange (locks h.terms) c.args.place) (sym c.self.view_is) c.requires.places.1 in
    let may : MayPut c.args.place m.0 q = subst (λ (p : PassView). MayPut c.args.place p.knows q) (sym c.pass.view_is) c.requires.ready in
    let stands : IfLined key m.0 (PutsAs m.0 q c.args.place) = subst (λ (z : HallView × PassView). IfLined z.0.terms z.1.knows (PutsAs z.1.knows q c.args.place)) (λ i. (sym c.self.view_is i, sym c.pass.view_is i)) c.requires.stands in
    let t : c.thread-t.result ≡ q.context.thread = c.thread-t.ensures in
    let got = did.2 c.thread-t.result c.word_of.ensures in
    let view = put_view c.thread-t.result (Package q) m c.load.new.seat.me c.pass.invariant.0 got in (
      did.0 ∙ own,
      omega (arith, c.self.invariant.0, c.self.invariant.1, c.word_of-2.ensures),
      subst (λ (z : Option HallTerms × ℕ). FillsAs key z.0 c.self.inside.board.shared.table_id.slots c.load.new.seat.id z.1 c.code-code.result m1.0 ((c.thread-t.result, c.replace.new.self) ∷ rest m1.1)) (λ i. (sym (c.requires.picked ∙ ap (λ (h : HallView). Some h.terms) (sym c.self.view_is)) i, sym c.word_of-2.ensures i))
          (subst (λ (z : ℕ × ℕ). Fills key c.self.inside.board.shared.table_id.slots c.load.new.seat.id (slot_word z.0) z.1 m1.0 ((c.thread-t.result, c.replace.new.self) ∷ rest m1.1)) (λ i. (sym t i, sym c.code-code.ensures i))
          (fills key _ _ c.args.place m1.0 q _
          (put_carried c.thread-t.result (Package q) m c.load.new.seat.me c.pass.invariant.0 got c.replace.new.self c.replace.ensures.left ∙ ap (λ (z : ℕ). (z, Some (Package q)) ∷ []) t)
          (ap (λ (z : Knows). z.open_slot) view ∙ ap (λ (z : ℕ). Some z) t) (ap (λ (z : Knows). z.spent) view ∙ c.pass.invariant.3) range (may_put_as c.args.place m.0 m1.0 q (Some c.thread-t.result) view may) (puts_still key m.0 m1.0 q c.args.place (Some c.thread-t.result) view stands))),
    )

pub invariant_of-pass : goal.invariant_of-pass
invariant_of-pass g c =
    let m = c.pass.inside.seat.me in
    let got = c.load.ensures.2 c.thread-t.result c.word_of.ensures in
    let carried = put_carried c.thread-t.result (Package c.args.«package») m c.load.new.seat.me c.pass.invariant.0 got c.replace.new.self c.replace.ensures.left in
    let view = put_view c.thread-t.result (Package c.args.«package») m c.load.new.seat.me c.pass.invariant.0 got in
    let did = (c.store.ensures.2 c.thread-t.result c.args.«package» carried).0 in
    (ap (λ (z : Sat). z.1) did, ap (λ (z : Sat). z.0.open_slot) did, c.pass.invariant.2 ∙ sym (ap (λ (z : Sat). z.0.worker) did ∙ ap (λ (v : Knows). v.worker) view), ap (λ (z : Sat). z.0.spent) did ∙ (ap (λ (v : Knows). v.spent) view ∙ c.pass.invariant.3))

pub returns-clause-put : goal.returns-clause-put
returns-clause-put g c =
    let m = c.pass.inside.seat.me in
    let got = c.load.ensures.2 c.thread-t.result c.word_of.ensures in
    let carried = put_carried c.thread-t.result (Package c.args.«package») m c.load.new.seat.me c.pass.invariant.0 got c.replace.new.self c.replace.ensures.left in
    let view = put_view c.thread-t.result (Package c.args.«package») m c.load.new.seat.me c.pass.invariant.0 got in
    let did = (c.store.ensures.2 c.thread-t.result c.args.«package» carried).0 in
    subst (λ (p : PassView). Gave c.args.place c.args.«package» p.knows c.store.new.seat.me.0) c.pass.view_is
    (gave c.args.place c.code-code.result c.args.«package» m.0 c.load.new.seat.me.0 c.store.new.seat.me.0 c.thread-t.result view c.pass.invariant.1 c.code-code.ensures (ap (λ (z : Sat). z.0) did))

pub returns-clause-left : goal.returns-clause-left
returns-clause-left g c =
    let m = c.pass.inside.seat.me in
    let m1 = c.load.new.seat.me in
    let q = c.args.«package» in
    let got = c.load.ensures.2 c.thread-t.result c.word_of.ensures in
    let carried = put_carried c.thread-t.result (Package q) m c.load.new.seat.me c.pass.invariant.0 got c.replace.new.self c.replace.ensures.left in
    let view = put_view c.thread-t.result (Package q) m c.load.new.seat.me c.pass.invariant.0 got in
    let terms : HallTerms = c.self.inside.board.shared.key in
    let left = (c.store.ensures.2 c.thread-t.result q carried).1 terms (c.requires.picked ∙ ap (λ (h : HallView). Some h.terms) (sym c.self.view_is)) in
    subst (λ (z : HallView × PassView). IsAsLeft z.0.terms z.1.knows q) (λ i. (c.self.view_is i, c.pass.view_is i)) (left_as terms m.0 m1.0 q (Some c.thread-t.result) view left)
