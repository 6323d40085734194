use Rattle.std.proofs.Common.{◌≡◌, ◌+◌, ◌<◌, ℕ, ◌∷◌, Option, Some, None, sym, ap, ◌∙◌, subst, arith}
use Rattle.tc_hall.proofs.Vocabulary.{HallView, HasLock, IsStateAsLeft, Knows, Lock, LockView, PassView, HallTerms, kept, locks, of_lock, rest, slot_word, threads}
use Rattle.tc_hall.specs.Standing.{IfLined, TakesAs}
use Rattle.tc_hall.specs.Steps.{Takes}
use Rattle.tc_hall.proofs.Stepping.{TakesAll, takes_lock, Lays, lays}
use Rattle.tc_hall.proofs.Outs.{loose_out}
use Rattle.tc_hall.proofs.Holding.{got_slot, got_found, got_carried, got_view, got_last, got_empty}
use Rattle.tc_hall.proofs.hall.Hall.take_as.Goals as goal

pub compare_exchange-found-requires : goal.compare_exchange-found-requires
compare_exchange-found-requires g c =
    let seat = c.pass.inside.seat in
    let stands : IfLined c.self.inside.board.shared.key seat.me.0 (TakesAs seat.me.0 c.args.lock) = subst (λ (z : HallView × PassView). IfLined z.0.terms z.1.knows (TakesAs z.1.knows c.args.lock)) (λ i. (sym c.self.view_is i, sym c.pass.view_is i)) c.requires.stands in
    let key = c.self.inside.board.shared.key in
    let own = ap (λ (p : PassView). p.table) c.pass.view_is ∙ (c.requires.own ∙ sym (ap (λ (h : HallView). h.table) c.self.view_is)) in
    let below : c.args.lock < locks key = subst (λ (h : HallView). c.args.lock < locks h.terms) (sym c.self.view_is) c.requires.lock in
    let n = c.self.invariant.0 in
    let word : c.word_of-word.result ≡ slot_word (threads key + c.args.lock) = c.word_of-word.ensures ∙ ap (λ (z : ℕ). slot_word (z + c.args.lock)) n in
    let m = c.self.invariant.3 in (
      own,
      omega (arith, c.self.invariant.1, c.word_of-word.ensures),
      subst (λ (z : Option HallTerms × ℕ). TakesAll key z.0 c.self.inside.board.shared.table_id.slots seat.id z.1 seat.me.0 seat.me.1) (λ i. (sym (c.requires.picked ∙ ap (λ (h : HallView). Some h.terms) (sym c.self.view_is)) i, sym word i))
          (takes_lock key _ seat.id c.args.lock seat.me.0 seat.me.1 c.pass.invariant.0 below c.pass.invariant.3 c.pass.invariant.1 stands),
    )

pub slot_mut-requires : goal.slot_mut-requires
slot_mut-requires g c =
    let own = ap (λ (p : PassView). p.table) c.pass.view_is ∙ (c.requires.own ∙ sym (ap (λ (h : HallView). h.table) c.self.view_is)) in
    let did = c.compare_exchange-found.ensures in
    let slot : ℕ = c.self.inside.threads + c.args.lock in
    let got = did.2.0 c.if-found-ne0.false c.self.inside.board.shared.key c.args.lock slot (c.requires.picked ∙ ap (λ (h : HallView). Some h.terms) (sym c.self.view_is)) (let n = c.self.invariant.0 in omega arith) c.word_of-word.ensures in
    (did.0 ∙ own, got_slot slot (Lock got.0) got.1 c.pass.inside.seat.me c.compare_exchange-found.new.seat.me got.3)

pub load-requires : goal.load-requires
load-requires g c =
    let own = ap (λ (p : PassView). p.table) c.pass.view_is ∙ (c.requires.own ∙ sym (ap (λ (h : HallView). h.table) c.self.view_is)) in
    let key = c.self.inside.board.shared.key in
    let did = c.compare_exchange-found.ensures in
    let slot : ℕ = c.self.inside.threads + c.args.lock in
    let got = did.2.0 c.if-found-ne0.false c.self.inside.board.shared.key c.args.lock slot (c.requires.picked ∙ ap (λ (h : HallView). Some h.terms) (sym c.self.view_is)) (let n = c.self.invariant.0 in omega arith) c.word_of-word.ensures in
    let m1 = c.compare_exchange-found.new.seat.me in
    let below : c.args.lock < locks key = subst (λ (h : HallView). c.args.lock < locks h.terms) (sym c.self.view_is) c.requires.lock in
    let m = c.self.invariant.3 in
    let at : slot ≡ threads key + c.args.lock = (let n = c.self.invariant.0 in omega arith) in
    let view = got_view slot (Lock got.0) got.1 c.pass.inside.seat.me c.compare_exchange-found.new.seat.me got.3 in (
      did.0 ∙ own,
      omega (arith, c.self.invariant.1, c.word_of-word.ensures),
      subst (λ (z : ℕ). Lays key c.self.inside.board.shared.table_id.slots c.compare_exchange-found.new.seat.id z m1.0 ((slot, c.take-cargo.new.self) ∷ rest m1.1)) (sym c.word_of-word.ensures) (lays key _ _ slot m1.0 _ (got_carried slot (Lock got.0) got.1 c.pass.inside.seat.me c.compare_exchange-found.new.seat.me got.3 c.pass.invariant.0 c.take-cargo.new.self c.take-cargo.ensures.left)
          (ap (λ (z : Knows). z.open_slot) view) (ap (λ (z : Knows). z.spent) view ∙ (ap (λ (z : Knows). z.spent) got.2.now ∙ c.pass.invariant.3))
          (of_lock c.args.lock (kept got.0) at (subst (λ (z : Knows × ℕ). HasLock z.0 z.1 (kept got.0)) (λ i. (sym view i, got.2.rest.number i)) (loose_out got.1 got.0 got.2.came.out)))),
    )

pub lock_of-requires : goal.lock_of-requires
lock_of-requires g c =
    let slot : ℕ = c.self.inside.threads + c.args.lock in
    let got = c.compare_exchange-found.ensures.2.0 c.if-found-ne0.false c.self.inside.board.shared.key c.args.lock slot (c.requires.picked ∙ ap (λ (h : HallView). Some h.terms) (sym c.self.view_is)) (let n = c.self.invariant.0 in omega arith) c.word_of-word.ensures in
    (got.0, c.take-cargo.ensures.found ∙ got_found slot (Lock got.0) got.1 c.pass.inside.seat.me c.compare_exchange-found.new.seat.me got.3 c.slot_mut.result.now c.slot_mut.ensures.value)

pub invariant_of-pass-2 : goal.invariant_of-pass-2
invariant_of-pass-2 g c =
    let slot : ℕ = c.self.inside.threads + c.args.lock in
    let got = c.compare_exchange-found.ensures.2.0 c.if-found-ne0.false c.self.inside.board.shared.key c.args.lock slot (c.requires.picked ∙ ap (λ (h : HallView). Some h.terms) (sym c.self.view_is)) (let n = c.self.invariant.0 in omega arith) c.word_of-word.ensures in
    let free : got.1.open_slot ≡ None = ap (λ (z : Knows). z.open_slot) got.2.now ∙ c.pass.invariant.1 in
    let m = c.pass.inside.seat.me in
    let last = got_last slot (Lock got.0) got.1 m c.compare_exchange-found.new.seat.me got.3 c.pass.invariant.0 free c.load.new.seat.me c.load.ensures.2 in (
      got_empty slot (Lock got.0) got.1 m c.compare_exchange-found.new.seat.me got.3 c.pass.invariant.0 free c.load.new.seat.me c.load.ensures.2,
      ap (λ (z : Knows). z.open_slot) last ∙ free,
      c.pass.invariant.2 ∙ sym (ap (λ (z : Knows). z.worker) (last ∙ got.2.now)),
      ap (λ (z : Knows). z.spent) (last ∙ got.2.now) ∙ c.pass.invariant.3,
    )

pub returns-clause-result : goal.returns-clause-result
returns-clause-result g c =
    let slot : ℕ = c.self.inside.threads + c.args.lock in
    let got = c.compare_exchange-found.ensures.2.0 c.if-found-ne0.false c.self.inside.board.shared.key c.args.lock slot (c.requires.picked ∙ ap (λ (h : HallView). Some h.terms) (sym c.self.view_is)) (let n = c.self.invariant.0 in omega arith) c.word_of-word.ensures in
    let m = c.pass.inside.seat.me in
    let free : got.1.open_slot ≡ None = ap (λ (z : Knows). z.open_slot) got.2.now ∙ c.pass.invariant.1 in
    let last = got_last slot (Lock got.0) got.1 m c.compare_exchange-found.new.seat.me got.3 c.pass.invariant.0 free c.load.new.seat.me c.load.ensures.2 in
    let found = c.take-cargo.ensures.found ∙ got_found slot (Lock got.0) got.1 m c.compare_exchange-found.new.seat.me got.3 c.slot_mut.result.now c.slot_mut.ensures.value in
    let same : got.0 ≡ c.lock_of.result = cc (found, c.lock_of.ensures) in
    subst (λ (p : PassView). Takes c.args.lock c.lock_of.result p.knows c.load.new.seat.me.0) c.pass.view_is
    (subst (λ (z : LockView × Knows). Takes c.args.lock z.0 m.0 z.1) (λ i. (same i, sym last i)) got.2)

pub returns-clause-left : goal.returns-clause-left
returns-clause-left g c =
    let slot : ℕ = c.self.inside.threads + c.args.lock in
    let got = c.compare_exchange-found.ensures.2.0 c.if-found-ne0.false c.self.inside.board.shared.key c.args.lock slot (c.requires.picked ∙ ap (λ (h : HallView). Some h.terms) (sym c.self.view_is)) (let n = c.self.invariant.0 in omega arith) c.word_of-word.ensures in
    let m = c.pass.inside.seat.me in
    let key : HallTerms = c.self.inside.board.shared.key in
    let found = c.take-cargo.ensures.found ∙ got_found slot (Lock got.0) got.1 m c.compare_exchange-found.new.seat.me got.3 c.slot_mut.result.now c.slot_mut.ensures.value in
    let same : got.0 ≡ c.lock_of.result = cc (found, c.lock_of.ensures) in
    subst (λ (z : HallView × PassView). IsStateAsLeft z.0.terms z.1.knows c.args.lock c.lock_of.result) (λ i. (c.self.view_is i, c.pass.view_is i))
    (subst (λ (q : LockView). IsStateAsLeft key m.0 c.args.lock q) same got.4)
