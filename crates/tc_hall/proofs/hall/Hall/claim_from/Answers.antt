use Rattle.std.proofs.Common.{◌≡◌, ◌+◌, ◌<◌, ℕ, ◌∷◌, Option, Some, None, refl, sym, ap, ◌∙◌, subst, arith}
use Rattle.tc_hall.proofs.Vocabulary.{Gets, HallView, Has, IsAsLeft, IsClaimable, Knows, Package, PackageView, PassView, HallTerms, bare, of_package, rest, threads}
use Rattle.tc_hall.specs.Places.{place_of}
use Rattle.tc_hall.specs.Standing.{IfLined, ClaimsAs}
use Rattle.tc_hall.proofs.Stepping.{Claims, claims, Lays, lays}
use Rattle.tc_hall.proofs.Outs.{has_out}
use Rattle.tc_hall.proofs.Holding.{got_slot, got_found, got_carried, got_view, got_last, got_empty}
use Rattle.tc_hall.proofs.hall.Hall.claim_from.Goals as goal

pub compare_exchange-found-requires : goal.compare_exchange-found-requires
compare_exchange-found-requires g c =
    let seat = c.pass.inside.seat in
    let stands : IfLined c.self.inside.board.shared.key seat.me.0 (ClaimsAs seat.me.0 c.args.t (place_of c.args.code)) = subst (λ (z : HallView × PassView). IfLined z.0.terms z.1.knows (ClaimsAs z.1.knows c.args.t (place_of c.args.code))) (λ i. (sym c.self.view_is i, sym c.pass.view_is i)) c.requires.stands in
    let own = ap (λ (p : PassView). p.table) c.pass.view_is ∙ (c.requires.own ∙ sym (ap (λ (h : HallView). h.table) c.self.view_is)) in
    let below : c.args.t < threads c.self.inside.board.shared.key = subst (λ (h : HallView). c.args.t < threads h.terms) (sym c.self.view_is) c.requires.thread in
    let can : IsClaimable c.self.inside.board.shared.key c.args.code = subst (λ (h : HallView). IsClaimable h.terms c.args.code) (sym c.self.view_is) c.requires.code in (
      own,
      omega (arith, c.self.invariant.0, c.self.invariant.1, c.word_of-word.ensures),
      subst (λ (z : Option HallTerms × ℕ). Claims c.self.inside.board.shared.key z.0 c.self.inside.board.shared.table_id.slots seat.id z.1 c.args.code (512 + c.from-at.result) seat.me.0 seat.me.1) (λ i. (sym (c.requires.picked ∙ ap (λ (h : HallView). Some h.terms) (sym c.self.view_is)) i, sym c.word_of-word.ensures i))
          (claims c.self.inside.board.shared.key _ seat.id c.args.t c.args.code _ seat.me.0 seat.me.1 c.pass.invariant.0 can (ap (λ (k : ℕ). 512 + k) (c.from-at.ensures ∙ c.pass.invariant.2)) below c.pass.invariant.3 c.pass.invariant.1 stands),
    )

pub slot_mut-requires : goal.slot_mut-requires
slot_mut-requires g c =
    let own = ap (λ (p : PassView). p.table) c.pass.view_is ∙ (c.requires.own ∙ sym (ap (λ (h : HallView). h.table) c.self.view_is)) in
    let did = c.compare_exchange-found.ensures in
    let got = did.2.0 c.if-found-code.false c.args.t c.word_of-word.ensures in
    (did.0 ∙ own, got_slot c.args.t (Package got.0) got.1 c.pass.inside.seat.me c.compare_exchange-found.new.seat.me got.3)

pub load-requires : goal.load-requires
load-requires g c =
    let own = ap (λ (p : PassView). p.table) c.pass.view_is ∙ (c.requires.own ∙ sym (ap (λ (h : HallView). h.table) c.self.view_is)) in
    let did = c.compare_exchange-found.ensures in
    let got = did.2.0 c.if-found-code.false c.args.t c.word_of-word.ensures in
    let m1 = c.compare_exchange-found.new.seat.me in
    let below : c.args.t < threads c.self.inside.board.shared.key = subst (λ (h : HallView). c.args.t < threads h.terms) (sym c.self.view_is) c.requires.thread in
    let view = got_view c.args.t (Package got.0) got.1 c.pass.inside.seat.me c.compare_exchange-found.new.seat.me got.3 in (
      did.0 ∙ own,
      omega (arith, c.self.invariant.0, c.self.invariant.1, c.word_of-word.ensures),
      subst (λ (z : ℕ). Lays c.self.inside.board.shared.key c.self.inside.board.shared.table_id.slots c.compare_exchange-found.new.seat.id z m1.0 ((c.args.t, c.take-cargo.new.self) ∷ rest m1.1)) (sym c.word_of-word.ensures)
          (lays c.self.inside.board.shared.key _ _ c.args.t m1.0 _ (got_carried c.args.t (Package got.0) got.1 c.pass.inside.seat.me c.compare_exchange-found.new.seat.me got.3 c.pass.invariant.0 c.take-cargo.new.self c.take-cargo.ensures.left)
          (ap (λ (z : Knows). z.open_slot) view) (ap (λ (z : Knows). z.spent) view ∙ (ap (λ (z : Knows). z.spent) got.2.now ∙ c.pass.invariant.3)) (of_package c.args.t (bare got.0) refl (subst (λ (z : Knows × ℕ). Has z.0 z.1 (bare got.0)) (λ i. (sym view i, got.2.thread i)) (has_out got.1 got.0 got.2.came.out)))),
    )

pub package_of-package-requires : goal.package_of-package-requires
package_of-package-requires g c =
    let got = c.compare_exchange-found.ensures.2.0 c.if-found-code.false c.args.t c.word_of-word.ensures in
    (got.0, c.take-cargo.ensures.found ∙ got_found c.args.t (Package got.0) got.1 c.pass.inside.seat.me c.compare_exchange-found.new.seat.me got.3 c.slot_mut.result.now c.slot_mut.ensures.value)

pub invariant_of-pass-2 : goal.invariant_of-pass-2
invariant_of-pass-2 g c =
    let got = c.compare_exchange-found.ensures.2.0 c.if-found-code.false c.args.t c.word_of-word.ensures in
    let free : got.1.open_slot ≡ None = ap (λ (z : Knows). z.open_slot) got.2.now ∙ c.pass.invariant.1 in
    let m = c.pass.inside.seat.me in
    let last = got_last c.args.t (Package got.0) got.1 m c.compare_exchange-found.new.seat.me got.3 c.pass.invariant.0 free c.load.new.seat.me c.load.ensures.2 in (
      got_empty c.args.t (Package got.0) got.1 m c.compare_exchange-found.new.seat.me got.3 c.pass.invariant.0 free c.load.new.seat.me c.load.ensures.2,
      ap (λ (z : Knows). z.open_slot) last ∙ free,
      c.pass.invariant.2 ∙ sym (ap (λ (z : Knows). z.worker) (last ∙ got.2.now)),
      ap (λ (z : Knows). z.spent) (last ∙ got.2.now) ∙ c.pass.invariant.3,
    )

pub returns-clause-result : goal.returns-clause-result
returns-clause-result g c =
    let got = c.compare_exchange-found.ensures.2.0 c.if-found-code.false c.args.t c.word_of-word.ensures in
    let m = c.pass.inside.seat.me in
    let free : got.1.open_slot ≡ None = ap (λ (z : Knows). z.open_slot) got.2.now ∙ c.pass.invariant.1 in
    let last = got_last c.args.t (Package got.0) got.1 m c.compare_exchange-found.new.seat.me got.3 c.pass.invariant.0 free c.load.new.seat.me c.load.ensures.2 in
    let found = c.take-cargo.ensures.found ∙ got_found c.args.t (Package got.0) got.1 m c.compare_exchange-found.new.seat.me got.3 c.slot_mut.result.now c.slot_mut.ensures.value in
    let same : got.0 ≡ c.package_of-package.result = cc (found, c.package_of-package.ensures) in
    subst (λ (p : PassView). Gets c.args.code c.args.t c.package_of-package.result p.knows c.load.new.seat.me.0) c.pass.view_is
    (subst (λ (z : PackageView × Knows). Gets c.args.code c.args.t z.0 m.0 z.1) (λ i. (same i, sym last i)) got.2)

pub returns-clause-left : goal.returns-clause-left
returns-clause-left g c =
    let got = c.compare_exchange-found.ensures.2.0 c.if-found-code.false c.args.t c.word_of-word.ensures in
    let m = c.pass.inside.seat.me in
    let key : HallTerms = c.self.inside.board.shared.key in
    let found = c.take-cargo.ensures.found ∙ got_found c.args.t (Package got.0) got.1 m c.compare_exchange-found.new.seat.me got.3 c.slot_mut.result.now c.slot_mut.ensures.value in
    let same : got.0 ≡ c.package_of-package.result = cc (found, c.package_of-package.ensures) in
    subst (λ (z : HallView × PassView). IsAsLeft z.0.terms z.1.knows c.package_of-package.result) (λ i. (c.self.view_is i, c.pass.view_is i))
    (subst (λ (q : PackageView). IsAsLeft key m.0 q) same (got.4 key (c.requires.picked ∙ ap (λ (h : HallView). Some h.terms) (sym c.self.view_is))))
