-- An access whose place is the guard of a lock lies in that guard.
use Rattle.tc_segment.proofs.Vocabulary.{◌≡◌, ℕ, ◌<◌, Bool, true, false, not, ◌&&◌, cond, length, nat_lt, refl, sym, ap, subst, ◌∙◌, arith, Some, None, if◌then◌else◌, Shown, guard_at, nat_tests, option_map_or}
use Rattle.std.specs.List.{list_any, position_or_len}
use Rattle.std.proofs.lemmas.List.Sums.{passes_at_first}
use Rattle.tc_elf.specs.Places.{lies_in, in_text, in_writable, touches, in_guard, unguarded_region, region_of}
use Rattle.tc_elf.specs.declared.limits.TheConstants.{STACK_START, STACK_LENGTH}
use Rattle.tc_elf.specs.declared.image.Region.TheVariants as region

pub record LiesInGuard (image : Shown) (lock addr width : ℕ) : Type 0 where
  pub known : lock < length image.guards
  pub inside : in_guard addr width (guard_at image lock) ≡ true

no_guard : (a b c : Bool) (lock : ℕ) → (if a then region.Text else if b then region.Private else if c then region.Stack else region.Nothing) ≡ region.Guard lock → ⊥
no_guard true b c lock e = cc
no_guard false true c lock e = cc
no_guard false false true lock e = cc
no_guard false false false lock e = cc

pub guard_has : (image : Shown) (lock addr width : ℕ) → region_of image addr width ≡ region.Guard lock → LiesInGuard image lock addr width
unfolding region_of
guard_has image lock addr width e =
    let first = position_or_len (in_guard addr width) image.guards in
    (elim (nat_lt first (length image.guards)) as (λ b. nat_lt first (length image.guards) ≡ b → option_map_or region.Guard (cond b (Some first) None) (unguarded_region image addr width) ≡ region.Guard lock → LiesInGuard image lock addr width) [
      | true ↦ λ found is.
          let same : first ≡ lock = cc in
          let low : first < length image.guards = grind (arith, nat_tests) in
          record {
            known = subst (λ n. n < length image.guards) same low;
            inside = ap (λ n. in_guard addr width (guard_at image n)) (sym same) ∙ passes_at_first (in_guard addr width) image.guards (record { start = 0; length = 0 }) low;
          }
      | false ↦ λ none is. absurd (no_guard
          (list_any (in_text addr width) image.ranges)
          (list_any (in_writable addr width) image.ranges && not (list_any (touches addr width) image.guards))
          (lies_in addr width STACK_START STACK_LENGTH) lock is)
    ]) refl e
