-- What the rules ask of the blocks of one lock, block by block along a history.
use Rattle.std.proofs.Common.{◌≡◌, ℕ, Bool, true, false, List, [], ◌∷◌, ◌++◌, map, refl, sym, ap, subst, ◌∙◌, append-nil}
use Rattle.std.specs.Prelude.{if◌then◌else◌}
use Rattle.std.proofs.lemmas.List.{map-append}
use Rattle.std.proofs.lemmas.List.Elements.{filter-append}
use Rattle.tc_isa.specs.Sets.{has}
use Rattle.tc_journal.specs.Batch.{ObeysAfter, PassesOnAfter, may_follow, passes_on}
use Rattle.tc_journal.specs.History.{of_lock}
use Rattle.tc_journal.specs.declared.block.Block.{Block}
use Rattle.tc_core.specs.Core.{Limits}

-- what the blocks of one lock keep, after those of it that were seen: with others in their places they obey the batch limit, and
-- they pass its sections on
pub record Rules (placed : Block → Block) (limits : Limits) (seen h : List Block) (k : ℕ) : Type 0 where
  pub obeys : ObeysAfter k limits.batch (map placed (of_lock seen k)) (map placed (of_lock h k))
  pub passes : PassesOnAfter k (of_lock seen k) (of_lock h k)

module _ (placed : Block → Block) (limits : Limits) (seen h : List Block) (b : Block) (k : ℕ) (rules : Rules placed limits seen (b ∷ h) k) where
  more : (v : Bool) → has b.held k ≡ v → of_lock (seen ++ b ∷ []) k ≡ of_lock seen k ++ (if v then b ∷ [] else [])
  more v e = filter-append (λ (c : Block). has c.held k) seen (b ∷ []) ∙ ap (λ x. of_lock seen k ++ (if x then b ∷ [] else [])) e

  here : (v : Bool) → has b.held k ≡ v → of_lock (b ∷ h) k ≡ (if v then b ∷ of_lock h k else of_lock h k)
  here v e = ap (λ x. if x then b ∷ of_lock h k else of_lock h k) e

  pub rule_now : has b.held k ≡ true → (may_follow k limits.batch (map placed (of_lock seen k)) (placed b) ≡ true) × (passes_on k (of_lock seen k) b ≡ true)
  rule_now e = (
    (subst (λ bs. ObeysAfter k limits.batch (map placed (of_lock seen k)) (map placed bs)) (here true e) rules.obeys).0,
    (subst (λ bs. PassesOnAfter k (of_lock seen k) bs) (here true e) rules.passes).0,
  )

  pub rules_on : Rules placed limits (seen ++ b ∷ []) h k
  rules_on = go (has b.held k) refl
    where
      go : (v : Bool) → has b.held k ≡ v → Rules placed limits (seen ++ b ∷ []) h k
      go true e = record {
        obeys = subst (λ bs. ObeysAfter k limits.batch bs (map placed (of_lock h k))) (sym (ap (map placed) (more true e) ∙ map-append placed (of_lock seen k) (b ∷ [])))
            (subst (λ bs. ObeysAfter k limits.batch (map placed (of_lock seen k)) (map placed bs)) (here true e) rules.obeys).1;
        passes = subst (λ bs. PassesOnAfter k bs (of_lock h k)) (sym (more true e)) (subst (λ bs. PassesOnAfter k (of_lock seen k) bs) (here true e) rules.passes).1;
      }
      go false e =
          let same : of_lock seen k ≡ of_lock (seen ++ b ∷ []) k = sym (more false e ∙ append-nil (of_lock seen k)) in
          record {
            obeys = subst (λ bs. ObeysAfter k limits.batch (map placed bs) (map placed (of_lock h k))) same (subst (λ bs. ObeysAfter k limits.batch (map placed (of_lock seen k)) (map placed bs)) (here false e) rules.obeys);
            passes = subst (λ bs. PassesOnAfter k bs (of_lock h k)) same (subst (λ bs. PassesOnAfter k (of_lock seen k) bs) (here false e) rules.passes);
          }
