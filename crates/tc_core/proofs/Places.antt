-- Lists by number, with one value for each number past their end.
use Rattle.std.proofs.Common.{◌≡◌, ℕ, ◌<◌, ◌==◌, List, length, set, get_or, sym, ap, ◌∙◌, inl, inr}
use Rattle.std.specs.Prelude.{slice_get, unwrap_or, if◌then◌else◌}
use Rattle.std.proofs.lemmas.Bool.Decides.{eqb_tells}
use Rattle.std.proofs.lemmas.Option.{slice_get-get_or}
use Rattle.tc_journal.proofs.Lists.{get-set_same, get-set_other}
use Rattle.tc_core.specs.Core.{Custody, first_custody}
use Rattle.tc_core.specs.View.{custody_at}

-- the custody that is read at a place
pub custody_here : (xs : List Custody) (k : ℕ) (x : Custody) → k < length xs → x ≡ get_or xs k x → x ≡ custody_at xs k
custody_here xs k x lt e = e ∙ ap (λ o. unwrap_or o first_custody) (sym (slice_get-get_or xs k x lt))

-- an item that is written
pub item_set : {A : Type 0} (xs : List A) (n : ℕ) (x d : A) → n < length xs → (k : ℕ) → unwrap_or (slice_get (set xs n x) k) d ≡ (if k == n then x else unwrap_or (slice_get xs k) d)
item_set xs n x d lt k = elim (eqb_tells k n) [
  | inl h ↦ ap (λ j. unwrap_or (slice_get (set xs n x) j) d) h.1 ∙ ap (λ o. unwrap_or o d) (get-set_same xs n x lt) ∙ sym (ap (λ b. if b then x else unwrap_or (slice_get xs k) d) h.0)
  | inr h ↦ ap (λ o. unwrap_or o d) (get-set_other xs n k x h.1) ∙ sym (ap (λ b. if b then x else unwrap_or (slice_get xs k) d) h.0)
]
