-- The blocks of one key, as a thread or a worker, one block more; and what holds of each of them beside the one before it.
use Rattle.std.proofs.Common.{◌≡◌, ◌≢◌, ℕ, zero, suc, ◌-◌, ◌==◌, true, List, [], ◌∷◌, ◌++◌, length, filter, sym, refl, ap, ◌∙◌, subst, inl, inr, append-nil, append_assoc, if◌then◌else◌}
use Rattle.std.specs.Prelude.{Option, Some, None, slice_get}
use Rattle.std.proofs.lemmas.Bool.Decides.{eqb_tells}
use Rattle.std.proofs.lemmas.List.Elements.{filter-append}
use mathlib.Core.Logic.{dite}
use native.Mathlib.Decide.{ℕ_discrete}
use Rattle.tc_journal.specs.Batch.{last_of}
use Rattle.tc_journal.specs.Handing.{AreTogether, EachBehind, IsRunOn, IsStillAt, is_cut, of_worker, was_cut}
use Rattle.tc_journal.specs.History.{of_thread}
use Rattle.tc_journal.specs.declared.block.Block.{Block}
use Rattle.tc_journal.proofs.Batching.{last_more}

-- the blocks of a list with this key
abbrev pub of_key : (Block → ℕ) → List Block → ℕ → List Block
of_key key h k = filter (λ b. key b == k) h

-- the blocks of the block's key have it at their end
pub own_more : (key : Block → ℕ) (h : List Block) (b : Block) → of_key key (h ++ b ∷ []) (key b) ≡ of_key key h (key b) ++ b ∷ []
own_more key h b =
    filter-append (λ (c : Block). key c == key b) h (b ∷ [])
    ∙ (elim (eqb_tells (key b) (key b)) [
      | inl e ↦ ap (λ v. of_key key h (key b) ++ (if v then b ∷ [] else [])) e.0
      | inr e ↦ absurd (e.1 refl)
    ])

-- those of the others stay
pub other_more : (key : Block → ℕ) (h : List Block) (b : Block) (k : ℕ) → key b ≢ k → of_key key (h ++ b ∷ []) k ≡ of_key key h k
other_more key h b k ne =
    filter-append (λ (c : Block). key c == k) h (b ∷ [])
    ∙ (elim (eqb_tells (key b) k) [
      | inl e ↦ absurd (ne e.1)
      | inr e ↦ ap (λ v. of_key key h k ++ (if v then b ∷ [] else [])) e.0
    ])
    ∙ append-nil (of_key key h k)

-- the last one of its key is the new one
pub last_own : (key : Block → ℕ) (h : List Block) (b : Block) (k : ℕ) → key b ≡ k → last_of (of_key key (h ++ b ∷ []) k) ≡ Some b
last_own key h b k is = subst (λ u. last_of (of_key key (h ++ b ∷ []) u) ≡ Some b) is (ap last_of (own_more key h b) ∙ last_more (of_key key h (key b)) b)

from_first : (key : Block → ℕ) (c : Block) (rest : List Block) (k i : ℕ) (p : Block) → key c ≡ k → ((j : ℕ) → slice_get rest j ≡ Some p → key p ≡ k) → slice_get (c ∷ rest) i ≡ Some p → key p ≡ k
from_first key c rest k zero p is more e = (let same : c ≡ p = cc in ap key (sym same) ∙ is)
from_first key c rest k (suc i) p is more e = more i e

at_key : (key : Block → ℕ) (h : List Block) (k i : ℕ) (p : Block) → slice_get (of_key key h k) i ≡ Some p → key p ≡ k
at_key key [] k i p e = absurd (let n : ⊥ = cc in n)
at_key key (c ∷ cs) k i p e =
    let more : (j : ℕ) → slice_get (of_key key cs k) j ≡ Some p → key p ≡ k = λ j f. at_key key cs k j p f in
    elim (eqb_tells (key c) k) [
      | inl is ↦ from_first key c (of_key key cs k) k i p is.1 more (ap (λ v. slice_get (if v then c ∷ of_key key cs k else of_key key cs k) i) (sym is.0) ∙ e)
      | inr is ↦ more i (ap (λ v. slice_get (if v then c ∷ of_key key cs k else of_key key cs k) i) (sym is.0) ∙ e)
    ]

-- the last one of a key is of it
pub last_key : (key : Block → ℕ) (h : List Block) (k : ℕ) (p : Block) → last_of (of_key key h k) ≡ Some p → key p ≡ k
last_key key h k p e = at_key key h k (length (of_key key h k) - 1) p e

-- ---- each beside the one before it

each-more : (Stands : Option Block → Block → Type 0) (before bs : List Block) (b : Block) → EachBehind Stands before bs → Stands (last_of (before ++ bs)) b → EachBehind Stands before (bs ++ b ∷ [])
each-more Stands before [] b each next = (subst (λ xs. Stands (last_of xs) b) (append-nil before) next, tt)
each-more Stands before (x ∷ bs) b each next =
    (each.0, each-more Stands (before ++ x ∷ []) bs b each.1 (subst (λ xs. Stands (last_of xs) b) (sym (append_assoc before (x ∷ []) bs)) next))

-- what holds of each block beside the one of its key before it, holds with a block more of which it holds
pub each_still : (Stands : Option Block → Block → Type 0) (key : Block → ℕ) (h : List Block) (b : Block) → ((k : ℕ) → EachBehind Stands [] (of_key key h k)) → Stands (last_of (of_key key h (key b))) b → (k : ℕ) → EachBehind Stands [] (of_key key (h ++ b ∷ []) k)
each_still Stands key h b each next k = dite (ℕ_discrete (key b) k)
    (λ (is : key b ≡ k). subst (λ (u : ℕ). EachBehind Stands [] (of_key key (h ++ b ∷ []) u)) is (subst (EachBehind Stands []) (sym (own_more key h b)) (each-more Stands [] (of_key key h (key b)) b (each (key b)) next)))
    (λ (ne : key b ≢ k). subst (EachBehind Stands []) (sym (other_more key h b k ne)) (each k))

-- ---- a cut parts no thread from its worker

abbrev pub worker_of : Block → ℕ
worker_of b = b.worker

abbrev pub thread_of : Block → ℕ
thread_of b = b.thread

-- the last block of its worker before it and that of its thread, either of them only cut where they are one block
abbrev pub ComesTogether : List Block → Block → Type 0
ComesTogether h b = AreTogether (last_of (of_worker h b.worker)) (last_of (of_thread h b.thread))

pub runs_on_from : (h : List Block) (b : Block) → ComesTogether h b → IsRunOn (last_of (of_worker h b.worker)) b
runs_on_from h b both = by (last_of (of_worker h b.worker)) both.goes_on
  where
    by : (o : Option Block) → (was_cut o ≡ true → o ≡ last_of (of_thread h b.thread)) → IsRunOn o b
    by None one = tt
    by (Some p) one = λ e. sym (last_key thread_of h b.thread p (sym (one (ap is_cut e))))

pub stays_from : (h : List Block) (b : Block) → ComesTogether h b → IsStillAt (last_of (of_thread h b.thread)) b
stays_from h b both = by (last_of (of_thread h b.thread)) both.stays
  where
    by : (o : Option Block) → (was_cut o ≡ true → last_of (of_worker h b.worker) ≡ o) → IsStillAt o b
    by None one = tt
    by (Some p) one = λ e. sym (last_key worker_of h b.worker p (one (ap is_cut e)))
