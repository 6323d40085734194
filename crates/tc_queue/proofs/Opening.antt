-- A new queue keeps the rule, and its seats are new.
use Rattle.std.proofs.Common.{◌≡◌, ℕ, zero, suc, ◌+◌, ◌≤◌, List, [], ◌∷◌, ◌++◌, All, length, replicate, get_or, sym, refl, ap, ◌∙◌, subst, arith}
use Rattle.std.proofs.lemmas.List.{length-replicate}
use Rattle.std.proofs.lemmas.List.Elements.{All-append}
use mathlib.Core.Option.{some, some-injective, some-ne-none}
use lib.ListN.{get_elem?}
use Rattle.atomic_table.specs.Table.{opening}
use Rattle.tc_queue.specs.declared.board.SeatLog.{SeatLog}
use Rattle.tc_queue.specs.Order.{first_log, IsOrdered}

pub zeros : (n i : ℕ) → ◌≡◌ {A = ℕ} (get_or (replicate n 0) i 0) 0
zeros zero i = refl
zeros (suc n) zero = refl
zeros (suc n) (suc i) = zeros n i

only : (v w : SeatLog) (id : ℕ) → get_elem? (v ∷ []) id ≡ some w → v ≡ w
only v w zero e = some-injective v w e
only v w (suc id) e = absurd (some-ne-none w (sym e))

pub opens : (n : ℕ) (words : List ℕ) → n ≤ 64 → words ≡ replicate (n + 1) 0 → IsOrdered n (opening {S = ℕ} words [] (first_log n))
opens n words few are = record {
  few = few;
  order = [];
  legal = tt;
  words = record {
    count = ap length are ∙ length-replicate (n + 1) 0;
    tail = ap (λ (l : List ℕ). get_or l 0 0) are ∙ zeros (n + 1) 0;
    links = λ t h. ap (λ (l : List ℕ). get_or l (t + 1) 0) are ∙ zeros (n + 1) (t + 1);
  };
  seats = λ id v e. sym (only (first_log n) v id e);
  made = λ k d h. absurd (omega arith);
}

one : {A : Type 0} (P : A → Type 0) (x : A) → P x → All P (x ∷ [])
one P x p zero d h = p
one P x p (suc k) d h = absurd (omega arith)

pub one_more : {A : Type 0} (P : A → Type 0) (xs ys : List A) (x : A) → All P xs → P x → ys ≡ xs ++ x ∷ [] → All P ys
one_more P xs ys x all p e = subst (All P) (sym e) (All-append P xs (x ∷ []) all (one P x p))
