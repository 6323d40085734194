-- A block that has not ended yet, turn by turn.
use Rattle.std.proofs.Common.{◌≡◌, ℕ, ◌+◌, ◌<◌, Bool, true, refl, sym, subst, ◌∙◌, arith, add-one, below_more}
use Rattle.std.specs.Prelude.{Some, None}
use Rattle.tc_elf.specs.Shown.{Shown}
use Rattle.tc_journal.specs.Rule.{end_rule}
use Rattle.tc_journal.specs.declared.block.End.{End}
use Rattle.tc_turn.specs.Turn.{next_lock, next_act, outcome_of}
use Rattle.tc_turn.specs.Reads.{Covers}
use Rattle.tc_mutex_spec.specs.Machine.{State, can_turn, after}
use Rattle.tc_mutex_spec.specs.Locality.{Agree}
use Rattle.tc_mutex_spec.specs.Blocks.{reach, end_at, Runs}
use Rattle.tc_mutex_spec.proofs.Local.{act_agree, turn_agree, turn_same, agree_trans}

-- t took n turns from m, each of them defined, and none of them ends its block
pub record AreWithin (image : Shown) (m : State) (t n : ℕ) : Type 0 where
  pub defined : (k : ℕ) → k < n → can_turn image (reach image m t k) t ≡ true
  pub before : (k : ℕ) → k < n → end_at image m t k ≡ None

pub within_start : (image : Shown) (m : State) (t : ℕ) → AreWithin image m t 0
within_start image m t = record { defined = λ k lt. absurd (omega arith); before = λ k lt. absurd (omega arith) }

module _ (image : Shown) (m : State) (t n : ℕ) (within : AreWithin image m t n) (can : can_turn image (reach image m t n) t ≡ true) where
  all_defined : (k : ℕ) → k < n + 1 → can_turn image (reach image m t k) t ≡ true
  all_defined = below_more (λ k. can_turn image (reach image m t k) t ≡ true) n within.defined can

  pub within_more : end_at image m t n ≡ None → AreWithin image m t (n + 1)
  within_more none = record { defined = all_defined; before = below_more (λ k. end_at image m t k ≡ None) n within.before none }

  -- the turn that ends the block makes it one
  pub within_ends : (end : End) → end_at image m t n ≡ Some end → Runs image m t (n + 1) end (reach image m t (n + 1))
  within_ends end ends = record {
    some = omega arith;
    defined = all_defined;
    before = λ k lt. within.before k (omega arith);
    ends = λ k e. (let same : k ≡ n = omega arith in subst (λ j. end_at image m t j ≡ Some end) (sym same) ends);
    last = refl;
  }

-- turn number n of t from m on, told by a machine that agrees with m where it is taken, and by one that agrees after it
pub record IsTold (image : Shown) (m : State) (t n : ℕ) (set : ℕ → Bool) (here there : State) : Type 0 where
  pub can : can_turn image (reach image m t n) t ≡ true
  pub acts : next_act image ((reach image m t n).threads t) (reach image m t n).locks ≡ next_act image (here.threads t) here.locks
  pub end : end_at image m t n ≡ end_rule (outcome_of (next_act image (here.threads t) here.locks)) (n + 1) (next_lock image (there.threads t))
  pub agree : Agree t set (reach image m t (n + 1)) there

pub turn_told : (image : Shown) (m : State) (t n : ℕ) (set : ℕ → Bool) (here there : State) → Covers image set (here.threads t) → can_turn image here t ≡ true → Agree t set (reach image m t n) here
    → Agree t set (after image here t) there → IsTold image m t n set here there
turn_told image m t n set here there covers can agree moved =
    let from = reach image m t n in
    let cover = subst (λ d. Covers image set d) (sym agree.thread) covers in
    let acts = act_agree image from here t set cover agree in
    let all = agree_trans t set (after image from t) (after image here t) there (turn_agree image from here t set cover agree) moved in
    record {
      can = turn_same image from here t set cover agree ∙ can;
      acts = acts;
      end = λ i. end_rule (outcome_of (acts i)) (n + 1) (next_lock image (all.thread i));
      agree = rw add-one all;
    }
