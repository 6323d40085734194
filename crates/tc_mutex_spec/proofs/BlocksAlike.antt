-- A block is the same wherever its thread and its locks are the same.
use Rattle.std.proofs.Common.{◌≡◌, ℕ, zero, suc, ◌+◌, ◌<◌, Bool, true, false, ◌==◌, refl, sym, ap, subst, ◌∙◌, arith, inl, inr}
use Rattle.std.specs.Prelude.{Option, Some, None, ◌||◌}
use Rattle.std.proofs.lemmas.Bool.Decides.{eqb_tells}
use Rattle.tc_elf.specs.Shown.{Shown}
use Rattle.tc_journal.specs.Rule.{end_rule}
use Rattle.tc_journal.specs.declared.block.End.{End}
use Rattle.tc_turn.specs.Turn.{Thread, next_lock, outcome_of}
use Rattle.tc_turn.specs.Reads.{Covers}
use Rattle.tc_turn.proofs.Turns.{covers_on, goes_on}
use Rattle.tc_mutex_spec.specs.Machine.{State, after}
use Rattle.tc_mutex_spec.specs.Locality.{Agree, Apart}
use Rattle.tc_mutex_spec.specs.Blocks.{reach, end_at, locks_of_block, Runs}
use Rattle.tc_mutex_spec.proofs.Local.{after_thread, act_agree, turn_apart, turn_same, turn_agree}
use Rattle.tc_lemmas.proofs.Tests.{eq_self}

covers_step : (image : Shown) (set : ℕ → Bool) (m : State) (t : ℕ) → Covers image set (m.threads t) → next_lock image ((after image m t).threads t) ≡ None → Covers image set ((after image m t).threads t)
covers_step image set m t covers none =
    let moved = after_thread image m t in
    subst (λ d. Covers image set d) (sym moved) (covers_on image set (m.threads t) m.locks covers (ap (next_lock image) (sym moved) ∙ none))

-- no turn of a block but the first takes a lock, so one set covers all of them
pub covers_within : (image : Shown) (set : ℕ → Bool) (m : State) (t n : ℕ) → Covers image set (m.threads t) → ((k : ℕ) → k + 1 < n → end_at image m t k ≡ None) → (k : ℕ) → k < n → Covers image set ((reach image m t k).threads t)
covers_within image set m t n covers before zero lt = covers
covers_within image set m t n covers before (suc k) lt =
    covers_step image set (reach image m t k) t (covers_within image set m t n covers before k (omega arith)) (goes_on ((reach image m t k).threads t) _ _ _ (before k (omega arith))).0

pub agree_within : (image : Shown) (set : ℕ → Bool) (m n : State) (t turns : ℕ) → ((k : ℕ) → k < turns → Covers image set ((reach image m t k).threads t)) → Agree t set m n → (k : ℕ) → k < turns + 1 → Agree t set (reach image m t k) (reach image n t k)
agree_within image set m n t turns covers agree zero lt = agree
agree_within image set m n t turns covers agree (suc k) lt =
    turn_agree image (reach image m t k) (reach image n t k) t set (covers k (omega arith)) (agree_within image set m n t turns covers agree k (omega arith))

apart_more : (t : ℕ) (set : ℕ → Bool) (a b c : State) → Apart t set a b → Apart t set b c → Apart t set a c
apart_more t set a b c p q = record { threads = λ k ne. q.threads k ne ∙ p.threads k ne; locks = λ k out. q.locks k out ∙ p.locks k out }

pub apart_within : (image : Shown) (set : ℕ → Bool) (m : State) (t turns : ℕ) → ((k : ℕ) → k < turns → Covers image set ((reach image m t k).threads t)) → (k : ℕ) → k < turns + 1 → Apart t set m (reach image m t k)
apart_within image set m t turns covers zero lt = record { threads = λ k ne. refl; locks = λ k out. refl }
apart_within image set m t turns covers (suc k) lt =
    apart_more t set m (reach image m t k) (reach image m t (suc k)) (apart_within image set m t turns covers k (omega arith)) (turn_apart image (reach image m t k) t set (covers k (omega arith)))

pub end_same : (image : Shown) (set : ℕ → Bool) (m n : State) (t k : ℕ) → Covers image set ((reach image m t k).threads t) → Agree t set (reach image m t k) (reach image n t k) → end_at image m t k ≡ end_at image n t k
end_same image set m n t k covers agree =
    let acts = act_agree image (reach image m t k) (reach image n t k) t set covers agree in
    let nexts = ap (next_lock image) (turn_agree image (reach image m t k) (reach image n t k) t set covers agree).thread in
    (λ i. end_rule (outcome_of (acts i)) (k + 1) (nexts i))

pub runs_same : (image : Shown) (m n last : State) (t turns : ℕ) (end : End) (set : ℕ → Bool)
    → Runs image m t turns end last → Covers image set (m.threads t) → Agree t set m n
    → (other : State) × (Runs image n t turns end other) × (Agree t set last other) × (Apart t set n other)
runs_same image m n last t turns end set runs covers agree =
    let each = covers_within image set m t turns covers runs.before in
    let alike = agree_within image set m n t turns each agree in
    let each' = (λ (k : ℕ) (lt : k < turns). subst (λ d. Covers image set d) (alike k (omega arith)).thread (each k lt)) in (
      reach image n t turns,
      record {
        some = runs.some;
        defined = λ k lt. sym (turn_same image (reach image m t k) (reach image n t k) t set (each k lt) (alike k (omega arith))) ∙ runs.defined k lt;
        before = λ k lt. sym (end_same image set m n t k (each k (omega arith)) (alike k (omega arith))) ∙ runs.before k lt;
        ends = λ k e. sym (end_same image set m n t k (each k (omega arith)) (alike k (omega arith))) ∙ runs.ends k e;
        last = refl;
      },
      subst (λ x. Agree t set x (reach image n t turns)) (sym runs.last) (alike turns (omega arith)),
      apart_within image set n t turns each' turns (omega arith),
    )

-- a block's locks are all that its first turn can touch
pub covers_block : (image : Shown) (d : Thread) → Covers image (locks_of_block d.held (next_lock image d)) d
covers_block image d = go (next_lock image d) refl
  where
    go : (o : Option ℕ) → next_lock image d ≡ o → Covers image (locks_of_block d.held o) d
    go None e = record { held = λ k h. h; next = λ k h. cc }
    go (Some j) e = record {
      held = λ k h. elim (k == j) as (λ b. (b || d.held k) ≡ true) [ true ↦ refl | false ↦ h ];
      next = λ k h. (let same : k ≡ j = cc in rw same (ap (λ b. b || d.held j) (eq_self j)));
    }

pub runs_apart : (image : Shown) (m last : State) (t turns : ℕ) (end : End) → Runs image m t turns end last → Apart t (locks_of_block (m.threads t).held (next_lock image (m.threads t))) m last
runs_apart image m last t turns end runs =
    let set = locks_of_block (m.threads t).held (next_lock image (m.threads t)) in
    let each = covers_within image set m t turns (covers_block image (m.threads t)) runs.before in
    subst (λ x. Apart t set m x) (sym runs.last) (apart_within image set m t turns each turns (omega arith))
