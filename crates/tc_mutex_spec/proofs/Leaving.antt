-- How a block leaves its thread.
use Rattle.std.proofs.Common.{◌≡◌, ℕ, zero, suc, ◌+◌, ◌==◌, Bool, true, false, not, sym, refl, ap, ◌∙◌, arith, inl, inr}
use Rattle.std.specs.Prelude.{Option, Some, None, if◌then◌else◌}
use Rattle.tc_elf.specs.Shown.{Shown}
use Rattle.tc_exec.specs.declared.outcome.Act.{Act}
use Rattle.tc_exec.specs.declared.outcome.Act.TheVariants.{Next, Called, Faulted}
use Rattle.tc_exec.specs.declared.outcome.Call.TheVariants.{Lock, Unlock, Sleep, Exit}
use Rattle.tc_journal.specs.Rule.{end_rule}
use Rattle.tc_journal.specs.Batch.{ends_thread}
use Rattle.tc_journal.specs.declared.rule.Outcome.{Outcome}
use Rattle.tc_journal.specs.declared.rule.Outcome.TheVariants as outcome
use Rattle.tc_journal.specs.declared.block.End.{End}
use Rattle.tc_journal.specs.declared.block.End.TheVariants as end
use Rattle.tc_turn.specs.declared.status.Status.TheVariants.{Running}
use Rattle.tc_turn.specs.Turn.{Thread, Mutex, is_running, next_lock, next_act, outcome_of, thread_after}
use Rattle.tc_mutex_spec.specs.Machine.{State, after}
use Rattle.tc_mutex_spec.specs.Blocks.{locks_of_block, reach, Runs}
use Rattle.tc_turn.specs.Reads.{Covers}
use Rattle.tc_turn.proofs.Turns.{act_takes, held_grows, released_held}
use Rattle.tc_mutex_spec.proofs.Local.{after_thread}
use Rattle.tc_mutex_spec.proofs.BlocksAlike.{covers_within, covers_block}
use Rattle.tc_mutex_spec.proofs.Replaying.{turn_runs}

went_on : (n : ℕ) (next : Option ℕ) (e : End) → end_rule outcome.Went n next ≡ Some e → ends_thread e ≡ false
went_on n (Some lock) e is = (let s : end.Wants lock ≡ e = cc in ap ends_thread (sym s))
went_on n None e is = (elim (n == 4096) as (λ b. (if b then Some end.Cut else None) ≡ Some e → ends_thread e ≡ false) [
  | true ↦ λ h. (let s : end.Cut ≡ e = cc in ap ends_thread (sym s))
  | false ↦ λ h. absurd (cc)
]) is

-- the thread runs after the turn that ends its block, where the block's end doesn't end it
runs_on : (d : Thread) (a : Option Act) (n : ℕ) (next : Option ℕ) (e : End) → d.status ≡ Running → end_rule (outcome_of a) n next ≡ Some e → is_running (thread_after d a).status ≡ not (ends_thread e)
runs_on d None n next e runs is = (let s : end.Spent ≡ e = cc in ap (λ x. not (ends_thread x)) s)
runs_on d (Some (Next regs put)) n next e runs is = ap is_running runs ∙ ap not (sym (went_on n next e is))
runs_on d (Some (Called (Lock lock) regs)) n next e runs is = ap is_running runs ∙ ap not (sym (went_on n next e is))
runs_on d (Some (Called (Unlock lock) regs)) n next e runs is = (let s : end.Unlocked lock ≡ e = cc in ap is_running runs ∙ ap (λ x. not (ends_thread x)) s)
runs_on d (Some (Called (Sleep m) regs)) n next e runs is = (let s : end.Slept ≡ e = cc in ap is_running runs ∙ ap (λ x. not (ends_thread x)) s)
runs_on d (Some (Called Exit regs)) n next e runs is = (let s : end.Exit ≡ e = cc in ap (λ x. not (ends_thread x)) s)
runs_on d (Some (Faulted f)) n next e runs is = (let s : end.Fault f ≡ e = cc in ap (λ x. not (ends_thread x)) s)

-- an end that wants a lock names the next one
wants_next : (o : Outcome) (n : ℕ) (next : Option ℕ) (k : ℕ) → end_rule o n next ≡ Some (end.Wants k) → next ≡ Some k
wants_next outcome.Exited n next k is = absurd (cc)
wants_next (outcome.Faulted f) n next k is = absurd (cc)
wants_next outcome.Spent n next k is = absurd (cc)
wants_next (outcome.Unlocked lock) n next k is = absurd (cc)
wants_next outcome.Slept n next k is = absurd (cc)
wants_next outcome.Went n (Some lock) k is = (let same : lock ≡ k = cc in ap Some same)
wants_next outcome.Went n None k is = (elim (n == 4096) as (λ b. (if b then Some end.Cut else None) ≡ Some (end.Wants k) → None ≡ Some k) [ true ↦ λ h. absurd (cc) | false ↦ λ h. absurd (cc) ]) is

-- a block is cut only where no lock is next
cut_next : (o : Outcome) (n : ℕ) (next : Option ℕ) → end_rule o n next ≡ Some end.Cut → next ≡ None
cut_next outcome.Exited n next is = absurd (cc)
cut_next (outcome.Faulted f) n next is = absurd (cc)
cut_next outcome.Spent n next is = absurd (cc)
cut_next (outcome.Unlocked lock) n next is = absurd (cc)
cut_next outcome.Slept n next is = absurd (cc)
cut_next outcome.Went n (Some lock) is = absurd (cc)
cut_next outcome.Went n None is = refl

-- an end that releases a lock names the one that the last turn released
unlocked_was : (o : Outcome) (n : ℕ) (next : Option ℕ) (k : ℕ) → end_rule o n next ≡ Some (end.Unlocked k) → o ≡ outcome.Unlocked k
unlocked_was outcome.Exited n next k is = absurd (cc)
unlocked_was (outcome.Faulted f) n next k is = absurd (cc)
unlocked_was outcome.Spent n next k is = absurd (cc)
unlocked_was (outcome.Unlocked lock) n next k is = (let same : lock ≡ k = cc in ap outcome.Unlocked same)
unlocked_was outcome.Slept n next k is = absurd (cc)
unlocked_was outcome.Went n (Some lock) k is = absurd (cc)
unlocked_was outcome.Went n None k is = (elim (n == 4096) as (λ b. (if b then Some end.Cut else None) ≡ Some (end.Unlocked k) → outcome.Went ≡ outcome.Unlocked k) [ true ↦ λ h. absurd (cc) | false ↦ λ h. absurd (cc) ]) is

pub block_runs : (image : Shown) (m to : State) (t n : ℕ) (e : End) → Runs image m t n e to → is_running ((reach image m t n).threads t).status ≡ not (ends_thread e)
block_runs image m to t zero e runs = absurd (let s = runs.some in omega arith)
block_runs image m to t (suc i) e runs =
    let from = reach image m t i in
    ap (λ (d : Thread). is_running d.status) (after_thread image from t)
    ∙ runs_on (from.threads t) (next_act image (from.threads t) from.locks) (i + 1) (next_lock image ((after image from t).threads t)) e (turn_runs image from t (runs.defined i (omega arith))) (runs.ends i (omega arith))

pub block_next : (image : Shown) (m to : State) (t n : ℕ) (e : End) → Runs image m t n e to → (k : ℕ) → e ≡ end.Wants k → next_lock image ((reach image m t n).threads t) ≡ Some k
block_next image m to t zero e runs k is = absurd (let s = runs.some in omega arith)
block_next image m to t (suc i) e runs k is =
    let from = reach image m t i in
    wants_next (outcome_of (next_act image (from.threads t) from.locks)) (i + 1) (next_lock image ((after image from t).threads t)) k (runs.ends i (omega arith) ∙ ap Some is)

pub block_cut : (image : Shown) (m to : State) (t n : ℕ) (e : End) → Runs image m t n e to → e ≡ end.Cut → next_lock image ((reach image m t n).threads t) ≡ None
block_cut image m to t zero e runs is = absurd (let s = runs.some in omega arith)
block_cut image m to t (suc i) e runs is =
    let from = reach image m t i in
    cut_next (outcome_of (next_act image (from.threads t) from.locks)) (i + 1) (next_lock image ((after image from t).threads t)) (runs.ends i (omega arith) ∙ ap Some is)

-- which is a lock of the block
pub block_releases : (image : Shown) (m to : State) (t n : ℕ) (e : End) → Runs image m t n e to → (k : ℕ) → e ≡ end.Unlocked k → locks_of_block (m.threads t).held (next_lock image (m.threads t)) k ≡ true
block_releases image m to t zero e runs k is = absurd (let s = runs.some in omega arith)
block_releases image m to t (suc i) e runs k is =
    let from = reach image m t i in
    let covers = covers_within image (locks_of_block (m.threads t).held (next_lock image (m.threads t))) m t (suc i) (covers_block image (m.threads t)) runs.before i (omega arith) in
    covers.held k (released_held image (from.threads t) from.locks k (unlocked_was (outcome_of (next_act image (from.threads t) from.locks)) (i + 1) (next_lock image ((after image from t).threads t)) k (runs.ends i (omega arith) ∙ ap Some is)))

-- what a thread holds after a turn is covered by what covered the turn
turn_covered : (image : Shown) (set : ℕ → Bool) (d : Thread) (locks : ℕ → Mutex) (k : ℕ) → Covers image set d → (thread_after d (next_act image d locks)).held k ≡ true → set k ≡ true
unfolding next_act
turn_covered image set d locks k covers h = elim (held_grows d (next_act image d locks) k h) [
  | inl before ↦ covers.held k before
  | inr took ↦ covers.next k (act_takes image d _ k took.0 took.1)
]

-- what a thread holds after a block is a lock of the block
pub block_covered : (image : Shown) (m to : State) (t n : ℕ) (e : End) → Runs image m t n e to → (k : ℕ) → ((reach image m t n).threads t).held k ≡ true → locks_of_block (m.threads t).held (next_lock image (m.threads t)) k ≡ true
block_covered image m to t zero e runs k h = absurd (let s = runs.some in omega arith)
block_covered image m to t (suc n) e runs k h =
    let set = locks_of_block (m.threads t).held (next_lock image (m.threads t)) in
    let from = reach image m t n in
    turn_covered image set (from.threads t) from.locks k (covers_within image set m t (suc n) (covers_block image (m.threads t)) runs.before n (omega arith))
    (sym (ap (λ (x : Thread). x.held k) (after_thread image from t)) ∙ h)
