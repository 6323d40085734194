-- How a block leaves its thread.
use Rattle.std.proofs.Common.{◌≡◌, ℕ, zero, suc, ◌+◌, ◌<◌, ◌≤◌, Bool, true, false, refl, sym, ap, ◌∙◌, inl, inr, arith}
use Rattle.std.specs.Prelude.{Option, Some, None, if◌then◌else◌}
use Rattle.std.proofs.lemmas.Bool.Decides.{eqb_tells}
use Rattle.tc_elf.specs.Shown.{Shown}
use Rattle.tc_exec.specs.declared.outcome.Act.{Act}
use Rattle.tc_exec.specs.declared.outcome.Act.TheVariants.{Next, Called, Faulted}
use Rattle.tc_exec.specs.declared.outcome.Call.TheVariants.{Lock, Unlock, Sleep, Exit}
use Rattle.tc_journal.specs.declared.block.End.{End}
use Rattle.tc_turn.specs.Turn.{Thread, Mutex, is_running, next_act, thread_after}
use Rattle.tc_mutex_spec.specs.Machine.{State}
use Rattle.tc_mutex_spec.specs.Blocks.{reach, Runs}
use Rattle.tc_mutex_spec.proofs.Local.{after_thread}
use Rattle.tc_mutex_spec.proofs.Replaying.{turn_runs}

-- ---- how a turn leaves its thread

-- a turn that ends its thread leaves it without a lock
pub after_end : (d : Thread) (a : Option Act) → is_running d.status ≡ true → is_running (thread_after d a).status ≡ false → (k : ℕ) → (thread_after d a).held k ≡ false
after_end d None runs ends k = refl
after_end d (Some (Next regs put)) runs ends k = absurd (cc)
after_end d (Some (Called (Lock lock) regs)) runs ends k = absurd (cc)
after_end d (Some (Called (Unlock lock) regs)) runs ends k = absurd (cc)
after_end d (Some (Called (Sleep n) regs)) runs ends k = absurd (cc)
after_end d (Some (Called Exit regs)) runs ends k = refl
after_end d (Some (Faulted f)) runs ends k = refl

fuel_after : (d : Thread) (a : Option Act) → (thread_after d a).fuel ≤ d.fuel
fuel_after d None = omega arith
fuel_after d (Some (Next regs put)) = omega arith
fuel_after d (Some (Called (Lock lock) regs)) = omega arith
fuel_after d (Some (Called (Unlock lock) regs)) = omega arith
fuel_after d (Some (Called (Sleep n) regs)) = omega arith
fuel_after d (Some (Called Exit regs)) = omega arith
fuel_after d (Some (Faulted f)) = omega arith

fuel_falls : (d : Thread) (a : Act) → 0 < d.fuel → (thread_after d (Some a)).fuel < d.fuel
fuel_falls d (Next regs put) h = omega arith
fuel_falls d (Called (Lock lock) regs) h = omega arith
fuel_falls d (Called (Unlock lock) regs) h = omega arith
fuel_falls d (Called (Sleep n) regs) h = omega arith
fuel_falls d (Called Exit regs) h = omega arith
fuel_falls d (Faulted f) h = omega arith

some_fuel : (image : Shown) (d : Thread) (locks : ℕ → Mutex) (a : Act) → next_act image d locks ≡ Some a → 0 < d.fuel
unfolding next_act
some_fuel image d locks a = elim (eqb_tells d.fuel 0) [
  | inl e ↦ rw (e.0) (λ h. absurd (cc))
  | inr e ↦ λ h. omega (arith, e.1)
]

-- an instruction costs fuel
pub turn_falls : (image : Shown) (d : Thread) (locks : ℕ → Mutex) → is_running (thread_after d (next_act image d locks)).status ≡ true → (thread_after d (next_act image d locks)).fuel < d.fuel
turn_falls image d locks runs = go (next_act image d locks) refl runs
  where
    go : (a : Option Act) → next_act image d locks ≡ a → is_running (thread_after d a).status ≡ true → (thread_after d a).fuel < d.fuel
    go None e h = absurd (cc)
    go (Some a) e h = fuel_falls d a (some_fuel image d locks a e)

-- ---- how a block leaves its thread

reach_fuel : (image : Shown) (m : State) (t n : ℕ) → ((reach image m t n).threads t).fuel ≤ (m.threads t).fuel
reach_fuel image m t zero = omega arith
reach_fuel image m t (suc n) =
    let here = reach image m t n in
    omega (arith, ap (λ (d : Thread). d.fuel) (after_thread image here t), fuel_after (here.threads t) (next_act image (here.threads t) here.locks), reach_fuel image m t n)

-- a block after which its thread runs cost fuel
pub block_falls : (image : Shown) (m last : State) (t n : ℕ) (end : End) → Runs image m t n end last → is_running (last.threads t).status ≡ true → (last.threads t).fuel < (m.threads t).fuel
block_falls image m last t zero end runs h = absurd (omega (arith, runs.some))
block_falls image m last t (suc n) end runs h =
    let here = reach image m t n in
    let thread : last.threads t ≡ thread_after (here.threads t) (next_act image (here.threads t) here.locks) = ap (λ (s : State). s.threads t) runs.last ∙ after_thread image here t in
    let falls = turn_falls image (here.threads t) here.locks (ap (λ (d : Thread). is_running d.status) (sym thread) ∙ h) in
    omega (arith, ap (λ (d : Thread). d.fuel) thread, falls, reach_fuel image m t n)

-- a block that ends its thread leaves it without a lock
pub block_ends : (image : Shown) (m last : State) (t n : ℕ) (end : End) → Runs image m t n end last → is_running (last.threads t).status ≡ false → (k : ℕ) → (last.threads t).held k ≡ false
block_ends image m last t zero end runs h k = absurd (omega (arith, runs.some))
block_ends image m last t (suc n) end runs h k =
    let here = reach image m t n in
    let thread : last.threads t ≡ thread_after (here.threads t) (next_act image (here.threads t) here.locks) = ap (λ (s : State). s.threads t) runs.last ∙ after_thread image here t in
    ap (λ (d : Thread). d.held k) thread
    ∙ after_end (here.threads t) (next_act image (here.threads t) here.locks) (ap is_running (turn_runs image here t (runs.defined n (omega arith)))) (ap (λ (d : Thread). is_running d.status) (sym thread) ∙ h) k

-- ---- a thread comes to its end

-- how many turns a thread has left at most: what falls with each of its turns and blocks, also with the last one
abbrev pub left : Thread → ℕ
left d = if is_running d.status then d.fuel + 1 else 0

pub left_falls : (d e : Thread) → is_running d.status ≡ true → (is_running e.status ≡ true → e.fuel < d.fuel) → left e < left d
left_falls d e runs falls = rw runs (go (is_running e.status) refl)
  where
    go : (b : Bool) → is_running e.status ≡ b → (if b then e.fuel + 1 else 0) < d.fuel + 1
    go true h = omega (arith, falls h)
    go false h = omega arith
