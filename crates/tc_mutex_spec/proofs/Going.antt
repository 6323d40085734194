-- What a thread holds in the middle of a block, and what the block's end gives up.
use Rattle.std.proofs.Common.{◌≡◌, ◌⊎◌, ℕ, zero, suc, ◌+◌, ◌<◌, ◌≤◌, length, Bool, true, false, not, ◌||◌, ◌&&◌, ◌==◌, refl, sym, ap, subst, ◌∙◌, arith, inl, inr}
use Rattle.std.specs.Prelude.{Option, Some, None, IfSome, if◌then◌else◌}
use Rattle.std.proofs.lemmas.Bool.{or_right}
use Rattle.std.proofs.lemmas.Bool.Decides.{eqb_tells, nat_tests}
use Rattle.tc_elf.specs.Shown.{Shown}
use Rattle.tc_isa.specs.Registers.{Registers}
use Rattle.tc_isa.specs.declared.limits.TheConstants.{MAX_TURNS}
use Rattle.tc_exec.specs.Step.{wants_of, act_of}
use Rattle.tc_exec.specs.Calls.{answered}
use Rattle.tc_exec.specs.declared.outcome.Act.{Act}
use Rattle.tc_exec.specs.declared.outcome.Act.TheVariants.{Next, Called, Faulted}
use Rattle.tc_exec.specs.declared.outcome.Call.TheVariants.{Lock, Unlock, Sleep, Exit}
use Rattle.tc_exec.specs.declared.outcome.Done.{Done}
use Rattle.tc_exec.specs.declared.outcome.Done.TheVariants as done
use Rattle.tc_exec.proofs.Laws.{lock_is_free}
use Rattle.tc_journal.specs.Rule.{end_rule}
use Rattle.tc_journal.specs.History.{IsEnd}
use Rattle.tc_journal.specs.Batch.{unlocks, ends_thread}
use Rattle.tc_journal.specs.declared.rule.Outcome.TheVariants as outcome
use Rattle.tc_journal.specs.declared.block.End.{End}
use Rattle.tc_journal.specs.declared.block.End.TheVariants as end
use Rattle.tc_turn.specs.Turn.{Thread, Mutex, taken_by, next_lock, next_act, answer_to, outcome_of, thread_after, mutex_after, given_up}
use Rattle.tc_turn.specs.InPlace.{DoneFits, outcome_done}
use Rattle.tc_turn.specs.Reads.{Covers}
use Rattle.tc_turn.proofs.Turns.{next_known, taken_was}
use Rattle.tc_mutex_spec.specs.Machine.{State, after}
use Rattle.tc_mutex_spec.specs.Blocks.{locks_of_block, reach, Runs}
use Rattle.tc_mutex_spec.proofs.Local.{after_thread, after_mutex}
use Rattle.tc_lemmas.proofs.Tests.{eq_self}

-- ---- the last turn

went_ends : (n : ℕ) (next : Option ℕ) (e : End) → end_rule outcome.Went n next ≡ Some e → (ends_thread e ≡ false) × ((k : ℕ) → unlocks k e ≡ false)
went_ends n (Some lock) e is = (let s : end.Wants lock ≡ e = cc in subst (λ x. (ends_thread x ≡ false) × ((k : ℕ) → unlocks k x ≡ false)) s (refl, λ k. refl))
went_ends n None e is =
    (elim (n == MAX_TURNS) as (λ b. (if b then Some end.Cut else None) ≡ Some e → (ends_thread e ≡ false) × ((k : ℕ) → unlocks k e ≡ false)) [
      | true ↦ λ is. (let s : end.Cut ≡ e = cc in subst (λ x. (ends_thread x ≡ false) × ((k : ℕ) → unlocks k x ≡ false)) s (refl, λ k. refl))
      | false ↦ λ is. absurd (cc)
    ]) is

went_fits : (n : ℕ) (next : Option ℕ) (e : End) → IfSome next (λ k. k < 32) → end_rule outcome.Went n next ≡ Some e → IsEnd e
went_fits n (Some lock) e small is = (let s : end.Wants lock ≡ e = cc in subst IsEnd s small)
went_fits n None e small is = (elim (n == MAX_TURNS) as (λ b. (if b then Some end.Cut else None) ≡ Some e → IsEnd e) [
  | true ↦ λ h. (let s : end.Cut ≡ e = cc in subst IsEnd s tt)
  | false ↦ λ h. absurd (cc)
]) is

pub no_cut : (n : ℕ) → n < MAX_TURNS → end_rule outcome.Went n None ≡ None
no_cut n lt = grind (arith, nat_tests)

-- the next lock is one of the image's
pub next_small : (image : Shown) (d : Thread) → length image.guards ≤ 32 → IfSome (next_lock image d) (λ k. k < 32)
next_small image d few = go (next_lock image d) refl
  where
    go : (o : Option ℕ) → next_lock image d ≡ o → IfSome o (λ k. k < 32)
    go None e = tt
    go (Some k) e = omega (arith, next_known image d k e, few)

-- an end names a lock below 32, where what was done and the next turn do
pub end_done : (did : Option Done) (n : ℕ) (next : Option ℕ) (e : End) → IfSome did DoneFits → IfSome next (λ k. k < 32) → end_rule (outcome_done did) n next ≡ Some e → IsEnd e
end_done None n next e fits small is = (let s : end.Spent ≡ e = cc in subst IsEnd s tt)
end_done (Some done.Went) n next e fits small is = went_fits n next e small is
end_done (Some (done.Stored put)) n next e fits small is = went_fits n next e small is
end_done (Some (done.Called (Lock lock))) n next e fits small is = went_fits n next e small is
end_done (Some (done.Called (Unlock lock))) n next e fits small is = (let s : end.Unlocked lock ≡ e = cc in subst IsEnd s fits)
end_done (Some (done.Called (Sleep m))) n next e fits small is = (let s : end.Slept ≡ e = cc in subst IsEnd s tt)
end_done (Some (done.Called Exit)) n next e fits small is = (let s : end.Exit ≡ e = cc in subst IsEnd s tt)
end_done (Some (done.Faulted f)) n next e fits small is = (let s : end.Fault f ≡ e = cc in subst IsEnd s tt)

both_ways : (b c : Bool) → b ≡ true → b ≡ false → c ≡ true
both_ways b c e f = absurd (let h : true ≡ false = sym e ∙ f in cc)

-- a turn that ends its thread breaks each lock that the thread held
breaks : (image : Shown) (t : ℕ) (held : ℕ → Bool) (a : Option Act) (k : ℕ) (l : Mutex) (n : ℕ) (next : Option ℕ) (e : End) → end_rule (outcome_of a) n next ≡ Some e → ends_thread e ≡ true → held k ≡ true → (mutex_after image t held a k l).broken ≡ true
breaks image t held None k l n next e is ends h = ap (λ b. (given_up b l).broken) h
breaks image t held (Some (Next regs put)) k l n next e is ends h = both_ways (ends_thread e) _ ends (went_ends n next e is).0
breaks image t held (Some (Called (Lock lock) regs)) k l n next e is ends h = both_ways (ends_thread e) _ ends (went_ends n next e is).0
breaks image t held (Some (Called (Unlock lock) regs)) k l n next e is ends h = (let s : end.Unlocked lock ≡ e = cc in both_ways (ends_thread e) _ ends (ap ends_thread (sym s)))
breaks image t held (Some (Called (Sleep m) regs)) k l n next e is ends h = (let s : end.Slept ≡ e = cc in both_ways (ends_thread e) _ ends (ap ends_thread (sym s)))
breaks image t held (Some (Called Exit regs)) k l n next e is ends h = ap (λ b. (given_up b l).broken) h
breaks image t held (Some (Faulted f)) k l n next e is ends h = ap (λ b. (given_up b l).broken) h

-- what a turn that ends a block leaves held, its end gives up no section of
survives : (d : Thread) (a : Option Act) (k n : ℕ) (next : Option ℕ) (e : End) → end_rule (outcome_of a) n next ≡ Some e → (thread_after d a).held k ≡ true → (unlocks k e ≡ false) × (ends_thread e ≡ false)
survives d None k n next e is h = absurd (cc)
survives d (Some (Next regs put)) k n next e is h = (let w = went_ends n next e is in (w.1 k, w.0))
survives d (Some (Called (Lock lock) regs)) k n next e is h = (let w = went_ends n next e is in (w.1 k, w.0))
survives d (Some (Called (Unlock lock) regs)) k n next e is h =
    (let s : end.Unlocked lock ≡ e = cc in subst (λ x. (unlocks k x ≡ false) × (ends_thread x ≡ false)) s (other, refl))
  where
    other : (lock == k) ≡ false
    other = elim (eqb_tells k lock) [
      | inl g ↦ absurd (let f : false ≡ true = sym (ap (λ b. not b && d.held k) g.0) ∙ h in cc)
      | inr g ↦ (elim (eqb_tells lock k) [ inl f ↦ absurd (g.1 (sym f.1)) | inr f ↦ f.0 ])
    ]
survives d (Some (Called (Sleep m) regs)) k n next e is h = (let s : end.Slept ≡ e = cc in subst (λ x. (unlocks k x ≡ false) × (ends_thread x ≡ false)) s (refl, refl))
survives d (Some (Called Exit regs)) k n next e is h = absurd (cc)
survives d (Some (Faulted f)) k n next e is h = absurd (cc)

-- what such a turn takes from its thread, its end gives up
gives : (d : Thread) (a : Option Act) (k n : ℕ) (next : Option ℕ) (e : End) → end_rule (outcome_of a) n next ≡ Some e → d.held k ≡ true → (thread_after d a).held k ≡ false → (unlocks k e || ends_thread e) ≡ true
gives d None k n next e is h out = (let s : end.Spent ≡ e = cc in ap (λ x. unlocks k x || ends_thread x) (sym s))
gives d (Some (Next regs put)) k n next e is h out = both_ways _ _ h out
gives d (Some (Called (Lock lock) regs)) k n next e is h out = both_ways _ _ (or_right (k == lock) (d.held k) h) out
gives d (Some (Called (Unlock lock) regs)) k n next e is h out =
    (let s : end.Unlocked lock ≡ e = cc in ap (λ x. unlocks k x || ends_thread x) (sym s) ∙ ap (λ b. b || false) same)
  where
    same : (lock == k) ≡ true
    same = elim (eqb_tells lock k) [
      | inl g ↦ g.0
      | inr g ↦ (elim (eqb_tells k lock) [ inl f ↦ absurd (g.1 (sym f.1)) | inr f ↦ both_ways (d.held k) _ h (sym (ap (λ b. not b && d.held k) f.0) ∙ out) ])
    ]
gives d (Some (Called (Sleep m) regs)) k n next e is h out = both_ways _ _ h out
gives d (Some (Called Exit regs)) k n next e is h out = (let s : end.Exit ≡ e = cc in ap (λ x. unlocks k x || ends_thread x) (sym s))
gives d (Some (Faulted f)) k n next e is h out = (let s : end.Fault f ≡ e = cc in ap (λ x. unlocks k x || ends_thread x) (sym s))

-- ---- the turns before it

-- while a block goes on, what is held stays held
stays : (d : Thread) (a : Option Act) (k n : ℕ) (next : Option ℕ) → end_rule (outcome_of a) n next ≡ None → d.held k ≡ true → (thread_after d a).held k ≡ true
stays d None k n next e h = absurd (cc)
stays d (Some (Next regs put)) k n next e h = h
stays d (Some (Called (Lock lock) regs)) k n next e h = or_right (k == lock) (d.held k) h
stays d (Some (Called (Unlock lock) regs)) k n next e h = absurd (cc)
stays d (Some (Called (Sleep m) regs)) k n next e h = h
stays d (Some (Called Exit regs)) k n next e h = absurd (cc)
stays d (Some (Faulted f)) k n next e h = absurd (cc)

-- a turn whose next lock it was takes it
pub next_takes : (image : Shown) (d : Thread) (locks : ℕ → Mutex) (k : ℕ) → next_lock image d ≡ Some k → (regs : Registers) × (next_act image d locks ≡ Some (Called (Lock k) regs))
unfolding next_lock next_act
next_takes image d locks k =
    let answer = answer_to image (wants_of image d.held d.regs) (next_lock image d) d.own locks in
    (elim (d.fuel == 0) as (λ b. (if b then None else taken_by (act_of image d.held d.regs 0)) ≡ Some k → (regs : Registers) × ((if b then None else Some (act_of image d.held d.regs answer)) ≡ Some (Called (Lock k) regs))) [
      | true ↦ λ e. absurd (cc)
      | false ↦ λ e. (let was = taken_was (act_of image d.held d.regs 0) k e in (answered d.regs answer, ap Some ((lock_is_free image d.held d.regs 0 was.0 k was.1).anyway answer)))
    ])

-- a lock of the block is held before it, or taken by its first turn
pub in_block : (held : ℕ → Bool) (next : Option ℕ) (k : ℕ) → locks_of_block held next k ≡ true → (held k ≡ true) ⊎ (next ≡ Some k)
in_block held None k h = inl h
in_block held (Some lock) k h = elim (eqb_tells k lock) [ inl e ↦ inr (ap Some (sym e.1)) | inr e ↦ inl (sym (ap (λ b. b || held k) e.0) ∙ h) ]

-- what covers the thread has all locks of its block
pub block_inside : (image : Shown) (set : ℕ → Bool) (d : Thread) → Covers image set d → (k : ℕ) → locks_of_block d.held (next_lock image d) k ≡ true → set k ≡ true
block_inside image set d covers k h = elim (in_block d.held (next_lock image d) k h) [ inl was ↦ covers.held k was | inr took ↦ covers.next k took ]

module _ (image : Shown) (m to : State) (t n : ℕ) (e : End) (runs : Runs image m t n e to) (k : ℕ) where
  abbrev at : ℕ → State
  at j = reach image m t j

  -- the thread takes the lock in the block's first turn, or holds it from the start
  holds_first : 1 < n → locks_of_block (m.threads t).held (next_lock image (m.threads t)) k ≡ true → ((at 1).threads t).held k ≡ true
  holds_first more h =
      let d = m.threads t in
      ap (λ (x : Thread). x.held k) (after_thread image m t) ∙ (elim (in_block d.held (next_lock image d) k h) [
        | inl was ↦ stays d (next_act image d m.locks) k 1 (next_lock image ((after image m t).threads t)) (runs.before 0 more) was
        | inr took ↦ (let a = next_takes image d m.locks k took in ap (λ x. (thread_after d x).held k) a.1 ∙ ap (λ b. b || d.held k) (eq_self k))
      ])

  holds_within : locks_of_block (m.threads t).held (next_lock image (m.threads t)) k ≡ true → (j : ℕ) → suc j < n → ((at (suc j)).threads t).held k ≡ true
  holds_within h zero lt = holds_first (omega arith) h
  holds_within h (suc j) lt =
      let from = at (suc j) in
      ap (λ (x : Thread). x.held k) (after_thread image from t)
      ∙ stays (from.threads t) (next_act image (from.threads t) from.locks) k (suc j + 1) (next_lock image ((after image from t).threads t)) (runs.before (suc j) (omega arith)) (holds_within h j (omega arith))

  -- a block that ends its thread leaves each of its locks broken
  broken_at : locks_of_block (m.threads t).held (next_lock image (m.threads t)) k ≡ true → ends_thread e ≡ true → (i : ℕ) → suc i ≡ n → ((at n).locks k).broken ≡ true
  broken_at h ends zero is =
      let d = m.threads t in
      ap (λ j. ((at j).locks k).broken) (sym is) ∙ ap (λ (x : Mutex). x.broken) (after_mutex image m t k)
      ∙ (elim (in_block d.held (next_lock image d) k h) [
        | inl was ↦ breaks image t d.held (next_act image d m.locks) k (m.locks k) 1 (next_lock image ((after image m t).threads t)) e (runs.ends 0 (omega (arith, is))) ends was
        | inr took ↦ (let a = next_takes image d m.locks k took in
            both_ways (ends_thread e) _ ends (went_ends 1 (next_lock image ((after image m t).threads t)) e (ap (λ x. end_rule (outcome_of x) 1 (next_lock image ((after image m t).threads t))) (sym a.1) ∙ runs.ends 0 (omega (arith, is)))).0)
      ])
  broken_at h ends (suc i) is =
      let from = at (suc i) in
      ap (λ j. ((at j).locks k).broken) (sym is) ∙ ap (λ (x : Mutex). x.broken) (after_mutex image from t k)
      ∙ breaks image t (from.threads t).held (next_act image (from.threads t) from.locks) k (from.locks k) (suc i + 1) (next_lock image ((after image from t).threads t)) e (runs.ends (suc i) (omega (arith, is))) ends
      (holds_within h i (omega (arith, is)))

  pub block_broken : locks_of_block (m.threads t).held (next_lock image (m.threads t)) k ≡ true → ends_thread e ≡ true → ((reach image m t n).locks k).broken ≡ true
  block_broken h ends = (elim n as (λ x. n ≡ x → ((reach image m t n).locks k).broken ≡ true) [
    | zero ↦ λ z. absurd (let s = runs.some in omega (arith, z))
    | suc i ↦ λ s. broken_at h ends i (sym s)
  ]) refl

  survives_at : (i : ℕ) → suc i ≡ n → ((at n).threads t).held k ≡ true → (unlocks k e ≡ false) × (ends_thread e ≡ false)
  survives_at i is h =
      let from = at i in
      survives (from.threads t) (next_act image (from.threads t) from.locks) k (i + 1) (next_lock image ((after image from t).threads t)) e (runs.ends i (omega (arith, is)))
      (sym (ap (λ j. ((at j).threads t).held k) (sym is) ∙ ap (λ (x : Thread). x.held k) (after_thread image from t)) ∙ h)

  -- a lock that the thread holds after the block is one that the block's end gives up no section of
  pub block_survives : ((reach image m t n).threads t).held k ≡ true → (unlocks k e ≡ false) × (ends_thread e ≡ false)
  block_survives h = (elim n as (λ x. n ≡ x → (unlocks k e ≡ false) × (ends_thread e ≡ false)) [
    | zero ↦ λ z. absurd (let s = runs.some in omega (arith, z))
    | suc i ↦ λ s. survives_at i (sym s) h
  ]) refl

  gives_at : locks_of_block (m.threads t).held (next_lock image (m.threads t)) k ≡ true → (i : ℕ) → suc i ≡ n → ((at n).threads t).held k ≡ false → (unlocks k e || ends_thread e) ≡ true
  gives_at h zero is out =
      let d = m.threads t in
      let left : (thread_after d (next_act image d m.locks)).held k ≡ false = sym (ap (λ j. ((at j).threads t).held k) (sym is) ∙ ap (λ (x : Thread). x.held k) (after_thread image m t)) ∙ out in
      elim (in_block d.held (next_lock image d) k h) [
        | inl was ↦ gives d (next_act image d m.locks) k 1 (next_lock image ((after image m t).threads t)) e (runs.ends 0 (omega (arith, is))) was left
        | inr took ↦ (let a = next_takes image d m.locks k took in both_ways _ _ (ap (λ b. b || d.held k) (eq_self k)) (sym (ap (λ x. (thread_after d x).held k) a.1) ∙ left))
      ]
  gives_at h (suc i) is out =
      let from = at (suc i) in
      gives (from.threads t) (next_act image (from.threads t) from.locks) k (suc i + 1) (next_lock image ((after image from t).threads t)) e (runs.ends (suc i) (omega (arith, is)))
      (holds_within h i (omega (arith, is)))
      (sym (ap (λ j. ((at j).threads t).held k) (sym is) ∙ ap (λ (x : Thread). x.held k) (after_thread image from t)) ∙ out)

  -- a lock of the block that the thread doesn't hold after it is one that the block's end gives up
  pub block_gives : locks_of_block (m.threads t).held (next_lock image (m.threads t)) k ≡ true → ((reach image m t n).threads t).held k ≡ false → (unlocks k e || ends_thread e) ≡ true
  block_gives h out = (elim n as (λ x. n ≡ x → (unlocks k e || ends_thread e) ≡ true) [
    | zero ↦ λ z. absurd (let s = runs.some in omega (arith, z))
    | suc i ↦ λ s. gives_at h i (sym s) out
  ]) refl
