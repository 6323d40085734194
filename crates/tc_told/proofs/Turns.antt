-- The turns of a block, one after the other, and its Commit.
use Rattle.std.proofs.Common.{◌≡◌, ◌≢◌, ℕ, zero, suc, ◌+◌, ◌<◌, true, not, ◌==◌, length, refl, ap, subst, ◌∙◌, arith}
use Rattle.std.specs.Cmp.Derive.{both_true}
use Rattle.std.specs.Prelude.{Option, Some, None, is_some, nat_lt}
use Rattle.std.proofs.lemmas.Bool.{and_parts}
use Rattle.tc_elf.specs.Shown.{Shown}
use Rattle.tc_journal.specs.Rule.{end_rule}
use Rattle.tc_journal.specs.declared.block.End.{End}
use Rattle.tc_journal.specs.declared.rule.Outcome.{Outcome}
use Rattle.tc_journal.specs.declared.rule.Outcome.TheVariants as outcome
use Rattle.tc_turn.specs.Turn.{is_running, next_lock, next_act, outcome_of}
use Rattle.tc_mutex_spec.specs.Machine.{State, after, can_turn}
use Rattle.tc_mutex_spec.specs.Blocks.{reach, end_at, Runs}
use Rattle.tc_core.specs.declared.event.Event.TheVariants.{Turn}
use Rattle.tc_core.specs.declared.place.ThreadPlace.TheVariants.{At}
use Rattle.tc_core.specs.declared.place.LockPlace.TheVariants.{Granted}
use Rattle.tc_core.specs.declared.place.Course.{Course}
use Rattle.tc_core.specs.Core.{Core, Limits, is_at, is_granted}
use Rattle.tc_core.specs.Events.{is_enabled, effect, is_worker, is_thread, may_take, held_with, end_here, course_on, custody_on}
use Rattle.tc_core.proofs.Quiet.{pick_mine, pick_other}
use Rattle.tc_told.specs.Written.{Written}
use Rattle.tc_told.proofs.Leads.{Kept, Leads, comes, and_then}
use Rattle.tc_lemmas.proofs.Tests.{eq_self}

-- where a turn leaves its block open, the next turn takes no lock
open_next : (o : Outcome) (n : ℕ) (next : Option ℕ) → end_rule o n next ≡ None → next ≡ None
open_next outcome.Exited n next e = absurd (cc)
open_next (outcome.Faulted f) n next e = absurd (cc)
open_next outcome.Spent n next e = absurd (cc)
open_next (outcome.Unlocked k) n next e = absurd (cc)
open_next outcome.Slept n next e = absurd (cc)
open_next outcome.Went n (Some k) e = absurd (cc)
open_next outcome.Went n None e = refl

-- a thread that has a turn is one and runs
pub can_parts : (image : Shown) (m : State) (t : ℕ) → can_turn image m t ≡ true → (is_thread image t ≡ true) × (is_running (m.threads t).status ≡ true)
unfolding can_turn
can_parts image m t e = (let p = and_parts (nat_lt t (length image.entries)) _ e in (p.0, (and_parts _ _ p.1).0))

-- the worker has the thread, which has no turn in its block, and its next turn may take the lock that it takes, if any
pub record Starts (image : Shown) (limits : Limits) (m : State) (w t : ℕ) (s : Written) : Type 0 where
  pub worker : is_worker limits w ≡ true
  pub machine : s.core.machine ≡ m
  pub at : (s.core.course t).place ≡ At w
  pub turns : (s.core.course t).turns ≡ 0
  pub ended : (s.core.course t).ended ≡ None
  pub granted : (k : ℕ) → next_lock image (m.threads t) ≡ Some k → (s.core.custody k).place ≡ Granted t

-- after n turns of it, at least one, from s to x
pub record Turned (image : Shown) (m : State) (w t : ℕ) (s : Written) (n : ℕ) (x : Written) : Type 0 where
  pub machine : x.core.machine ≡ reach image m t n
  pub at : (x.core.course t).place ≡ At w
  pub turns : (x.core.course t).turns ≡ n
  pub held : (x.core.course t).held ≡ held_with (s.core.course t).held (next_lock image (m.threads t))
  pub ended : (k : ℕ) → k + 1 ≡ n → (x.core.course t).ended ≡ end_at image m t k
  pub others : (u : ℕ) → u ≢ t → x.core.course u ≡ s.core.course u
  pub custody : (k : ℕ) → x.core.custody k ≡ custody_on (next_lock image (m.threads t)) t k (s.core.custody k)
  pub next : x.next ≡ s.next
  pub history : x.history ≡ s.history

module _ (image : Shown) (limits : Limits) (m to : State) (w t n : ℕ) (end : End) (s : Written) (block : Runs image m t n end to) (is : Starts image limits m w t s) where
  -- a turn that is defined is enabled
  enabled : (c : Core) (k : ℕ) → k < n → c.machine ≡ reach image m t k → (c.course t).place ≡ At w → (c.course t).ended ≡ None
      → may_take (next_lock image ((reach image m t k).threads t)) t c ≡ true → is_enabled image limits c (Turn w t) ≡ true
  unfolding is_enabled
  enabled c k lt machine at open_block take =
      let can = can_parts image (reach image m t k) t (block.defined k lt) in
      both_true (both_true is.worker (both_true can.0 (ap (λ p. is_at p w) at ∙ eq_self w)))
      (both_true (ap (λ (x : State). is_running (x.threads t).status) machine ∙ can.1)
      (both_true (ap (λ o. not (is_some o)) open_block) (ap (λ (x : State). may_take (next_lock image (x.threads t)) t c) machine ∙ take)))

  first_take : (o : Option ℕ) → next_lock image (m.threads t) ≡ o → may_take o t s.core ≡ true
  first_take None e = refl
  first_take (Some k) e = both_true (ap (λ x. x == 0) is.turns) (ap (λ p. is_granted p t) (is.granted k e) ∙ eq_self t)

  -- what a turn makes of the course
  course_is : (c : Core) (k : ℕ) → c.machine ≡ reach image m t k → (c.course t).turns ≡ k → end_here image c t ≡ end_at image m t k
  course_is c k machine turns = λ i. end_rule (outcome_of (next_act image ((machine i).threads t) (machine i).locks)) (turns i + 1) (next_lock image ((after image (machine i) t).threads t))

  first_turn : Kept s.core → Leads image limits s (Turned image m w t s 1)
  unfolding effect
  first_turn kept =
      let mine = pick_mine t (course_on (s.core.course t) (next_lock image (s.core.machine.threads t)) (end_here image s.core t)) (s.core.course t) in
      let next : next_lock image (s.core.machine.threads t) ≡ next_lock image (m.threads t) = ap (λ (x : State). next_lock image (x.threads t)) is.machine in
      comes image limits s (Turned image m w t s 1) (Turn w t) kept (enabled s.core 0 block.some is.machine is.at is.ended (first_take _ refl)) (record {
        machine = ap (λ x. after image x t) is.machine;
        at = ap (λ (x : Course). x.place) mine ∙ is.at;
        turns = ap (λ (x : Course). x.turns) mine ∙ ap (λ x. x + 1) is.turns;
        held = ap (λ (x : Course). x.held) mine ∙ ap (λ o. held_with (s.core.course t).held o) next;
        ended = λ k e. ap (λ (x : Course). x.ended) mine ∙ course_is s.core 0 is.machine is.turns ∙ ap (λ j. end_at image m t j) (let z : 0 ≡ k = omega arith in z);
        others = λ u ne. pick_other u t _ (s.core.course u) ne;
        custody = λ k. ap (λ o. custody_on o t k (s.core.custody k)) next;
        next = refl;
        history = refl;
      })

  next_turn : (k : ℕ) → k + 1 < n → (x : Written) → Kept x.core → Turned image m w t s (k + 1) x → Leads image limits x (Turned image m w t s (k + 1 + 1))
  unfolding effect
  next_turn k lt x kept by =
      let machine : x.core.machine ≡ reach image m t (k + 1) = by.machine in
      let open_block : (x.core.course t).ended ≡ None = by.ended k refl ∙ block.before k lt in
      let none : next_lock image ((reach image m t (k + 1)).threads t) ≡ None =
      subst (λ j. next_lock image ((reach image m t j).threads t) ≡ None) (add_one k) (open_next _ _ _ (block.before k lt)) in
      let none_here : next_lock image (x.core.machine.threads t) ≡ None = ap (λ (y : State). next_lock image (y.threads t)) machine ∙ none in
      let mine = pick_mine t (course_on (x.core.course t) (next_lock image (x.core.machine.threads t)) (end_here image x.core t)) (x.core.course t) in
      comes image limits x (Turned image m w t s (k + 1 + 1)) (Turn w t) kept (enabled x.core (k + 1) lt machine by.at open_block (ap (λ o. may_take o t x.core) none)) (record {
        machine = ap (λ y. after image y t) machine ∙ reach_next (k + 1);
        at = ap (λ (y : Course). y.place) mine ∙ by.at;
        turns = ap (λ (y : Course). y.turns) mine ∙ ap (λ j. j + 1) by.turns;
        held = ap (λ (y : Course). y.held) mine ∙ ap (λ o. held_with (x.core.course t).held o) none_here ∙ by.held;
        ended = λ j e. ap (λ (y : Course). y.ended) mine ∙ course_is x.core (k + 1) machine by.turns ∙ ap (λ i. end_at image m t i) (let z : k + 1 ≡ j = omega (arith, e) in z);
        others = λ u ne. pick_other u t _ (x.core.course u) ne ∙ by.others u ne;
        custody = λ j. ap (λ o. custody_on o t j (x.core.custody j)) none_here ∙ by.custody j;
        next = by.next;
        history = by.history;
      })
    where
      add_one : (k : ℕ) → suc k ≡ k + 1
      add_one k = omega arith

      reach_next : (j : ℕ) → after image (reach image m t j) t ≡ reach image m t (j + 1)
      reach_next j = ap (λ i. reach image m t i) (add_one j)

  turned : (k : ℕ) → k < n → Kept s.core → Leads image limits s (Turned image m w t s (k + 1))
  turned zero lt kept = first_turn kept
  turned (suc k) lt kept =
      let r = and_then image limits s (Turned image m w t s (k + 1)) (Turned image m w t s (k + 1 + 1)) (turned k (omega arith) kept) (next_turn k (omega arith)) in
      subst (λ j. Leads image limits s (Turned image m w t s j)) (let e : k + 1 + 1 ≡ suc k + 1 = omega arith in e) r

  -- all turns of the block
  pub all_turns : Kept s.core → Leads image limits s (Turned image m w t s n)
  all_turns kept = go n block.some refl
    where
      go : (j : ℕ) → 0 < j → j ≡ n → Leads image limits s (Turned image m w t s n)
      go zero lt e = absurd (omega arith)
      go (suc j) lt e = subst (λ i. Leads image limits s (Turned image m w t s i)) (let z : j + 1 ≡ n = omega arith in z) (turned j (omega arith) kept)
