-- A turn reads its thread and the locks that it holds or takes, and leaves the others alone.
use Rattle.tc_turn.proofs.Vocabulary.{◌≡◌, ◌≢◌, ◌⊎◌, ℕ, ◌<◌, Bool, true, false, length, ◌==◌, refl, ap, arith, inl, inr, if◌then◌else◌, Option, Some, None, Shown, number_at, Registers, MAX_TURNS, Region, answered, wants_of, act_of, Act, Want, guard_is_held, put_is_held, unlock_is_held, lock_is_free}
use Rattle.tc_turn.proofs.Vocabulary.{lock_wants_nothing, Thread, Mutex, taken_by, next_lock, byte_at, lock_answer, answer_to, act_with, next_act, outcome_of, thread_after, mutex_after, with_own, Covers, Next, Called, Lock, Unlock}
use Rattle.tc_elf.specs.declared.image.Region.TheVariants as region
use Rattle.tc_exec.specs.declared.outcome.Put.{Put}
use Rattle.tc_exec.specs.declared.outcome.Want.TheVariants as want
use Rattle.tc_journal.specs.Rule.{end_rule}
use Rattle.tc_journal.specs.declared.rule.Outcome.TheVariants as outcome

pub taken_was : (a : Act) (k : ℕ) → taken_by a ≡ Some k → (regs : Registers) × (a ≡ Called (Lock k) regs)
taken_was a k e = grind arith

pub next_some : (image : Shown) (d : Thread) (k : ℕ) → next_lock image d ≡ Some k → (regs : Registers) × (act_of image d.held d.regs 0 ≡ Called (Lock k) regs)
unfolding next_lock
next_some image d k = grind arith

-- the lock that the next turn takes is one of the image's, and is not held
pub next_known : (image : Shown) (d : Thread) (k : ℕ) → next_lock image d ≡ Some k → k < length image.guards
next_known image d k e = (let was = next_some image d k e in (lock_is_free image d.held d.regs 0 was.0 k was.1).known)

pub next_free : (image : Shown) (d : Thread) (k : ℕ) → next_lock image d ≡ Some k → d.held k ≡ false
next_free image d k e = (let was = next_some image d k e in (lock_is_free image d.held d.regs 0 was.0 k was.1).free)

-- it doesn't depend on the thread's own memory
pub next_by_own : (image : Shown) (own : ℕ → Option ℕ) (d : Thread) → next_lock image (with_own own d) ≡ next_lock image d
unfolding next_lock
next_by_own image own d = refl

-- a turn that takes a lock loads nothing
pub next_wants : (image : Shown) (d : Thread) (k : ℕ) → next_lock image d ≡ Some k → wants_of image d.held d.regs ≡ want.Nothing
next_wants image d k e = (let was = next_some image d k e in lock_wants_nothing image d.held d.regs 0 was.0 k was.1)

-- a turn that takes a lock has fuel
pub next_fueled : (image : Shown) (d : Thread) (lock : ℕ) → next_lock image d ≡ Some lock → (d.fuel == 0) ≡ false
unfolding next_lock
next_fueled image d lock = elim (d.fuel == 0) as (λ b. (if b then None else taken_by (act_of image d.held d.regs 0)) ≡ Some lock → b ≡ false) [ true ↦ λ e. absurd (cc) | false ↦ λ e. refl ]

-- and does the LOCK at every answer
pub next_acts : (image : Shown) (d : Thread) (lock answer : ℕ) → next_lock image d ≡ Some lock → act_with image d answer ≡ Some (Called (Lock lock) (answered d.regs answer))
next_acts image d lock answer next = grind (arith, next_some, next_fueled, lock_is_free)

-- what the next turn does
pub act_some : (image : Shown) (d : Thread) (answer : ℕ) (a : Act) → act_with image d answer ≡ Some a → act_of image d.held d.regs answer ≡ a
act_some image d answer a = grind arith

-- a turn that takes a lock is one whose next lock it was, at every answer
pub act_takes : (image : Shown) (d : Thread) (answer k : ℕ) (regs : Registers) → act_with image d answer ≡ Some (Called (Lock k) regs) → next_lock image d ≡ Some k
unfolding next_lock
act_takes image d answer k regs = grind (arith, lock_is_free)

-- lock k is not touched by what a thread with these locks does
pub record Untouched (held : ℕ → Bool) (a : Option Act) (k : ℕ) : Type 0 where
  pub out : held k ≡ false
  pub put : (regs : Registers) (put : Put) (lock : ℕ) → a ≡ Some (Next regs (Some put)) → put.region ≡ region.Guard lock → held lock ≡ true
  pub lock : (regs : Registers) → a ≢ Some (Called (Lock k) regs)
  pub unlock : (regs : Registers) (lock : ℕ) → a ≡ Some (Called (Unlock lock) regs) → held lock ≡ true

mutex_still : (image : Shown) (t : ℕ) (held : ℕ → Bool) (a : Option Act) (k : ℕ) (l : Mutex) → Untouched held a k → mutex_after image t held a k l ≡ l
mutex_still image t held a k l u = grind arith

untouched : (image : Shown) (set : ℕ → Bool) (d : Thread) (answer k : ℕ) → Covers image set d → set k ≡ false → Untouched d.held (act_with image d answer) k
untouched image set d answer k covers out = grind (arith, put_is_held, act_takes, unlock_is_held)

pub leaves : (image : Shown) (set : ℕ → Bool) (t : ℕ) (d : Thread) (locks : ℕ → Mutex) (k : ℕ) (l : Mutex) → Covers image set d → set k ≡ false → mutex_after image t d.held (next_act image d locks) k l ≡ l
unfolding next_act
leaves image set t d locks k l covers out = mutex_still image t d.held _ k l (untouched image set d _ k covers out)

-- what a turn reads
byte_same : (image : Shown) (set : ℕ → Bool) (own : ℕ → Option ℕ) (a b : ℕ → Mutex) (place : Region)
    → ((lock : ℕ) → place ≡ region.Guard lock → set lock ≡ true) → ((k : ℕ) → set k ≡ true → a k ≡ b k) → byte_at image own a place ≡ byte_at image own b place
byte_same image set own a b place is same = grind arith

-- the lock that an answer reads is in the set, so the answer is the same
pub answer_same : (image : Shown) (set : ℕ → Bool) (wanted : Want) (next : Option ℕ) (own : ℕ → Option ℕ) (a b : ℕ → Mutex)
    → ((lock addr width : ℕ) → wanted ≡ want.Load (region.Guard lock) addr width → set lock ≡ true) → ((lock : ℕ) → next ≡ Some lock → set lock ≡ true)
    → ((k : ℕ) → set k ≡ true → a k ≡ b k) → answer_to image wanted next own a ≡ answer_to image wanted next own b
answer_same image set (want.Load place addr width) next own a b guard lock same =
    ap (λ byte. number_at byte addr width) (byte_same image set own a b place (λ k e. guard k addr width (ap (λ p. want.Load p addr width) e)) same)
answer_same image set want.Nothing None own a b guard lock same = refl
answer_same image set want.Nothing (Some k) own a b guard lock same = ap lock_answer (same k (lock k refl))

pub reads : (image : Shown) (set : ℕ → Bool) (d : Thread) (a b : ℕ → Mutex) → Covers image set d → ((k : ℕ) → set k ≡ true → a k ≡ b k) → next_act image d a ≡ next_act image d b
unfolding next_act
reads image set d a b covers same =
    ap (act_with image d) (answer_same image set (wants_of image d.held d.regs) (next_lock image d) d.own a b
    (λ lock addr width e. covers.held lock (guard_is_held image d.held d.regs lock addr width e)) covers.next same)

-- what a thread holds after a turn
pub held_grows : (d : Thread) (a : Option Act) (k : ℕ) → (thread_after d a).held k ≡ true → (d.held k ≡ true) ⊎ ((regs : Registers) × (a ≡ Some (Called (Lock k) regs)))
held_grows d a k h = grind arith

-- it holds none but the image's
pub held_known : (image : Shown) (d : Thread) (locks : ℕ → Mutex) → ((k : ℕ) → d.held k ≡ true → k < length image.guards)
    → (k : ℕ) → (thread_after d (next_act image d locks)).held k ≡ true → k < length image.guards
unfolding next_act
held_known image d locks held k h = elim (held_grows d (next_act image d locks) k h) [ inl before ↦ held k before | inr took ↦ next_known image d k (act_takes image d _ k took.0 took.1) ]

-- what is held after the turn is in the set
pub held_on : (image : Shown) (set : ℕ → Bool) (d : Thread) (locks : ℕ → Mutex) → Covers image set d → (k : ℕ) → (thread_after d (next_act image d locks)).held k ≡ true → set k ≡ true
unfolding next_act
held_on image set d locks covers k h = elim (held_grows d (next_act image d locks) k h) [ inl before ↦ covers.held k before | inr took ↦ covers.next k (act_takes image d _ k took.0 took.1) ]

-- after a turn that takes no lock next, the same set covers the next turn
pub covers_on : (image : Shown) (set : ℕ → Bool) (d : Thread) (locks : ℕ → Mutex) → Covers image set d
    → next_lock image (thread_after d (next_act image d locks)) ≡ None → Covers image set (thread_after d (next_act image d locks))
covers_on image set d locks covers none = record { held = held_on image set d locks covers; next = λ k h. cc }

-- a turn that releases a lock held it
pub released_held : (image : Shown) (d : Thread) (locks : ℕ → Mutex) (lock : ℕ) → outcome_of (next_act image d locks) ≡ outcome.Unlocked lock → d.held lock ≡ true
unfolding next_act
released_held image d locks lock e = grind (arith, unlock_is_held)

-- a turn that ends no block
pub went_on : (turns : ℕ) (next : Option ℕ) → end_rule outcome.Went turns next ≡ None → (next ≡ None) × (turns ≢ MAX_TURNS)
went_on turns next e = grind arith

-- it leaves no lock to take next, is not the last that a block may have, and leaves the status
pub goes_on : (d : Thread) (a : Option Act) (turns : ℕ) (next : Option ℕ) → end_rule (outcome_of a) turns next ≡ None → (next ≡ None) × (turns ≢ MAX_TURNS) × ((thread_after d a).status ≡ d.status)
goes_on d a turns next e = grind arith
