-- A block's entry replays.
use Rattle.std.proofs.Common.{◌≡◌, ℕ, zero, suc, ◌+◌, ◌-◌, ◌<◌, ◌≤◌, Bool, true, false, not, ◌&&◌, ◌||◌, ◌==◌, List, [], ◌∷◌, ◌++◌, length, refl, sym, ap, ◌∙◌, arith, add-one, inl, inr}
use Rattle.std.specs.Prelude.{Option, Some, None, is_some, if◌then◌else◌}
use Rattle.std.proofs.lemmas.Bool.{and_parts, and_from}
use Rattle.std.proofs.lemmas.Bool.Decides.{eqb_tells}
use Rattle.tc_isa.specs.Sets.{has}
use Rattle.tc_elf.specs.Shown.{Shown}
use Rattle.tc_elf.specs.declared.image.Region.{Region}
use Rattle.tc_elf.specs.declared.image.Region.TheVariants as region
use Rattle.tc_exec.specs.Step.{wants_of, act_of}
use Rattle.tc_exec.specs.declared.outcome.Act.{Act}
use Rattle.tc_exec.specs.declared.outcome.Act.TheVariants.{Next, Called, Faulted}
use Rattle.tc_exec.specs.declared.outcome.Call.TheVariants.{Lock, Unlock, Sleep, Exit}
use Rattle.tc_exec.specs.declared.outcome.Want.{Want}
use Rattle.tc_exec.specs.declared.outcome.Want.TheVariants as want
use Rattle.tc_exec.proofs.Laws.{lock_is_above}
use Rattle.tc_journal.specs.Rule.{end_rule}
use Rattle.tc_journal.specs.Batch.{is_section, top_below, takes_of, is_lock, held_before}
use Rattle.tc_journal.proofs.Greatest.{top_same, top_is}
use Rattle.tc_journal.specs.declared.block.Block.{Block}
use Rattle.tc_turn.specs.declared.status.Status.{Status}
use Rattle.tc_turn.specs.declared.status.Status.TheVariants.{Running, Exited, Faulted as Failed, SpentFuel}
use Rattle.tc_turn.specs.Turn.{Thread, Mutex, next_lock, next_act, taken_by, lock_answer, answer_to, outcome_of, thread_after, mutex_after, guard_with, given_up, when, is_running}
use Rattle.tc_turn.specs.Replay.{bare, unowned, Tape, first_or, rest_of, is_cons, guard_number, is_own_guard, takes_word, tape_answer, tape_act, tape_takes, fits_lock, tape_ok, tape_after, tapes, tape_end, tape_of, tape_in, Replays, ended, replay_entry, word_of, words_from}
use Rattle.tc_turn.proofs.Turns.{taken_was, next_free, next_wants, next_fueled}
use Rattle.tc_turn.proofs.Words.{words_more}
use Rattle.tc_mutex_spec.specs.Machine.{State, can_turn, after}
use Rattle.tc_mutex_spec.specs.Blocks.{locks_of_block, reach, end_at, Runs}
use Rattle.tc_mutex_spec.proofs.Local.{after_thread, after_mutex}
use Rattle.tc_mutex_spec.specs.Entries.{entry_of}
use Rattle.tc_lemmas.proofs.Tests.{eq_self}

abbrev pub word_at : Shown → ℕ → State → ℕ → List ℕ
word_at image lock m t = word_of image lock (m.threads t) m.locks

abbrev pub words_at : Shown → ℕ → State → ℕ → ℕ → ℕ → List ℕ
words_at image lock m t k n = words_from image lock (λ j. (reach image m t j).threads t) (λ j. (reach image m t j).locks) k n

-- the words of one turn more
pub words_next : (image : Shown) (lock : ℕ) (m : State) (t n : ℕ) → words_at image lock m t 0 (n + 1) ≡ words_at image lock m t 0 n ++ word_at image lock (reach image m t n) t
words_next image lock m t n =
    ap (words_at image lock m t 0) (add-one n) ∙ words_more image lock _ _ 0 n
    ∙ ap (λ j. words_at image lock m t 0 n ++ word_at image lock (reach image m t j) t) (let e : 0 + n ≡ n = omega arith in e)

-- the tape that is where the machine is, with these foreign words left
abbrev pub tape_at : ℕ → ℕ → State → List ℕ → Tape
tape_at lock t m left = record { thread = bare (m.threads t); lock = unowned (m.locks lock); foreign = left }

bare_after : (d : Thread) (a : Option Act) → bare (thread_after (bare d) a) ≡ bare (thread_after d a)
bare_after d None = refl
bare_after d (Some (Next regs put)) = refl
bare_after d (Some (Called (Lock k) regs)) = refl
bare_after d (Some (Called (Unlock k) regs)) = refl
bare_after d (Some (Called (Sleep n) regs)) = refl
bare_after d (Some (Called Exit regs)) = refl
bare_after d (Some (Faulted f)) = refl

unowned_when : (b : Bool) (new old other : Mutex) → unowned other ≡ unowned new → unowned (when b other (unowned old)) ≡ unowned (when b new old)
unowned_when true new old other e = e
unowned_when false new old other e = refl

unowned_given : (b : Bool) (l : Mutex) → unowned (given_up b (unowned l)) ≡ unowned (given_up b l)
unowned_given true l = refl
unowned_given false l = refl

unowned_stored : (image : Shown) (place : Region) (k : ℕ) (l : Mutex) (addr width value : ℕ) → unowned (guard_with image place k (unowned l) addr width value) ≡ unowned (guard_with image place k l addr width value)
unowned_stored image region.Text k l addr width value = refl
unowned_stored image region.Private k l addr width value = refl
unowned_stored image region.Stack k l addr width value = refl
unowned_stored image (region.Guard lock) k l addr width value = unowned_when (k == lock) _ l _ refl
unowned_stored image region.Nothing k l addr width value = refl

-- the owner doesn't count
pub unowned_after : (image : Shown) (t : ℕ) (held : ℕ → Bool) (a : Option Act) (k : ℕ) (l : Mutex) → unowned (mutex_after image t held a k (unowned l)) ≡ unowned (mutex_after image t held a k l)
unowned_after image t held None k l = unowned_given (held k) l
unowned_after image t held (Some (Next regs None)) k l = refl
unowned_after image t held (Some (Next regs (Some put))) k l = unowned_stored image put.region k l put.addr put.width put.value
unowned_after image t held (Some (Called (Lock lock) regs)) k l = unowned_when (k == lock) _ l _ refl
unowned_after image t held (Some (Called (Unlock lock) regs)) k l = unowned_when (k == lock) _ l _ refl
unowned_after image t held (Some (Called (Sleep n) regs)) k l = refl
unowned_after image t held (Some (Called Exit regs)) k l = unowned_given (held k) l
unowned_after image t held (Some (Faulted f)) k l = unowned_given (held k) l

-- the word of a turn, by what it wants
abbrev word : Shown → Bool → ℕ → Want → Option ℕ → (ℕ → Option ℕ) → (ℕ → Mutex) → List ℕ
word image b lock wanted next own locks = if b then [] else (if takes_word lock wanted next then answer_to image wanted next own locks ∷ [] else [])

load_answer : (image : Shown) (lock : ℕ) (place : Region) (addr width : ℕ) (next : Option ℕ) (own : ℕ → Option ℕ) (locks : ℕ → Mutex) (left : List ℕ)
    → (if is_own_guard lock place then guard_number image lock (locks lock).bytes addr width else first_or ((if not (is_own_guard lock place) then answer_to image (want.Load place addr width) next own locks ∷ [] else []) ++ left)) ≡ answer_to image (want.Load place addr width) next own locks
load_answer image lock region.Text addr width next own locks left = refl
load_answer image lock region.Private addr width next own locks left = refl
load_answer image lock region.Stack addr width next own locks left = refl
load_answer image lock (region.Guard k) addr width next own locks left = elim (eqb_tells k lock) [
  | inl e ↦ ap (λ b. if b then guard_number image lock (locks lock).bytes addr width else first_or ((if not b then guard_number image k (locks k).bytes addr width ∷ [] else []) ++ left)) e.0 ∙ ap (λ j. guard_number image j (locks j).bytes addr width) (sym e.1)
  | inr e ↦ ap (λ b. if b then guard_number image lock (locks lock).bytes addr width else first_or ((if not b then guard_number image k (locks k).bytes addr width ∷ [] else []) ++ left)) e.0
]
load_answer image lock region.Nothing addr width next own locks left = refl

answer_is : (image : Shown) (lock : ℕ) (wanted : Want) (next : Option ℕ) (own : ℕ → Option ℕ) (locks : ℕ → Mutex) (th : Thread) (left : List ℕ)
    → tape_answer image lock wanted next (record { thread = th; lock = unowned (locks lock); foreign = word image false lock wanted next own locks ++ left }) ≡ answer_to image wanted next own locks
answer_is image lock (want.Load place addr width) next own locks th left = load_answer image lock place addr width next own locks left
answer_is image lock want.Nothing None own locks th left = refl
answer_is image lock want.Nothing (Some k) own locks th left = refl

act_is : (image : Shown) (b : Bool) (f : ℕ → Act) (lock : ℕ) (wanted : Want) (next : Option ℕ) (own : ℕ → Option ℕ) (locks : ℕ → Mutex) (th : Thread) (left : List ℕ)
    → (if b then None else Some (f (tape_answer image lock wanted next (record { thread = th; lock = unowned (locks lock); foreign = word image b lock wanted next own locks ++ left })))) ≡ (if b then None else Some (f (answer_to image wanted next own locks)))
act_is image true f lock wanted next own locks th left = refl
act_is image false f lock wanted next own locks th left = ap (λ a. Some (f a)) (answer_is image lock wanted next own locks th left)

left_is : (image : Shown) (b : Bool) (lock : ℕ) (wanted : Want) (next : Option ℕ) (own : ℕ → Option ℕ) (locks : ℕ → Mutex) (left : List ℕ)
    → (if (if b then false else takes_word lock wanted next) then rest_of (word image b lock wanted next own locks ++ left) else word image b lock wanted next own locks ++ left) ≡ left
left_is image true lock wanted next own locks left = refl
left_is image false lock wanted next own locks left =
    elim (takes_word lock wanted next) as (λ t. (if t then rest_of ((if t then answer_to image wanted next own locks ∷ [] else []) ++ left) else (if t then answer_to image wanted next own locks ∷ [] else []) ++ left) ≡ left) [ true ↦ refl | false ↦ refl ]

has_word : (image : Shown) (b : Bool) (lock : ℕ) (wanted : Want) (next : Option ℕ) (own : ℕ → Option ℕ) (locks : ℕ → Mutex) (left : List ℕ)
    → (not (if b then false else takes_word lock wanted next) || is_cons (word image b lock wanted next own locks ++ left)) ≡ true
has_word image true lock wanted next own locks left = refl
has_word image false lock wanted next own locks left =
    elim (takes_word lock wanted next) as (λ t. (not t || is_cons ((if t then answer_to image wanted next own locks ∷ [] else []) ++ left)) ≡ true) [ true ↦ refl | false ↦ refl ]

-- a lawful LOCK is told whether the lock is broken
told : (image : Shown) (b : Bool) (lock : ℕ) (wanted : Want) (next : Option ℕ) (own : ℕ → Option ℕ) (locks : ℕ → Mutex) (th : Thread) (left : List ℕ)
    → ((k : ℕ) → next ≡ Some k → (b ≡ false) × (wanted ≡ want.Nothing)) → fits_lock lock next (record { thread = th; lock = unowned (locks lock); foreign = word image b lock wanted next own locks ++ left }) ≡ true
told image b lock wanted None own locks th left free = refl
told image b lock wanted (Some k) own locks th left free =
    let f = free k refl in
    ap (λ x. fits_lock lock (Some k) (record { thread = th; lock = unowned (locks lock); foreign = word image x lock wanted (Some k) own locks ++ left })) f.0
    ∙ ap (λ x. fits_lock lock (Some k) (record { thread = th; lock = unowned (locks lock); foreign = word image false lock x (Some k) own locks ++ left })) f.1
    ∙ (elim (eqb_tells k lock) [
      | inl e ↦ ap (λ c. if c then lock_answer (locks k) == lock_answer (locks lock) else true) e.0
          ∙ ap (λ j. lock_answer (locks j) == lock_answer (locks lock)) e.1
          ∙ eq_self (lock_answer (locks lock))
      | inr e ↦ ap (λ c. if c then lock_answer (locks k) == lock_answer (locks lock) else true) e.0
    ])

next_bare : (image : Shown) (d : Thread) → next_lock image (bare d) ≡ next_lock image d
unfolding next_lock
next_bare image d = refl

step_act : (image : Shown) (lock t : ℕ) (m : State) (left : List ℕ) → tape_act image lock (tape_at lock t m (word_at image lock m t ++ left)) ≡ next_act image (m.threads t) m.locks
unfolding tape_act next_act next_lock word_of
step_act image lock t m left =
    let d = m.threads t in
    act_is image (d.fuel == 0) (act_of image d.held d.regs) lock (wants_of image d.held d.regs) (next_lock image d) d.own m.locks (bare d) left

step_ok : (image : Shown) (lock t : ℕ) (m : State) (left : List ℕ) → tape_ok image lock (tape_at lock t m (word_at image lock m t ++ left)) ≡ true
unfolding tape_ok tape_takes next_lock word_of
step_ok image lock t m left =
    let d = m.threads t in
    and_from _ _ (has_word image (d.fuel == 0) lock (wants_of image d.held d.regs) (next_lock image d) d.own m.locks left)
    (told image (d.fuel == 0) lock (wants_of image d.held d.regs) (next_lock image d) d.own m.locks (bare d) left (λ k e. (next_fueled image d k e, next_wants image d k e)))

step_left : (image : Shown) (lock t : ℕ) (m : State) (left : List ℕ) → (if tape_takes image lock (tape_at lock t m (word_at image lock m t ++ left)) then rest_of (word_at image lock m t ++ left) else word_at image lock m t ++ left) ≡ left
unfolding tape_takes next_lock word_of
step_left image lock t m left =
    let d = m.threads t in
    left_is image (d.fuel == 0) lock (wants_of image d.held d.regs) (next_lock image d) d.own m.locks left

step_after : (image : Shown) (lock t : ℕ) (m : State) (left : List ℕ) → tape_after image lock t (tape_at lock t m (word_at image lock m t ++ left)) ≡ tape_at lock t (after image m t) left
unfolding tape_after
step_after image lock t m left =
    let d = m.threads t in
    let a = step_act image lock t m left in
    let thread : bare (thread_after (bare d) (tape_act image lock (tape_at lock t m (word_at image lock m t ++ left)))) ≡ bare ((after image m t).threads t) =
    ap (λ x. bare (thread_after (bare d) x)) a ∙ bare_after d (next_act image d m.locks) ∙ ap bare (sym (after_thread image m t)) in
    let l : unowned (mutex_after image t d.held (tape_act image lock (tape_at lock t m (word_at image lock m t ++ left))) lock (unowned (m.locks lock))) ≡ unowned ((after image m t).locks lock) =
    ap (λ x. unowned (mutex_after image t d.held x lock (unowned (m.locks lock)))) a ∙ unowned_after image t d.held (next_act image d m.locks) lock (m.locks lock) ∙ ap unowned (sym (after_mutex image m t lock)) in
    let f = step_left image lock t m left in
    λ i. record { thread = thread i; lock = l i; foreign = f i }

-- after k of the turns the tape is where the machine is
tapes_are : (image : Shown) (lock t : ℕ) (m : State) (k n : ℕ) → tapes image lock t (tape_at lock t m (words_at image lock m t 0 (k + n))) k ≡ tape_at lock t (reach image m t k) (words_at image lock m t k n)
tapes_are image lock t m zero n = ap (λ j. tape_at lock t m (words_at image lock m t 0 j)) (let e : 0 + n ≡ n = omega arith in e)
tapes_are image lock t m (suc k) n =
    let e : suc k + n ≡ k + suc n = omega arith in
    ap (λ j. tape_after image lock t (tapes image lock t (tape_at lock t m (words_at image lock m t 0 j)) k)) e
    ∙ ap (tape_after image lock t) (tapes_are image lock t m k (suc n))
    ∙ step_after image lock t (reach image m t k) (words_at image lock m t (k + 1) n)
    ∙ ap (λ j. tape_at lock t (reach image m t (suc k)) (words_at image lock m t j n)) (add-one k)

module _ (image : Shown) (lock t : ℕ) (m : State) (turns : ℕ) where
  pub first : Tape
  first = tape_at lock t m (words_at image lock m t 0 turns)

  tape_k : (k n : ℕ) → k + n ≡ turns → tapes image lock t first k ≡ tape_at lock t (reach image m t k) (words_at image lock m t k n)
  unfolding first
  tape_k k n e = ap (λ j. tapes image lock t (tape_at lock t m (words_at image lock m t 0 j)) k) (sym e) ∙ tapes_are image lock t m k n

  tape_before : (k : ℕ) → k < turns → (n : ℕ) × (tapes image lock t first k ≡ tape_at lock t (reach image m t k) (word_at image lock (reach image m t k) t ++ words_at image lock m t (k + 1) n))
  tape_before k lt = (turns - (k + 1), tape_k k (suc (turns - (k + 1))) (omega arith))

  end_is : (k : ℕ) → k < turns → tape_end image lock t first k ≡ end_at image m t k
  end_is k lt =
      let here = tape_before k lt in
      let acts = ap (tape_act image lock) here.1 ∙ step_act image lock t (reach image m t k) (words_at image lock m t (k + 1) here.0) in
      let nexts = ap (λ (x : Tape). next_lock image x.thread) (tape_k (suc k) (turns - (k + 1)) (omega arith)) ∙ next_bare image ((reach image m t (suc k)).threads t) in
      λ i. end_rule (outcome_of (acts i)) (k + 1) (nexts i)

-- what the thread held before the block's first turn
before_is : (held : ℕ → Bool) (next : Option ℕ) → ((k : ℕ) → next ≡ Some k → held k ≡ false) → (k : ℕ) → (locks_of_block held next k && not (is_lock next k)) ≡ held k
before_is held None free k = elim (held k) as (λ b. (b && true) ≡ b) [ true ↦ refl | false ↦ refl ]
before_is held (Some lock) free k =
    elim (eqb_tells k lock) [
      | inl e ↦ ap (λ b. (b || held k) && not b) e.0 ∙ sym (ap held e.1 ∙ free lock refl)
      | inr e ↦ ap (λ b. (b || held k) && not b) e.0 ∙ (elim (held k) as (λ b. (b && true) ≡ b) [ true ↦ refl | false ↦ refl ])
    ]

pub running_is : (s : Status) → is_running s ≡ true → s ≡ Running
running_is Running e = refl
running_is Exited e = absurd (cc)
running_is (Failed f) e = absurd (cc)
running_is SpentFuel e = absurd (cc)

-- a thread that takes a turn runs
pub turn_runs : (image : Shown) (m : State) (t : ℕ) → can_turn image m t ≡ true → (m.threads t).status ≡ Running
unfolding can_turn
turn_runs image m t e = running_is (m.threads t).status (and_parts _ _ (and_parts _ _ e).1).0

-- kind and held set tell the lock that the block took, since a LOCK takes only what is above all that is held
pub takes_is : (b : Block) (held : ℕ → Bool) (next : Option ℕ) → ((k : ℕ) → has b.held k ≡ locks_of_block held next k) → is_section b.kind ≡ is_some next
    → ((lock : ℕ) → next ≡ Some lock → (lock < 32) × ((j : ℕ) → held j ≡ true → j < lock)) → takes_of b ≡ next
takes_is b held None is section up = ap (λ v. if v then top_below 32 (has b.held) else None) section
takes_is b held (Some lock) is section up =
    let u = up lock refl in
    ap (λ v. if v then top_below 32 (has b.held) else None) section
    ∙ top_same 32 (has b.held) (locks_of_block held (Some lock)) is
    ∙ top_is 32 lock (locks_of_block held (Some lock)) u.0 (ap (λ v. v || held lock) (eq_self lock))
    (λ j h. elim (eqb_tells j lock) [
      | inl e ↦ (let same = e.1 in omega arith)
      | inr e ↦ (let lt = u.1 j (rw e.0 at h) in omega arith)
    ])

-- a lock that is taken is above all that are held
pub next_above : (image : Shown) (d : Thread) → length image.guards ≤ 32 → ((k : ℕ) → d.held k ≡ true → k < 32) → (lock : ℕ) → next_lock image d ≡ Some lock → (lock < 32) × ((j : ℕ) → d.held j ≡ true → j < lock)
unfolding next_lock
next_above image d few small lock =
    elim (d.fuel == 0) as (λ b. (if b then None else taken_by (act_of image d.held d.regs 0)) ≡ Some lock → (lock < 32) × ((j : ℕ) → d.held j ≡ true → j < lock)) [
      | true ↦ λ e. absurd (cc)
      | false ↦ λ e. (let was = taken_was (act_of image d.held d.regs 0) lock e in lock_is_above image d.held d.regs 0 was.0 lock few small was.1)
    ]

-- the block's record has its held set and its kind
pub record IsRecord (image : Shown) (m : State) (b : Block) : Type 0 where
  pub few : length image.guards ≤ 32
  pub small : (k : ℕ) → (m.threads b.thread).held k ≡ true → k < 32
  pub held : (k : ℕ) → has b.held k ≡ locks_of_block (m.threads b.thread).held (next_lock image (m.threads b.thread)) k
  pub section : is_section b.kind ≡ is_some (next_lock image (m.threads b.thread))

pub record_takes : (image : Shown) (m : State) (b : Block) → IsRecord image m b → takes_of b ≡ next_lock image (m.threads b.thread)
record_takes image m b is = takes_is b (m.threads b.thread).held (next_lock image (m.threads b.thread)) is.held is.section (next_above image (m.threads b.thread) is.few is.small)

module _ (image : Shown) (lock : ℕ) (m : State) (b : Block) (to : State) (runs : Runs image m b.thread b.turns b.end to) (is : IsRecord image m b) where
  begins_at : tape_of (entry_of image lock m b) (unowned (m.locks lock)) ≡ first image lock b.thread m b.turns
  unfolding first
  begins_at =
      let d = m.threads b.thread in
      let held : (k : ℕ) → held_before b k ≡ d.held k = (λ k. ap (λ (x : Bool). x && not (is_lock (takes_of b) k)) (is.held k)
      ∙ ap (λ o. locks_of_block d.held (next_lock image d) k && not (is_lock o k)) (record_takes image m b is)
      ∙ before_is d.held (next_lock image d) (next_free image d) k) in
      let status : Running ≡ d.status = sym (turn_runs image m b.thread (runs.defined 0 runs.some)) in
      λ i. record { thread = record { regs = d.regs; own = λ at. None; fuel = d.fuel; status = status i; held = λ k. held k i }; lock = unowned (m.locks lock); foreign = words_at image lock m b.thread 0 b.turns }

  last_at : tape_in image lock (entry_of image lock m b) (unowned (m.locks lock)) b.turns ≡ tape_at lock b.thread (reach image m b.thread b.turns) []
  last_at = ap (λ x. tapes image lock b.thread x b.turns) begins_at ∙ tape_k image lock b.thread m b.turns b.turns 0 (omega arith)

  -- the block's entry replays on the lock as it was before the block
  pub replays : Replays image lock (entry_of image lock m b) (unowned (m.locks lock))
  replays = record {
    some = runs.some;
    ok = λ k lt. (let here = tape_before image lock b.thread m b.turns k lt in
        ap (λ x. tape_ok image lock (tapes image lock b.thread x k)) begins_at ∙ ap (tape_ok image lock) here.1 ∙ step_ok image lock b.thread (reach image m b.thread k) (words_at image lock m b.thread (k + 1) here.0));
    before = λ k lt. ap (λ x. tape_end image lock b.thread x k) begins_at ∙ end_is image lock b.thread m b.turns k (omega arith) ∙ runs.before k lt;
    ends = λ k e. ap (λ x. tape_end image lock b.thread x k) begins_at ∙ end_is image lock b.thread m b.turns k (omega arith) ∙ runs.ends k e;
    finish = ap (λ (x : Tape). x.thread.regs) last_at;
    used = ap (λ (x : Tape). x.foreign) last_at;
  }

  -- and makes of it what the block makes of it
  pub replay_is : replay_entry image lock (entry_of image lock m b) (unowned (m.locks lock)) ≡ ended b.end (unowned ((reach image m b.thread b.turns).locks lock))
  unfolding replay_entry
  replay_is = ap (λ (x : Tape). ended b.end x.lock) last_at
