-- A package in the middle of a block.
use Rattle.tc_context.proofs.Vocabulary.{◌≡◌, ℕ, ◌+◌, ◌-◌, ◌<◌, ◌≤◌, Bool, true, false, ◌++◌, refl, sym, ap, subst, ◌∙◌, arith, add-one, zero, suc, Option, Some, None, is_some, option_map, has, MAX_TURNS, Shown, Thread, next_lock, outcome_of, LockView, Journal, lock_in, mutex_or, Context, thread_in, mutex_at, whole, set_of, journal_at, Keeps, CanGo}
use Rattle.tc_context.proofs.Vocabulary.{block_locks, RunsAs, act_in, IsTurn, noted_when, words_of, AreOpen, HasRoom, AreNoted, GoesOn, MayTurn, word_of, word_short, words_short, word_same, map_some, option_map-twice, done_of, Covers, MayRun, next_free, covers_on, held_on, went_on, goes_on, State, is_free, is_open, can_turn, after, reach, Runs, words_next, end_done}
use Rattle.tc_context.proofs.Vocabulary.{next_small, slept_by, slept_at, slept_in, End, Agree, after_thread, after_mutex, agree_trans, agree_at, covers_at, covers_block, runs_same, runs_apart, DidTurns, Act, Done, outcome_done, end_rule, DidTurn, Lock}
use Rattle.tc_turn.proofs.InPlace.{same_outcome}
pub use Rattle.tc_mutex_spec.proofs.Going.{block_inside, no_cut}
use Rattle.tc_mutex_spec.proofs.Within.{AreWithin, within_more, within_ends, IsTold, turn_told}
use Rattle.tc_context.proofs.Moved.{when_nil, when_more, when_open}
use Rattle.tc_journal.specs.declared.rule.Outcome.{Outcome}
use Rattle.tc_journal.specs.declared.rule.Outcome.TheVariants as outcome
use Rattle.tc_exec.specs.declared.outcome.Done.TheVariants as done

pub record Partway (image : Shown) (block : ℕ → Bool) (old now : Context) (n : ℕ) : Type 0 where
  pub short : n < MAX_TURNS
  pub keeps : Keeps old now
  pub go : CanGo image now
  pub agree : Agree old.thread (set_of old) (reach image (whole old) old.thread n) (whole now)
  pub within : AreWithin image (whole old) old.thread n
  pub covers : Covers image block (thread_in now)
  pub journals : AreNoted image block n old now

pub keeps_all : (a b c : Context) → Keeps a b → Keeps b c → Keeps a c
keeps_all a b c p q = record { thread = q.thread ∙ p.thread; set = λ k. q.set k ∙ p.set k; of = λ image of. q.of image (p.of image of) }

pub partway_start : (image : Shown) (block : ℕ → Bool) (p : Context) → CanGo image p → Covers image block (thread_in p) → Partway image block p p 0
partway_start image block p go covers = grind (arith, when_nil)

-- a package's next lock isn't held, so it has no owner there
open_here : (image : Shown) (p : Context) (o : Option ℕ) → next_lock image (thread_in p) ≡ o → is_open o (mutex_at p) ≡ true
open_here image p None e = refl
open_here image p (Some k) e =
    ap (λ b. is_free (mutex_or p.thread b (lock_in p.locks k)).owner) (next_free image (thread_in p) k e)
    ∙ (elim (lock_in p.locks k) as (λ l. is_free (mutex_or p.thread false l).owner ≡ true) [ None ↦ refl | Some l ↦ refl ])

-- a package that can go takes a turn
goes : (image : Shown) (p : Context) → CanGo image p → can_turn image (whole p) p.thread ≡ true
unfolding can_turn
goes image p go = grind (arith, open_here)

-- the turn leaves the machine's part as the package has it
agree_moved : (image : Shown) (block : ℕ → Bool) (now new : Context) → IsTurn image block now new → Agree now.thread (set_of now) (after image (whole now) now.thread) (whole new)
agree_moved image block now new turn = record { thread = after_thread image (whole now) now.thread ∙ sym turn.thread; locks = λ k h. after_mutex image (whole now) now.thread k ∙ sym (turn.locks k h) }

-- the same set covers the thread after a turn that ends no block
covers_moved : (image : Shown) (set block : ℕ → Bool) (now new : Context) → Covers image set (thread_in now) → IsTurn image block now new → next_lock image (thread_in new) ≡ None → Covers image set (thread_in new)
covers_moved image set block now new covers turn none = grind (arith, covers_on)

-- what isn't in the package before and after is none
none_same : (t u : ℕ) (b c : Bool) (o p : Option LockView) → is_some o ≡ false → is_some p ≡ false → mutex_or u c p ≡ mutex_or t b o
none_same t u b c o p e f = grind arith

module _ {image : Shown} {block : ℕ → Bool} {old now new : Context} {n : ℕ} (partway : Partway image block old now n) (turn : IsTurn image block now new) where
  -- a further turn, as the machine tells it
  further : IsTold image (whole old) old.thread n (set_of old) (whole now) (whole new)
  further =
      let t = old.thread in
      let set = set_of old in
      turn_told image (whole old) t n set (whole now) (whole new) (covers_at image (set_of now) set (thread_in now) partway.keeps.set partway.go.covers)
      (ap (can_turn image (whole now)) (sym partway.keeps.thread) ∙ goes image now partway.go) partway.agree
      (subst (λ u. Agree t set (after image (whole now) u) (whole new)) partway.keeps.thread (agree_at now.thread t (set_of now) set _ (whole new) partway.keeps.thread partway.keeps.set (agree_moved image block now new turn)))

  -- the turn's words are noted
  pub noted_next : AreNoted image block (n + 1) old new
  noted_next k =
      let t = old.thread in
      let ws = words_of image old k n in
      let here = reach image (whole old) t n in
      let covers : Covers image (set_of old) (thread_in now) = covers_at image (set_of now) (set_of old) (thread_in now) partway.keeps.set partway.go.covers in
      let word : word_of image k (thread_in now) (mutex_at now) ≡ word_of image k (here.threads t) here.locks =
      word_same image (set_of old) k (thread_in now) (mutex_at now) here.locks covers (λ j h. sym (partway.agree.locks j h)) ∙ ap (λ d. word_of image k d here.locks) (sym partway.agree.thread) in
      turn.journals k
      ∙ (λ i. option_map (noted_when (block k) (word i)) (partway.journals k i))
      ∙ option_map-twice (noted_when (block k) ws) (noted_when (block k) (word_of image k (here.threads t) here.locks)) (noted_when (block k) (ws ++ word_of image k (here.threads t) here.locks)) (journal_at old k)
      (when_more (block k) ws (word_of image k (here.threads t) here.locks))
      ∙ ap (λ x. option_map (noted_when (block k) x) (journal_at old k))
      (sym (words_next image k (whole old) t n))

  pub partway_more : end_rule (outcome_of (act_in image now)) (n + 1) (next_lock image (thread_in new)) ≡ None → Partway image block old new (n + 1)
  partway_more none =
      let on = goes_on (thread_in now) (act_in image now) (n + 1) (next_lock image (thread_in new)) none in
      record {
        short = (let s = partway.short in omega (arith, on.1));
        keeps = keeps_all old now new partway.keeps turn.keeps;
        go = record {
          guards = partway.go.guards;
          thread = rw turn.keeps.thread partway.go.thread;
          running = ap (λ (d : Thread). d.status) turn.thread ∙ on.2 ∙ partway.go.running;
          of = turn.keeps.of image partway.go.of;
          covers = covers_at image (set_of now) (set_of new) (thread_in new) (λ k. sym (turn.keeps.set k)) (covers_moved image (set_of now) block now new partway.go.covers turn on.0);
        };
        agree = further.agree;
        within = within_more image (whole old) old.thread n partway.within further.can (further.end ∙ none);
        covers = covers_moved image block block now new partway.covers turn on.0;
        journals = noted_next;
      }

  -- and what its last turn slept for
  pub partway_slept : slept_by (option_map done_of (act_in image now)) ≡ slept_at image (whole old) old.thread (n + 1 - 1)
  partway_slept = grind (arith, further)

  module _ {end : End} (ends : end_rule (outcome_of (act_in image now)) (n + 1) (next_lock image (thread_in new)) ≡ Some end) where
    abbrev t : ℕ
    t = old.thread

    abbrev mine : ℕ → Bool
    mine = block_locks image old

    abbrev last : State
    last = reach image (whole old) t (n + 1)

    runs : Runs image (whole old) t (n + 1) end last
    runs = within_ends image (whole old) t n partway.within further.can end (further.end ∙ ends)

    by : (k : ℕ) → mine k ≡ false → (v : Bool) → set_of old k ≡ v → mutex_at new k ≡ mutex_at old k
    by k out true s = sym (further.agree.locks k s) ∙ (runs_apart image (whole old) last t (n + 1) end runs).locks k out
    by k out false s = none_same t new.thread (has old.guest.held k) (has new.guest.held k) (lock_in old.locks k) (lock_in new.locks k) s (turn.keeps.set k ∙ partway.keeps.set k ∙ s)

    pub partway_ends : CanGo image old → RunsAs image old new (n + 1) end
    partway_ends go = record {
      keeps = keeps_all old now new partway.keeps turn.keeps;
      block = λ m agree.
          let r = runs_same image (whole old) m last t (n + 1) end mine runs (covers_block image (thread_in old)) agree in
          let back : Agree t mine (whole new) last = record { thread = sym further.agree.thread; locks = λ k h. sym (further.agree.locks k (block_inside image (set_of old) (thread_in old) go.covers k h)) } in
          (r.0, r.1, agree_trans t mine (whole new) last r.0 back r.2, r.3);
      others = λ k out. by k out (set_of old k) refl;
    }

-- a block has a turn
pub runs_some : {image : Shown} {old new : Context} {n : ℕ} {e : End} → RunsAs image old new n e → 1 ≤ n
runs_some {old = old} runs = (let some = (runs.block (whole old) (record { thread = refl; locks = λ k h. refl })).1.some in omega arith)

-- in the middle of a block, the journals have open entries and room
module _ {image : Shown} {block : ℕ → Bool} {old now : Context} {n : ℕ} (may : MayTurn image block MAX_TURNS old) (partway : Partway image block old now n) where
  opened_here : AreOpen block now
  opened_here k j at h = grind arith

  -- there is room for the words that are left
  room_here : HasRoom (MAX_TURNS - n) block now
  room_here k j at h = grind (arith, words_short)

  -- so turns may come
  pub run_here : MayRun image block (MAX_TURNS - n) now
  run_here = record { guards = partway.go.guards; of = partway.go.of; held = partway.covers.held; opened = opened_here; room = room_here }

  pub may_here : MayTurn image block 1 now
  may_here = record { go = partway.go; covers = partway.covers; opened = opened_here; room = λ k j at h. (let r = room_here k j at h in let short = partway.short in omega (arith, r, short)) }

-- a turn that ends no block went on
went_by : (o : Outcome) (n : ℕ) (next : Option ℕ) → end_rule o n next ≡ None → o ≡ outcome.Went
went_by o n next e = grind arith

-- a LOCK goes on
pub went_lock : {image : Shown} {block : ℕ → Bool} {old new : Context} {lock : ℕ} → DidTurn image block old new (Some (done.Called (Lock lock))) → outcome_of (act_in image old) ≡ outcome.Went
went_lock {image = image} {old = old} did = sym (same_outcome (act_in image old)) ∙ ap outcome_done (sym did.done)

-- the room for a turn's word is taken, and what it asked is there for the next
pub may_more : {image : Shown} {block : ℕ → Bool} {old new : Context} (n : ℕ) → MayRun image block (suc n) old → IsTurn image block old new → Covers image block (thread_in old) → MayRun image block n new
may_more {image = image} {block = block} {old = old} {new = new} n may turn covers =
    let words = λ (k : ℕ). word_of image k (thread_in old) (mutex_at old) in
    let was = λ (k : ℕ) (j : Journal) (at : journal_at new k ≡ Some j). map_some (noted_when (block k) (words k)) (journal_at old k) j (sym (turn.journals k) ∙ at) in
    record {
      guards = may.guards;
      of = turn.keeps.of image may.of;
      held = λ k h. held_on image block (thread_in old) (mutex_at old) covers k (sym (ap (λ (d : Thread). d.held k) turn.thread) ∙ h);
      opened = λ k j at h. (let w = was k j at in ap (λ (i : Journal). is_some i.opened) w.2 ∙ when_open (block k) (words k) w.0 ∙ may.opened k w.0 w.1 h);
      room = (grind (arith, word_short));
    }

-- so many turns of a block were done, the last of which went on
abbrev pub IsOn : Shown → (ℕ → Bool) → Context → Context → ℕ → Type 0
IsOn image block old now zero = (now ≡ old) × (next_lock image (thread_in old) ≡ None)
IsOn image block old now (suc n) = (last : Context) × Partway image block old last n × IsTurn image block last now × (outcome_of (act_in image last) ≡ outcome.Went)

module _ {image : Shown} {block : ℕ → Bool} {old : Context} (may : MayTurn image block MAX_TURNS old) where
  -- where no LOCK follows, the package is in the middle of the block
  pub on_free : (n : ℕ) (now : Context) → IsOn image block old now n → n < MAX_TURNS → next_lock image (thread_in now) ≡ None → Partway image block old now n
  on_free zero now on lt none = subst (λ p. Partway image block old p 0) (sym on.0) (partway_start image block old may.go may.covers)
  on_free (suc n) now on lt none =
      let e = add-one n in
      subst (Partway image block old now) e (partway_more on.1 on.2 ((λ i. end_rule (on.3 i) (e i) (none i)) ∙ no_cut (suc n) lt))

  -- before the first turn no LOCK follows
  pub on_first : (n : ℕ) (now : Context) → IsOn image block old now n → n ≡ 0 → next_lock image (thread_in now) ≡ None
  on_first n now on none = grind arith

  pub on_run : (c n : ℕ) (now new : Context) → IsOn image block old now c → c + n ≤ MAX_TURNS → GoesOn image block n now new → IsOn image block old new (c + n)
  on_run c zero now new on most goes = subst (λ (x : Context × ℕ). IsOn image block old x.0 x.1) (let e : c ≡ c + 0 = omega arith in λ i. (goes i, e i)) on
  on_run c (suc n) now new on most goes =
      let mid = on_run c n now goes.0 on (omega (arith, most)) goes.1 in
      let step = goes.2 in
      subst (IsOn image block old new) (let e : suc (c + n) ≡ c + suc n = omega arith in e) (goes.0, on_free (c + n) goes.0 mid (omega (arith, most)) step.none, step.turn, step.went)

  -- what the turns that are left ask
  pub on_may : (n : ℕ) (now : Context) → IsOn image block old now n → MayRun image block (MAX_TURNS - n) now
  on_may zero now on = subst (MayRun image block MAX_TURNS) (sym on.0) (record { guards = may.go.guards; of = may.go.of; held = may.covers.held; opened = may.opened; room = may.room })
  on_may (suc n) now on =
      let short = on.1.short in
      let more : MAX_TURNS - n ≡ suc (MAX_TURNS - suc n) = omega (arith, short) in
      may_more (MAX_TURNS - suc n) (subst (λ m. MayRun image block m on.0) more (run_here may on.1)) on.2 on.1.covers

-- a turn that goes on is no SLEEP
pub sleeps_not : (a : Option Act) → outcome_of a ≡ outcome.Went → slept_by (option_map done_of a) ≡ 0
sleeps_not a e = grind arith

-- turns that went on end the block here
pub on_ends : {image : Shown} {block : ℕ → Bool} {old now : Context} (n : ℕ) {lock : Option ℕ} (end : End) → MayTurn image block MAX_TURNS old → IsOn image block old now n → lock ≡ next_lock image (thread_in now) → end_rule outcome.Went n lock ≡ Some end
    → DidTurns image block old now (record { end = end; count = n; slept = 0; next = lock })
on_ends {image = image} {old = old} {now = now} zero end may on next rule =
    absurd (let none : None ≡ Some end = sym (no_cut 0 (omega arith)) ∙ ap (end_rule outcome.Went 0) (sym (next ∙ ap (λ (p : Context). next_lock image (thread_in p)) on.0 ∙ on.1)) ∙ rule in cc)
on_ends {image = image} {block = block} {old = old} {now = now} (suc n) {lock = lock} end may on next rule =
    let e : n + 1 ≡ suc n = add-one n in
    let partway = on.1 in
    let turn = on.2 in
    let rule_n : end_rule outcome.Went (suc n) (next_lock image (thread_in now)) ≡ Some end = ap (end_rule outcome.Went (suc n)) (sym next) ∙ rule in
    record {
      runs = subst (λ m. RunsAs image old now m end) e (partway_ends partway turn ((λ i. end_rule (on.3 i) (e i) (next_lock image (thread_in now))) ∙ rule_n) may.go);
      most = (let short = partway.short in omega arith);
      ends = end_done (Some done.Went) (suc n) (next_lock image (thread_in now)) end tt (next_small image (thread_in now) may.go.guards) rule_n;
      sleeps = sym (sleeps_not (act_in image on.0) on.3) ∙ partway_slept partway turn ∙ ap (slept_in image old) e;
      journals = subst (λ m. AreNoted image block m old now) e (noted_next partway turn);
      follows = next;
    }

-- turns that went on, some of them before a run and the others of it, and end no block are followed by no LOCK
pub on_goes : {image : Shown} {block : ℕ → Bool} {old : Context} (c n : ℕ) (now new : Context) {lock : Option ℕ} → MayTurn image block MAX_TURNS old → IsOn image block old now c → GoesOn image block n now new → c + n ≤ MAX_TURNS → lock ≡ next_lock image (thread_in new)
    → end_rule outcome.Went (c + n) lock ≡ None → Partway image block old new (c + n) × (lock ≡ None)
on_goes c n now new {lock = lock} may on goes most next rule =
    let free = went_on (c + n) lock rule in
    (on_free may (c + n) new (on_run may c n now new on most goes) (omega (arith, most, free.1)) (sym next ∙ free.0), free.0)

-- a turn that is told
module _ {image : Shown} {block : ℕ → Bool} {old now new : Context} {n : ℕ} {done : Option Done} {lock : Option ℕ} (partway : Partway image block old now n) (did : DidTurn image block now new done) (next : lock ≡ next_lock image (thread_in new)) where
  same_rule : end_rule (outcome_of (act_in image now)) (n + 1) (next_lock image (thread_in new)) ≡ end_rule (outcome_done done) (n + 1) lock
  same_rule = λ i. end_rule (sym (ap outcome_done did.done ∙ same_outcome (act_in image now)) i) (n + 1) (sym next i)

  -- it ends the block
  pub told_ends : CanGo image old → (end : End) → end_rule (outcome_done done) (n + 1) lock ≡ Some end → DidTurns image block old new (record { end = end; count = n + 1; slept = slept_by done; next = lock })
  told_ends go end rule = record {
    runs = partway_ends partway did.turn (same_rule ∙ rule) go;
    most = (let short = partway.short in omega arith);
    ends = end_done done (n + 1) (next_lock image (thread_in new)) end did.fits (next_small image (thread_in new) go.guards) ((λ i. end_rule (outcome_done done) (n + 1) (sym next i)) ∙ rule);
    sleeps = ap slept_by did.done ∙ partway_slept partway did.turn;
    journals = noted_next partway did.turn;
    follows = next;
  }

  -- it does not, so it went on
  pub told_on : end_rule (outcome_done done) (n + 1) lock ≡ None → IsOn image block old new (n + 1)
  told_on rule = subst (IsOn image block old new) (let e : suc n ≡ n + 1 = omega arith in e) (now, partway, did.turn, went_by (outcome_of (act_in image now)) (n + 1) (next_lock image (thread_in new)) (same_rule ∙ rule))
