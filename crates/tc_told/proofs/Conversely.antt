-- Whatever enabled events write tells a run and keeps the rules: a Commit, and all events.
use Rattle.std.proofs.Common.{◌≡◌, ◌≢◌, ℕ, zero, suc, ◌+◌, ◌<◌, ◌≤◌, Bool, true, false, not, ◌&&◌, ◌||◌, ◌==◌, List, [], ◌∷◌, ◌++◌, length, map, refl, sym, ap, subst, ◌∙◌, arith, inl, inr}
use Rattle.std.proofs.Math.Bool.{or-true, or-false}
use Rattle.std.specs.Prelude.{Some, if◌then◌else◌}
use Rattle.std.specs.Option.{option_map}
use Rattle.std.proofs.lemmas.Bool.{and_parts}
use Rattle.std.proofs.lemmas.Bool.Decides.{nat_tests, eqb_tells}
use Rattle.std.specs.List.{range_with_len}
use Rattle.std.proofs.lemmas.List.{map-append}
use Rattle.std.proofs.lemmas.List.Elements.{All-append, All-cons, All-nil}
use Rattle.tc_journal.proofs.Batching.{obeys-more, passes-more}
use Rattle.tc_isa.specs.Sets.{has}
use Rattle.tc_elf.specs.Shown.{Shown}
use Rattle.tc_journal.specs.Batch.{is_section, is_lock, begins, ends_section, Obeys, PassesOn}
use Rattle.tc_journal.specs.History.{of_lock}
use Rattle.tc_journal.specs.declared.block.Block.{Block}
use Rattle.tc_journal.specs.declared.block.End.{End}
use Rattle.tc_journal.specs.declared.block.Kind.TheVariants as kind
use Rattle.tc_turn.specs.Turn.{Thread, next_lock}
use Rattle.tc_mutex_spec.specs.Machine.{State, start}
use Rattle.tc_mutex_spec.specs.Blocks.{reach, is_first, has_block, Runs, Stands}
use Rattle.tc_mutex_spec.proofs.Folding.{tells-more}
use Rattle.tc_mutex_spec.proofs.BlocksAlike.{runs_apart}
use Rattle.tc_core.specs.declared.event.Event.{Event}
use Rattle.tc_core.specs.declared.event.Event.TheVariants.{Claim, Turn, Commit, Enter, Take, Ship, Adopt, Grant, Leave, Free, HandBack, Park, Finish}
use Rattle.tc_core.specs.declared.place.LockPlace.TheVariants.{With, Granted}
use Rattle.tc_core.specs.declared.place.Course.{Course}
use Rattle.tc_core.specs.declared.place.Custody.{Custody}
use Rattle.tc_core.specs.Core.{Limits, is_number, with_of}
use Rattle.tc_core.specs.Events.{is_enabled, effect, has_thread, is_worker, course_past, custody_past, release_of, after_commit}
use Rattle.tc_core.specs.Stories.{AreEnabled}
use Rattle.tc_core.proofs.Quiet.{pick_mine, pick_other}
use Rattle.tc_core.proofs.Tracked.{tracked_after, first_tracked}
use Rattle.tc_core.proofs.Unfinished.{done_of, ended_of, keeps_commit, block_runs, commit_may}
use Rattle.tc_core.proofs.Whole.{first_keeps}
use Rattle.tc_told.specs.Written.{Beginning, Written, first_written, write, write_all, as_of_one, IsWritten, KeepsRules}
use Rattle.tc_told.proofs.Front.{block_on}
use Rattle.tc_told.proofs.Custodies.{past_kept}
use Rattle.tc_told.proofs.Committed.{IsNext, begins_is, keeps, lock_in, lock_out, has_block_more}
use Rattle.tc_told.proofs.Standing.{Stand, stand_of, is_fresh, of_one, IsLockAt, stays_so, closed_so, may_so}
use Rattle.tc_told.proofs.Small.{known_start, known_tells, block_small}
use Rattle.tc_told.proofs.Ruled.{IsThreadAt, Ruled, thread_still, moved, on_turn, on_enter, on_take, on_adopt, on_grant, on_leave, on_free}
use Rattle.tc_lemmas.proofs.Tests.{eq_self}

-- one stamp more
ordered-more : (a : ℕ) (h : List Block) (b : Block) → map (λ (c : Block). c.stamp) h ≡ range_with_len a (length h) → b.stamp ≡ a + length h
    → map (λ (c : Block). c.stamp) (h ++ b ∷ []) ≡ range_with_len a (length (h ++ b ∷ []))
ordered-more a [] b order stamp = (let e : b.stamp ≡ a = omega (arith, stamp) in λ i. e i ∷ [])
ordered-more a (x ∷ h) b order stamp =
    let first : x.stamp ≡ a = (let f = order in cc) in
    let rest : map (λ (c : Block). c.stamp) h ≡ range_with_len (a + 1) (length h) = (let f = order in cc) in
    let more = ordered-more (a + 1) h b rest (omega (arith, stamp)) in
    (λ i. first i ∷ more i)

module _ (image : Shown) (limits : Limits) (fuel : ℕ) (base : State) (s : Written) (is : Ruled image limits fuel base s) (w t : ℕ) (on : is_enabled image limits s.core (Commit w t) ≡ true) (few : length image.guards ≤ 32) where
  abbrev at : ℕ → Stand
  at = stand_of image base s

  abbrev n : ℕ
  n = (s.core.course t).turns

  abbrev to : State
  to = reach image base t n

  runs_to : (end : End) × Runs image base t n end to
  unfolding done_of
  runs_to = block_runs image s.core base t is.keeps (commit_may image limits s.core w t on)

  abbrev end : End
  end = runs_to.0

  abbrev runs : Runs image base t n end to
  runs = runs_to.1

  ended_is : (s.core.course t).ended ≡ Some end
  unfolding done_of ended_of
  ended_is = go n refl runs.some
    where
      go : (j : ℕ) → j ≡ n → 0 < j → (s.core.course t).ended ≡ Some end
      go zero e lt = absurd (omega arith)
      go (suc k) e lt = (let f : k + 1 ≡ n = omega (arith, e) in sym (is.keeps.ends.ends t k f) ∙ runs.ends k f)

  abbrev b : Block
  b = record { stamp = length s.history; thread = t; turns = n; held = (s.core.course t).held; kind = (s.next t).kind; worker = w; pc = (s.next t).pc; end = end }

  written_is : (write image s (Commit w t)).history ≡ s.history ++ b ∷ []
  written_is = ap (block_on s.history w t (s.next t) (s.core.course t)) ended_is

  abbrev committed : Written
  committed = record {
    core = after_commit s.core w t;
    next = λ k. if k == t then record { kind = kind.On; pc = (s.core.machine.threads t).regs.pc } else s.next k;
    history = s.history ++ b ∷ [];
  }

  abbrev later : ℕ → Stand
  later = stand_of image to committed

  worker_in : w < limits.workers
  unfolding is_enabled
  worker_in =
      (let e : is_worker limits w ≡ true = (and_parts (is_worker limits w) _ (and_parts (has_thread image limits s.core w t) _ on).0).0 in
      grind (arith, nat_tests))

  stands_is : Stands image s.history base b to
  stands_is = record { runs = runs; held = (is.threads t).locks runs.some; pc = (is.threads t).from; section = (is.threads t).section runs.some; first = (is.threads t).starts }

  next_is : IsNext image limits s.history base b to
  next_is = record {
    stands = stands_is;
    stamp = refl;
    held = block_small image s.history base to b few stands_is (known_tells image [] s.history (start image fuel) base is.tells (known_start image fuel));
    worker = worker_in;
  }

  -- the thread stands where its block led
  thread_is : to.threads t ≡ s.core.machine.threads t
  unfolding done_of
  thread_is = (is.keeps.gathers.part t).thread

  thread_other : (u : ℕ) → u ≢ t → to.threads u ≡ base.threads u
  thread_other u ne = (runs_apart image base to t n end runs).threads u ne

  others : (u : ℕ) → u ≢ t → later u ≡ at u
  others u ne = λ i. record {
    turns = (pick_other u t (course_past (s.core.course t)) (s.core.course u) ne i).turns;
    next = next_lock image (s.core.machine.threads u);
    first = next_lock image (thread_other u ne i);
    kind = (pick_other u t (record { kind = kind.On; pc = (s.core.machine.threads t).regs.pc }) (s.next u) ne i).kind;
  }

  none : (later t).turns ≡ 0
  none = ap (λ (y : Course). y.turns) (pick_mine t (course_past (s.core.course t)) (s.core.course t))

  begins_so : committed.next t ≡ record { kind = kind.On; pc = (s.core.machine.threads t).regs.pc }
  begins_so = pick_mine t (record { kind = kind.On; pc = (s.core.machine.threads t).regs.pc }) (s.next t)

  busy : (n == 0) ≡ false
  busy = elim (eqb_tells n 0) [ inl h ↦ absurd (omega (arith, h.1, runs.some)) | inr h ↦ h.0 ]

  begin : (k : ℕ) → begins k b ≡ is_fresh k (at t)
  begin k = begins_is image limits s.history base to b next_is k ∙ sym (ap (λ v. not v && is_lock (at t).first k) busy)

  module _ (k : ℕ) where
    abbrev bs : List Block
    bs = of_lock s.history k

    abbrev x : Custody
    x = s.core.custody k

    abbrev past : Custody
    past = custody_past w t ((s.core.machine.threads t).held k) (release_of (s.core.course t)) x

    with_it : has b.held k ≡ true → is_number (with_of x.place) t ≡ true
    with_it e = sym (is.tracks.with t k) ∙ e

    without : has b.held k ≡ false → is_number (with_of x.place) t ≡ false
    without e = sym (is.tracks.with t k) ∙ e

    held_past_it : has b.held k ≡ true → (s.core.machine.threads t).held k ≡ not (ends_section k b)
    held_past_it e = ap (λ (d : Thread). d.held k) (sym thread_is) ∙ keeps image limits s.history base to b next_is k e

    lock_later : IsLockAt limits.batch k (of_lock (s.history ++ b ∷ []) k) later past
    lock_later = go (has b.held k) refl
      where
        go : (v : Bool) → has b.held k ≡ v → IsLockAt limits.batch k (of_lock (s.history ++ b ∷ []) k) later past
        go true e = subst (λ y. IsLockAt limits.batch k y later past) (lock_in image limits s.history base to b next_is k e)
            (closed_so limits.batch k bs at x (is.locks k) t later others b refl refl (begin k) (with_it e) w ((s.core.machine.threads t).held k) (release_of (s.core.course t))
            (held_past_it e) (ap (option_map (λ y. record { held = (s.core.course t).held; end = y })) ended_is) none)
        go false e = subst (λ y. IsLockAt limits.batch k y later past) (lock_out image limits s.history base to b next_is k e)
            (subst (λ y. IsLockAt limits.batch k bs later y) (sym (past_kept w t ((s.core.machine.threads t).held k) (release_of (s.core.course t)) x (without e)))
            (stays_so limits.batch k bs x t at later (record {
              others = others;
              waits = λ v. absurd (omega (arith, v.turns, runs.some));
              granted = λ g. absurd (omega (arith, g.turns, runs.some));
              fresh = λ h. absurd (no h);
              kind = λ h f. absurd (no h);
            }) (is.locks k)))
          where
            no : x.place ≡ With t → ⊥
            no h = (let f : true ≡ false = sym (ap (λ p. is_number (with_of p) t) h ∙ eq_self t) ∙ without e in cc)

    rules_later : Obeys k limits.batch (as_of_one (of_lock (s.history ++ b ∷ []) k)) × PassesOn k (of_lock (s.history ++ b ∷ []) k)
    rules_later = go (has b.held k) refl
      where
        go : (v : Bool) → has b.held k ≡ v → Obeys k limits.batch (as_of_one (of_lock (s.history ++ b ∷ []) k)) × PassesOn k (of_lock (s.history ++ b ∷ []) k)
        go true e =
            let may = may_so limits.batch k bs at x (is.locks k) t later others b refl refl (begin k) (with_it e) in
            subst (λ y. Obeys k limits.batch (as_of_one y) × PassesOn k y) (lock_in image limits s.history base to b next_is k e) (
              subst (λ y. Obeys k limits.batch y) (sym (map-append of_one bs (b ∷ []))) (obeys-more k limits.batch [] (as_of_one bs) (of_one b) (is.obeys k) may.0),
              passes-more k [] bs b (is.passes k) may.1,
            )
        go false e = subst (λ y. Obeys k limits.batch (as_of_one y) × PassesOn k y) (lock_out image limits s.history base to b next_is k e) (is.obeys k, is.passes k)

    still_granted : (u : ℕ) → x.place ≡ Granted u → past.place ≡ Granted u
    still_granted u e = ap (λ (y : Custody). y.place) (past_kept w t ((s.core.machine.threads t).held k) (release_of (s.core.course t)) x (ap (λ p. is_number (with_of p) t) e)) ∙ e

  abbrev past_at : ℕ → Custody
  past_at k = past k

  thread_later : (u : ℕ) → IsThreadAt image committed.history past_at u (committed.core.course u).held (committed.next u).pc (to.threads u) (later u)
  thread_later u = elim (eqb_tells u t) [
    | inl h ↦ subst (λ v. IsThreadAt image committed.history past_at v (committed.core.course v).held (committed.next v).pc (to.threads v) (later v)) (sym h.1) (record {
      from = ap (λ (y : Beginning). y.pc) begins_so ∙ ap (λ (d : Thread). d.regs.pc) (sym thread_is);
      starts = λ e. ap (λ (y : Beginning). is_first y.kind) begins_so ∙ sym (ap not (has_block_more s.history b t ∙ ap (λ v. has_block s.history t || v) (eq_self t) ∙ or-true (has_block s.history t)));
      locks = λ some. absurd (omega (arith, some, none));
      section = λ some. absurd (omega (arith, some, none));
      granted = λ e f. absurd (let g : false ≡ true = sym (ap (λ (y : Beginning). is_section y.kind) begins_so) ∙ f in cc);
    })
    | inr h ↦ subst (λ d. IsThreadAt image committed.history past_at u (committed.core.course u).held (committed.next u).pc d (later u)) (sym (thread_other u h.1))
        (thread_still image s.core.custody past_at u (base.threads u) (has_block_more s.history b u ∙ ap (λ v. has_block s.history u || v) (differ h.1) ∙ or-false (has_block s.history u))
        (ap (λ (y : Course). y.held) (pick_other u t (course_past (s.core.course t)) (s.core.course u) h.1)) (ap (λ (y : Beginning). y.pc) (pick_other u t _ (s.next u) h.1)) (others u h.1)
        (λ k e. still_granted k u e) (is.threads u))
  ]
    where
      differ : {u : ℕ} → u ≢ t → (t == u) ≡ false
      differ {u = u} ne = elim (eqb_tells t u) [ inl h ↦ absurd (ne (sym h.1)) | inr h ↦ h.0 ]

  ruled_committed : Ruled image limits fuel to committed
  unfolding effect done_of
  ruled_committed = record {
    keeps = keeps_commit image s.core base w t is.keeps;
    tracks = tracked_after image limits s.core (Commit w t) on is.keeps.sound is.tracks;
    stamps = ordered-more 0 s.history b is.stamps (omega arith);
    tells = tells-more image [] s.history _ base to b is.tells next_is.stands;
    workers = All-append (λ (c : Block). c.worker < limits.workers) s.history (b ∷ []) is.workers (All-cons (λ (c : Block). c.worker < limits.workers) b [] worker_in (All-nil (λ (c : Block). c.worker < limits.workers)));
    obeys = λ k. (rules_later k).0;
    passes = λ k. (rules_later k).1;
    threads = thread_later;
    locks = λ k. lock_later k;
  }

  on_commit : (more : State) × Ruled image limits fuel more (write image s (Commit w t))
  unfolding effect
  on_commit = (
    to,
    subst (λ y. Ruled image limits fuel to y) (λ i. record {
      core = after_commit s.core w t;
      next = committed.next;
      history = sym written_is i;
    }) ruled_committed,
  )

-- ---- all events

ruled_next : (image : Shown) (limits : Limits) (fuel : ℕ) (base : State) (s : Written) (e : Event) → is_enabled image limits s.core e ≡ true → length image.guards ≤ 32 → Ruled image limits fuel base s
    → (more : State) × Ruled image limits fuel more (write image s e)
unfolding effect
ruled_next image limits fuel base s (Claim w t) on few is = (base, moved image limits fuel base s is (Claim w t) on refl refl refl refl)
ruled_next image limits fuel base s (Turn w t) on few is = (base, on_turn image limits fuel base s is w t on)
ruled_next image limits fuel base s (Commit w t) on few is = on_commit image limits fuel base s is w t on few
ruled_next image limits fuel base s (Enter w t k) on few is = (base, on_enter image limits fuel base s is w t k on)
ruled_next image limits fuel base s (Take w t k) on few is = (base, on_take image limits fuel base s is w t k on)
ruled_next image limits fuel base s (Ship w t k) on few is = (base, moved image limits fuel base s is (Ship w t k) on refl refl refl refl)
ruled_next image limits fuel base s (Adopt w t k) on few is = (base, on_adopt image limits fuel base s is w t k on)
ruled_next image limits fuel base s (Grant w t k) on few is = (base, on_grant image limits fuel base s is w t k on)
ruled_next image limits fuel base s (Leave w k) on few is = (base, on_leave image limits fuel base s is w k on)
ruled_next image limits fuel base s (Free w k) on few is = (base, on_free image limits fuel base s is w k on)
ruled_next image limits fuel base s (HandBack w t) on few is = (base, moved image limits fuel base s is (HandBack w t) on refl refl refl refl)
ruled_next image limits fuel base s (Park w t) on few is = (base, moved image limits fuel base s is (Park w t) on refl refl refl refl)
ruled_next image limits fuel base s (Finish w t) on few is = (base, moved image limits fuel base s is (Finish w t) on refl refl refl refl)

pub ruled_all : (image : Shown) (limits : Limits) (fuel : ℕ) (es : List Event) (base : State) (s : Written) → AreEnabled image limits s.core es → length image.guards ≤ 32 → Ruled image limits fuel base s
    → (more : State) × Ruled image limits fuel more (write_all image s es)
ruled_all image limits fuel [] base s on few is = (base, is)
ruled_all image limits fuel (e ∷ es) base s on few is =
    let r = ruled_next image limits fuel base s e on.0 few is in
    ruled_all image limits fuel es r.0 (write image s e) on.1 few r.1

pub first_ruled : (image : Shown) (limits : Limits) (fuel : ℕ) → Ruled image limits fuel (start image fuel) (first_written image fuel)
first_ruled image limits fuel = record {
  keeps = first_keeps image fuel;
  tracks = first_tracked image fuel;
  stamps = refl;
  tells = refl;
  workers = All-nil (λ (b : Block). b.worker < limits.workers);
  obeys = λ k. tt;
  passes = λ k. tt;
  threads = λ t. record { from = refl; starts = λ e. refl; locks = λ some. absurd (omega (arith, some)); section = λ some. absurd (omega (arith, some)); granted = λ none e. absurd (cc) };
  locks = λ k. record { once = tt; waits = λ u e. absurd (cc); rule = (refl, tt) };
}

-- of every history that enabled events write
pub rules_kept : (image : Shown) (limits : Limits) (fuel : ℕ) (h : List Block) → length image.guards ≤ 32 → IsWritten image limits fuel h → KeepsRules image limits fuel h
rules_kept image limits fuel h few is =
    let r = ruled_all image limits fuel is.events (start image fuel) (first_written image fuel) is.enabled few (first_ruled image limits fuel) in
    subst (λ x. KeepsRules image limits fuel x) is.writes (record {
      last = r.0;
      stamps = r.1.stamps;
      tells = r.1.tells;
      workers = r.1.workers;
      obeys = λ k lt. r.1.obeys k;
      passes = λ k lt. r.1.passes k;
    })
