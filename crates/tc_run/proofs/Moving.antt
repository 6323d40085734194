-- The invariant after one operation more: by its parts, and by the operation.
use Rattle.std.proofs.Common.{◌≡◌, ◌≢◌, ◌⊎◌, inl, inr, ⊎_elim, ℕ, suc, ◌+◌, ◌<◌, ◌==◌, ◌||◌, ◌&&◌, not, Bool, true, false, if◌then◌else◌, List, [], ◌∷◌, ◌++◌, refl, sym, ap, ◌∙◌, subst, arith, set, zero, ◌≤◌, eqb-true, eq-eqb, ne_eqb, Option, Some, None}
use mathlib.Core.Option.{some, some-injective, some-ne-none}
use lib.ListN.{get_elem?}
use Rattle.tc_isa.specs.Sets.{has}
use Rattle.tc_journal.specs.declared.block.Block.{Block}
use Rattle.tc_journal.specs.declared.block.Kind.{Kind}
use Rattle.tc_journal.specs.declared.block.Kind.TheVariants.{Taken, Adopted, Granted, On}
use Rattle.tc_turn.specs.Turn.{next_lock}
use Rattle.tc_segment.specs.View.{LockView, kept, sealed_block}
use Rattle.tc_context.specs.View.{PackageView}
use Rattle.tc_queue.specs.declared.turn.Turn.{Turn}
use Rattle.tc_queue.specs.declared.turn.Entered.{Entered}
use Rattle.tc_queue.specs.declared.turn.Leave.TheVariants.{Left, Followed}
use Rattle.tc_queue.specs.declared.turn.QueueCall.{QueueCall}
use Rattle.tc_queue.specs.declared.turn.QueueCall.TheVariants.{Enter as Did_enter, Link as Did_link, Next as Did_ask, Leave as Did_leave}
use Rattle.tc_core.specs.Core.{Core}
use Rattle.tc_core.specs.Events.{adopts, custody_on, custody_past, entered as line_entered, freed, left_by_all, passed_to, taken_by}
use Rattle.tc_core.specs.declared.place.Custody.{Custody}
use Rattle.tc_core.specs.declared.place.Release.{Release}
use Rattle.tc_core.proofs.Standing.{is_out}
use Rattle.tc_hall.specs.declared.board.HallTerms.{HallTerms}
use Rattle.tc_hall.specs.declared.board.Knows.{Knows}
use Rattle.tc_hall.specs.declared.place.Place.{Place}
use Rattle.tc_hall.specs.declared.place.Place.TheVariants.{Ready, Parked, Waiting, Done}
use Rattle.tc_hall.specs.Places.{place_of}
use Rattle.tc_hall.specs.Rule.{locks, threads}
use Rattle.tc_hall.specs.Standing.{Standing, away, granted as granted_at, held, past, past_line, StandsAs, ClaimsAs, EntersAs, FreesAs, TakesAs, IfWaiting, standing_of, entered, followed, loose, closed}
use Rattle.tc_hall.specs.Order.{Operation, claim, take, miss, commit, put, free, look, stop, stopped, reach, lay, line, split, join, Made, MayDo, after_operation, line_after, plain_of}
use Rattle.tc_hall.specs.Ties.{after_events, is_with, machine_limits}
use Rattle.tc_core.specs.declared.event.Event.{Event}
use Rattle.tc_told.specs.Written.{Written, write_all}
use Rattle.tc_told.specs.declared.writer.Beginning.{Beginning}
use Rattle.tc_hall.specs.Rule.{Has, HasLock, out as out_with}
use Rattle.atomic_table.proofs.Lists.{set_else}
use Rattle.tc_core.specs.Core.{is_free_lock}
use Rattle.tc_hall.specs.Steps.{fresh, after_free, after_miss, with_call}
use Rattle.tc_hall.proofs.Standing.{standing_last}
use Rattle.tc_hall.specs.declared.board.PassCall.{PassCall}
use Rattle.tc_hall.specs.declared.board.PassCall.TheVariants.{Free, Line, Look, Stopped}
use mathlib.Core.Logic.{dite}
use Rattle.tc_core.specs.declared.place.LockPlace.{LockPlace}
use Rattle.tc_core.specs.declared.place.LockPlace.TheVariants as place
use Rattle.tc_told.proofs.Standing.{IsLockAt, Rule, Stand}
use Rattle.tc_hall.specs.Outline.{at_home}
use Rattle.tc_hall.specs.Shown.{lock_in_slot}
use native.Mathlib.Decide.{ℕ_discrete}
use Rattle.std.proofs.lemmas.List.{append-nil, append_assoc}
use Rattle.tc_queue.specs.declared.turn.Entered.TheVariants.{Behind, First}
use Rattle.tc_queue.specs.declared.words.Linked.{Linked}
use Rattle.tc_queue.specs.Calls.{answer_to_enter, answer_to_next, answer_to_leave}
use Rattle.tc_queue.specs.Order.{Plain, plain_after}
use Rattle.tc_core.specs.Lines.{is_first, is_in_line, rest_of}
use Rattle.tc_hall.specs.Lines.{plain_at}
use Rattle.tc_run.proofs.Queues.{behind_enters, first_enters, next_is_second, get_end, get_front, get_last, get_rest, in_back, left_is_single, last_enter, last_next, last_rest, leave_none, linked_enter, linked_link, linked_rest, one_place, threads_more, threads_rest, turn_in_line}
use Rattle.tc_run.proofs.Hands.{asked, kept_at, come_of, core_is, entries_few, line_shown, once_at, ruled_at, shown_at, with_first}
use Rattle.tc_run.proofs.Lifting.{not_in_line, truth}
use Rattle.tc_run.proofs.Slots.{Stays, all_stays, line_stays, not_claimed, not_loose, not_out, own_stays, put_where, slots_by}
use Rattle.tc_hall.specs.Standing.{IsRunAs, PutsAs, SealsAs, last_turn, stand_in}
use Rattle.tc_run.proofs.Covers as covers
use Rattle.tc_run.proofs.Committing as commits
use Rattle.tc_run.proofs.Counting.{counted_after}
use Rattle.tc_run.proofs.Sealed.{sealed_none, written_so}
use Rattle.tc_run.specs.Run.{sealed_by, sealed_in}
use Rattle.tc_run.specs.Run.{entered_by, entered_in, given_by, given_in, given_to, queue_past, without_first, claim_events, last_turn_of, line_past, take_events, threads_of, waits_at}
use Rattle.tc_run.proofs.After.{concerns, core_then, block_line, custody_else, lock_else, lock_gone, view_own, enter_custody, entered_none, free_line, plain_else, take_line, free_custody, history_of_claim, history_of_put, either}
use Rattle.tc_run.proofs.After.{history_of_take, other_view, if_not, leave_custody, line_else, next_by_block, next_of_block, next_of_claim, next_of_put, next_of_take, pass_custody, steps_of, take_custody, written_then, IsCommit}
use Rattle.tc_journal.specs.Batch.{last_of}
use Rattle.tc_segment.specs.View.{blocks_of}
use Rattle.tc_context.specs.View.{bare}
use Rattle.tc_hall.specs.Order.{MayClaim}
use Rattle.tc_hall.specs.Outline.{in_hand}
use Rattle.tc_hall.specs.Shown.{lock_with_pass}
use Rattle.tc_hall.specs.Standing.{PassesAs, past_passing, past_waiting, stand_in}
use Rattle.tc_hall.specs.Steps.{kind_passed, passed_kind}
use Rattle.tc_hall.specs.Rule.{locked_in}
use Rattle.tc_run.proofs.Hands.{kind_adopts}
use Rattle.tc_journal.specs.Batch.{ends_section}
use Rattle.tc_context.specs.View.{with_seal}
use Rattle.tc_core.specs.Core.{is_number, with_of}
use Rattle.tc_hall.specs.declared.board.PassCall.TheVariants.{Commit, Take}
use Rattle.tc_hall.specs.Order.{MayFill, MayTake}
use Rattle.tc_hall.specs.Shown.{with_pass}
use Rattle.tc_hall.specs.Standing.{IsRunAs, PutsAs, SealsAs, last_turn, past_block, past_section, past_take}
use Rattle.tc_hall.specs.Steps.{IsFree, after_put, after_seal, after_take, dealt, gone, merged, put_call}
use Rattle.tc_hall.proofs.LockLists.{remove_all-at, remove_all-else}
use Rattle.tc_hall.proofs.Moves as moves
use Rattle.tc_hall.proofs.Standing.{put_else, put_in}
use Rattle.tc_hall.proofs.Taking.{lock_at_home}
use Rattle.atomic_table.proofs.Lists.{at_longer, set_here}
use Rattle.tc_mutex_spec.proofs.ListLaws.{there}
use Rattle.tc_run.proofs.Hands.{free_away}
use Rattle.tc_run.proofs.Lifting.{waits_or_not}
use Rattle.tc_run.proofs.Passes.{both_away, free_left, granted_next, held_next, locks_more, more_true, of_thread, on_with, one_wanted, past_with, run_lock, run_shut, seal_back, seal_held, section_lock, section_next, section_thread, section_true, slot_apart, stands_away, stands_so, with_if}
use Rattle.tc_run.proofs.Passes.{IsClaimed, claim_inside, claim_outside, claimed_by, claimed_here, claimed_so, inside_apart, kind_rule, lock_apart, lockless_true, next_true, package_apart, packages_more, past_passed, past_plain, shown_true, shows_no_grant, stands_fresh, truth_as, waiting_ungranted}
use Rattle.tc_run.proofs.Agree.{Agrees, has_lock, thread_of, IsTrue, Truth, AreCounted, AreLinked, first_in, given_first, HasCome, IsIn, entries_by, is_entry, hall_at, InSlot, IsCovered, IsLine, IsServed, IsShownIn, IsWrittenSo, Live, Run, StandsTrue, Step, core_at, custody_at, line_at, then_run, written_at, may_do}
use Rattle.tc_hall.proofs.Outlines.{home_free}
use Rattle.tc_core.proofs.Quiet.{pick_mine}
use Rattle.tc_hall.proofs.Turns.{tail_followed}

-- ---- an operation that changes little

-- it is no event, and changes no lock, no line and no package: it adds at most one call to the list of its pass
pub data IsQuiet : Operation → Type 0 where
  missed : (word wanted found : ℕ) → IsQuiet (miss word wanted found)
  looked : (t found : ℕ) → IsQuiet (look t found)
  saw : (found : ℕ) → IsQuiet (stopped found)
  reached : (slot : ℕ) → IsQuiet (reach slot)
  laid : (slot : ℕ) → IsQuiet (lay slot)
  unlinked : (i : ℕ) (u : Turn) → IsQuiet (line i (Did_ask u None))
  followed_by : (i : ℕ) (u : Turn) (tail : Option Turn) → IsQuiet (line i (Did_leave u (Followed tail)))

first_one_is : (us : List Turn) (u : Turn) → get_elem? us 0 ≡ some u → first_in us ≡ u ∷ []
first_one_is [] u e = absurd (some-ne-none u (sym e))
first_one_is (x ∷ us) u e = ap (λ (z : Turn). z ∷ []) (some-injective x u e)

begins_with : (us : List Turn) (u : Turn) → get_elem? us 0 ≡ some u → us ≡ u ∷ without_first us
begins_with [] u e = absurd (some-ne-none u (sym e))
begins_with (x ∷ us) u e = ap (λ (z : Turn). z ∷ us) (some-injective x u e)

given_empty : (p : LockPlace) (left : Bool) → given_first p left [] ≡ []
given_empty place.Free left = refl
given_empty (place.Granted t) left = refl
given_empty (place.With t) left = refl
given_empty (place.Loose w) true = refl
given_empty (place.Loose w) false = refl

given_more : (p : LockPlace) (left : Bool) (us : List Turn) (u : Turn) → (us ≡ [] → given_first p left (u ∷ []) ≡ []) → given_first p left us ≡ given_first p left (us ++ u ∷ [])
given_more p left [] u none = given_empty p left ∙ sym (none refl)
given_more place.Free left (x ∷ us) u none = refl
given_more (place.Granted t) left (x ∷ us) u none = refl
given_more (place.With t) left (x ∷ us) u none = refl
given_more (place.Loose w) true (x ∷ us) u none = refl
given_more (place.Loose w) false (x ∷ us) u none = refl

given_else : (i : ℕ) (v : Knows) (o : Operation) → concerns i o ≡ false → given_by i v o ≡ []
given_else i v (claim t word q) e = if_not (waits_at i (place_of word)) (given_to (standing_of i v.calls)) [] e
given_else i v (take j l) e = if_not (j == i) (given_to (standing_of i v.calls)) [] e
given_else i v (commit stamp b q) e = refl
given_else i v (put q place) e = refl
given_else i v (free l) e = refl
given_else i v (line j c) e = refl
given_else i v (miss word wanted found) e = refl
given_else i v (look t found) e = refl
given_else i v stop e = refl
given_else i v (stopped found) e = refl
given_else i v (reach slot) e = refl
given_else i v (lay slot) e = refl
given_else i v split e = refl
given_else i v (join other w) e = refl

entered_else : (i : ℕ) (o : Operation) → concerns i o ≡ false → entered_by i o ≡ []
entered_else i o e = entered_none i o (λ u x is. absurd (cc (sym (ap (concerns i) is ∙ eq-eqb i i refl) ∙ e)))

module _ (k : HallTerms) (r : Run k) (a : Agrees k r) (m : Step k r) where
  abbrev r' : Run k
  r' = then_run k r m

  abbrev v : Knows
  v = m.made.knew

  abbrev Is : Operation → Type 0
  Is o = m.made.operation ≡ o

  -- ---- the machine and the lines after it

  core_by : (es : List Event) → steps_of k (core_at k r) v m.made.operation ≡ es → core_at k r' ≡ after_events k (core_at k r) es
  core_by es e = core_then k m.made r.order ∙ ap (after_events k (core_at k r)) e

  written_by : (es : List Event) → steps_of k (core_at k r) v m.made.operation ≡ es → written_at k r' ≡ write_all k.image.value (written_at k r) es
  written_by es e = written_then k m.made r.order ∙ ap (write_all k.image.value (written_at k r)) e

  custody_by : (i : ℕ) (es : List Event) → steps_of k (core_at k r) v m.made.operation ≡ es → custody_at k r' i ≡ (after_events k (core_at k r) es).custody i
  custody_by i es e = ap (λ (c : Core). c.custody i) (core_by es e)

  is_steps : (o : Operation) → Is o → steps_of k (core_at k r) v m.made.operation ≡ steps_of k (core_at k r) v o
  is_steps o is = ap (steps_of k (core_at k r) v) is

  line_by : (i : ℕ) (o : Operation) → Is o → line_at k r' i ≡ line_past i o (line_at k r i)
  line_by i o is = ap (λ (z : Operation). line_past i z (line_at k r i)) is

  -- a block that hasn't the lock
  commit_still : (stamp i : ℕ) (b : Block) (q : PackageView) → Is (commit stamp b q) → i < locks k → has b.held i ≡ false → custody_at k r' i ≡ custody_at k r i
  commit_still stamp i b q is below out = commits.custody_else k r a m stamp b q is i out

  -- a lock that it doesn't concern
  pub still : (i : ℕ) → i < locks k → concerns i m.made.operation ≡ false → (custody_at k r' i ≡ custody_at k r i) × (line_at k r' i ≡ line_at k r i)
  still i below out = (by m.made.operation refl out, line_else m.made.operation i (line_at k r i) (λ never. out))
    where
      rests : (o : Operation) → Is o → (IsCommit o → ⊥) → concerns i o ≡ false → custody_at k r' i ≡ custody_at k r i
      rests o is never e = custody_by i (steps_of k (core_at k r) v o) (is_steps o is) ∙ custody_else k (core_at k r) v o i never e

      by : (o : Operation) → Is o → concerns i o ≡ false → custody_at k r' i ≡ custody_at k r i
      by (commit stamp b q) is e = commit_still stamp i b q is below e
      by (claim t word q) is e = rests (claim t word q) is (λ z. let f = z.3 in let n : ⊥ = cc f in n) e
      by (take j l) is e = rests (take j l) is (λ z. let f = z.3 in let n : ⊥ = cc f in n) e
      by (miss word wanted found) is e = rests (miss word wanted found) is (λ z. let f = z.3 in let n : ⊥ = cc f in n) e
      by (put q place) is e = rests (put q place) is (λ z. let f = z.3 in let n : ⊥ = cc f in n) e
      by (free l) is e = rests (free l) is (λ z. let f = z.3 in let n : ⊥ = cc f in n) e
      by (look t found) is e = rests (look t found) is (λ z. let f = z.3 in let n : ⊥ = cc f in n) e
      by stop is e = rests stop is (λ z. let f = z.3 in let n : ⊥ = cc f in n) e
      by (stopped found) is e = rests (stopped found) is (λ z. let f = z.3 in let n : ⊥ = cc f in n) e
      by (line j c) is e = rests (line j c) is (λ z. let f = z.3 in let n : ⊥ = cc f in n) e
      by (reach slot) is e = rests (reach slot) is (λ z. let f = z.3 in let n : ⊥ = cc f in n) e
      by (lay slot) is e = rests (lay slot) is (λ z. let f = z.3 in let n : ⊥ = cc f in n) e
      by split is e = rests split is (λ z. let f = z.3 in let n : ⊥ = cc f in n) e
      by (join other w) is e = rests (join other w) is (λ z. let f = z.3 in let n : ⊥ = cc f in n) e

  pub take_core : (i : ℕ) (l : LockView) (u : Turn) → Is (take i l) → StandsAs v i (entered u None) → (custody_at k r' i ≡ taken_by (custody_at k r i) u.thread) × (((written_at k r').next u.thread).kind ≡ Taken)
  take_core i l u is stands =
      let es : List Event = take_events v.worker i (entered u None) in
      let e : steps_of k (core_at k r) v m.made.operation ≡ es = is_steps (take i l) is ∙ ap (take_events v.worker i) stands in (
        custody_by i es e ∙ take_custody k (core_at k r) v.worker i u,
        ap (λ (w : Written). (w.next u.thread).kind) (written_by es e) ∙ ap (λ (z : Beginning). z.kind) (pick_mine u.thread (record ((written_at k r).next u.thread) { kind = Taken }) ((written_at k r).next u.thread)),
      )

  pub pass_core : (t word i : ℕ) (q : PackageView) → Is (claim t word q) → place_of word ≡ Waiting i → (run : ℕ) × (custody_at k r' i ≡ passed_to (custody_at k r i) t run) × (((written_at k r').next t).kind ≡ (if adopts (machine_limits k) (core_at k r) i then Adopted else Granted))
  pass_core t word i q is waits =
      let es : List Event = claim_events k (core_at k r) v.worker t (Waiting i) in
      let e : steps_of k (core_at k r) v m.made.operation ≡ es = is_steps (claim t word q) is ∙ ap (claim_events k (core_at k r) v.worker t) waits in
      let p = pass_custody k (core_at k r) (written_at k r) v.worker t i (adopts (machine_limits k) (core_at k r) i) in
      (p.run, custody_by i es e ∙ p.custody, ap (λ (w : Written). (w.next t).kind) (written_by es e) ∙ p.kind)

  pub free_core : (l : LockView) → Is (free l) → custody_at k r' l.number ≡ freed (custody_at k r l.number)
  free_core l is = custody_by l.number _ (is_steps (free l) is) ∙ free_custody k (core_at k r) v.worker l.number

  pub enter_core : (i : ℕ) (u : Turn) (e : Entered) → Is (line i (Did_enter u e)) → (custody_at k r' i ≡ line_entered (custody_at k r i) u.thread) × (line_at k r' i ≡ line_at k r i ++ u ∷ [])
  enter_core i u e is = (
    custody_by i _ (is_steps (line i (Did_enter u e)) is) ∙ enter_custody k (core_at k r) v.worker u.thread i,
    line_by i (line i (Did_enter u e)) is ∙ pick_mine i (line_at k r i ++ u ∷ []) (line_at k r i),
  )

  pub leave_core : (i : ℕ) (u : Turn) → Is (line i (Did_leave u Left)) → (custody_at k r' i ≡ left_by_all (custody_at k r i)) × (line_at k r' i ≡ [])
  leave_core i u is = (
    custody_by i _ (is_steps (line i (Did_leave u Left)) is) ∙ leave_custody k (core_at k r) v.worker i,
    line_by i (line i (Did_leave u Left)) is ∙ pick_mine i [] (line_at k r i),
  )

  pub commit_core : (stamp i : ℕ) (b : Block) (q : PackageView) → Is (commit stamp b q)
      → (release : Option Release) × (held : Bool) × (custody_at k r' i ≡ custody_past v.worker q.context.thread held release (custody_on (next_lock k.image.value ((core_at k r).machine.threads q.context.thread)) q.context.thread i (custody_at k r i)))
      × (((written_at k r').next q.context.thread).kind ≡ On)
  commit_core stamp i b q is = (_, _, commits.custody_is k r a m stamp b q is i, ap (λ (w : Written). (w.next q.context.thread).kind) (written_by _ (is_steps (commit stamp b q) is)) ∙ next_by_block k.image.value (written_at k r) v.worker q.context.thread b.turns)

  abbrev HasWritten : ((ℕ → Beginning) → List Block → Type 0) → Operation → Type 0
  HasWritten P o = (let w = write_all k.image.value (written_at k r) (steps_of k (core_at k r) v o) in P w.next w.history)

  -- what is so of the blocks written before and of the next ones, and of what these four operations write, is so after any operation
  after_any : (P : (ℕ → Beginning) → List Block → Type 0) → P (written_at k r).next (written_at k r).history
      → ((u word : ℕ) (q : PackageView) → Is (claim u word q) → HasWritten P (claim u word q)) → ((i : ℕ) (l : LockView) → Is (take i l) → HasWritten P (take i l))
      → ((stamp : ℕ) (b : Block) (q : PackageView) → Is (commit stamp b q) → HasWritten P (commit stamp b q)) → ((q : PackageView) (place : Place) → Is (put q place) → HasWritten P (put q place))
      → P (written_at k r').next (written_at k r').history
  after_any P before claims takes commits puts = subst (λ (w : Written). P w.next w.history) (sym (written_by _ refl)) (by m.made.operation refl)
    where
      by : (o : Operation) → Is o → HasWritten P o
      by (claim u word q) is = claims u word q is
      by (take i l) is = takes i l is
      by (commit stamp b q) is = commits stamp b q is
      by (put q place) is = puts q place is
      by (line j (Did_leave u Left)) is = before
      by (line j (Did_leave u (Followed tail))) is = before
      by (line j (Did_enter u a)) is = before
      by (line j (Did_link b u)) is = before
      by (line j (Did_ask u x)) is = before
      by (free l) is = before
      by (miss word wanted found) is = before
      by (look u found) is = before
      by stop is = before
      by (stopped found) is = before
      by (reach slot) is = before
      by (lay slot) is = before
      by split is = before
      by (join other w) is = before

  -- of a thread that it gives no lock, and seals no block of
  pub next_still : (t : ℕ) → ((i : ℕ) (l : LockView) (u : Turn) → Is (take i l) → StandsAs v i (entered u None) → u.thread ≢ t) → ((u word i : ℕ) (q : PackageView) → Is (claim u word q) → place_of word ≡ Waiting i → u ≢ t) → ((stamp : ℕ) (b : Block) (q : PackageView) → Is (commit stamp b q) → q.context.thread ≢ t)
      → (written_at k r').next t ≡ (written_at k r).next t
  next_still t untaken unpassed unsealed = after_any (λ next h. next t ≡ (written_at k r).next t) refl
      (λ u word q is. next_of_claim k (core_at k r) (written_at k r) v.worker u t (place_of word) (λ i e. unpassed u word i q is e))
      (λ i l is. next_of_take k.image.value (written_at k r) v.worker t i _ (λ u e. untaken i l u is e))
      (λ stamp b q is. next_of_block k.image.value (written_at k r) v.worker q.context.thread t b.turns (unsealed stamp b q is))
      (λ q place is. ap (λ (f : ℕ → Beginning). f t) (next_of_put k.image.value (written_at k r) v.worker q.context.thread place))

  -- ---- lines

  live : Live k r m.made.pass v
  live = record { pass = m.may.pass; live = m.may.live }

  plain_by : (i : ℕ) (o : Operation) → Is o → plain_of i r'.order ≡ line_after i o (plain_of i r.order)
  plain_by i o is = ap (λ (z : Operation). line_after i z (plain_of i r.order)) is

  come_by : (i : ℕ) (u b : Turn) → HasCome r'.order i u b → (Is (line i (Did_enter u (Behind b)))) ⊎ HasCome r.order i u b
  come_by i u b c = by c.0 c.1 c.2 c.3
    where
      by : (n : ℕ) (x : Made) → get_elem? r'.order n ≡ some x → x.operation ≡ line i (Did_enter u (Behind b)) → (Is (line i (Did_enter u (Behind b)))) ⊎ HasCome r.order i u b
      by zero x e f = inl (ap (λ (z : Made). z.operation) (some-injective m.made x e) ∙ f)
      by (suc n) x e f = inr (n, x, e, f)

  -- the entries of a thread stay
  entries_grow : (t n : ℕ) → n ≤ entries_by t r.order → n ≤ entries_by t r'.order
  entries_grow t n e = omega (arith, e)

  -- a line after an operation that is no entry into it
  record Kept (i : ℕ) (q : Plain) (us : List Turn) : Type 0 where
    none : (u : Turn) (e : Entered) → m.made.operation ≢ line i (Did_enter u e)
    plain : plain_of i r'.order ≡ q
    turns : line_at k r' i ≡ us
    line : (custody_at k r' i).line ≡ threads_of us
    tail : q.tail ≡ last_turn_of us
    links : AreLinked q.links us
    old_links : (t : ℕ) (l : Linked) → q.links t ≡ Some l → l.before ≤ entries_by t r.order
    behind : (u b : Turn) (n : ℕ) → HasCome r.order i u b → get_elem? us n ≡ some b → get_elem? us (suc n) ≡ some u

  kept_line : (i : ℕ) (q : Plain) (us : List Turn) → i < locks k → Kept i q us → IsLine k r' i
  kept_line i q us below kept =
      let same : entered_in i r'.order ≡ entered_in i r.order = ap (λ (z : List Turn). entered_in i r.order ++ z) (entered_none i m.made.operation kept.none) ∙ append-nil (entered_in i r.order) in
      record {
        line = kept.line ∙ ap threads_of (sym kept.turns);
        tail = ap (λ (z : Plain). z.tail) kept.plain ∙ (kept.tail ∙ ap last_turn_of (sym kept.turns));
        links = subst (λ (z : Plain). AreLinked z.links (line_at k r' i)) (sym kept.plain) (subst (AreLinked q.links) (sym kept.turns) kept.links);
        behind = λ u b n c e. ap (λ (z : List Turn). get_elem? z (suc n)) kept.turns ∙ kept.behind u b n (was u b c) (ap (λ (z : List Turn). get_elem? z n) (sym kept.turns) ∙ e);
        known = λ u b c. subst (λ (z : List Turn). IsIn z b) (sym same) ((a.lines i below).known u b (was u b c));
        old = λ u e. entries_grow u.thread u.number ((a.lines i below).old u (subst (λ (z : List Turn). IsIn z u) same e));
        old_links = λ t l e. entries_grow t l.before (kept.old_links t l (ap (λ (z : Plain). z.links t) (sym kept.plain) ∙ e));
      }
    where
      was : (u b : Turn) → HasCome r'.order i u b → HasCome r.order i u b
      was u b c = ⊎_elim (λ (e : Is (line i (Did_enter u (Behind b)))). absurd (kept.none u (Behind b) e)) (λ (z : HasCome r.order i u b). z) (come_by i u b c)

  -- an entry is no other call
  not_enter : (i : ℕ) (o : Operation) → Is o → ((u : Turn) (e : Entered) → o ≢ line i (Did_enter u e)) → (u : Turn) (e : Entered) → m.made.operation ≢ line i (Did_enter u e)
  not_enter i o is never u e same = never u e (sym is ∙ same)

  -- the tail that the call found
  tail_found : (i : ℕ) → i < locks k → (plain_at k i (hall_at k r).words).tail ≡ last_turn_of (line_at k r i)
  tail_found i below = (line_shown k r i below).tail ∙ (a.lines i below).tail

  lines_quiet : (i : ℕ) (c : QueueCall) → Is (line i c) → i < locks k → ((u : Turn) (e : Entered) → c ≢ Did_enter u e) → (custody_at k r' i).line ≡ (custody_at k r i).line → plain_after (plain_of i r.order) c ≡ plain_of i r.order → queue_past c (line_at k r i) ≡ line_at k r i → IsLine k r' i
  lines_quiet i c is below never same plain turns = (let o = a.lines i below in kept_line i (plain_of i r.order) (line_at k r i) below record {
    none = not_enter i (line i c) is (λ u e f. never u e (let g : c ≡ Did_enter u e = cc f in g));
    plain = plain_by i (line i c) is ∙ (pick_mine i (plain_after (plain_of i r.order) c) (plain_of i r.order) ∙ plain);
    turns = line_by i (line i c) is ∙ (pick_mine i (queue_past c (line_at k r i)) (line_at k r i) ∙ turns);
    line = same ∙ o.line;
    tail = o.tail;
    links = o.links;
    old_links = o.old_links;
    behind = o.behind;
  })

  pub lines_enter : (i : ℕ) (u : Turn) (e : Entered) → Is (line i (Did_enter u e)) → i < locks k → IsLine k r' i
  lines_enter i u e is below =
      let o = a.lines i below in
      let may = may_do k r m (line i (Did_enter u e)) is in
      let s = asked k r m.made.pass v (EntersAs v i u) live.pass may.3 in
      let few = entries_few k r a u.thread in
      let turns = a.counted.out m.made.pass u.thread v s.waiter live s.has in
      let number : u.number ≡ entries_by u.thread r.order + 1 = (let given = s.number in omega (arith, given, few, turns)) in
      let core = enter_core i u e is in
      let us : List Turn = line_at k r i in
      let plain : plain_of i r'.order ≡ plain_after (plain_of i r.order) (Did_enter u e) = plain_by i (line i (Did_enter u e)) is ∙ pick_mine i (plain_after (plain_of i r.order) (Did_enter u e)) (plain_of i r.order) in
      let entries : entries_by u.thread r'.order ≡ entries_by u.thread r.order + 1 = ap (λ (z : Operation). entries_by u.thread r.order + is_entry u.thread z) is ∙ ap (λ (z : ℕ). entries_by u.thread r.order + z) (pick_mine u.thread 1 0) in
      let came : entered_in i r'.order ≡ entered_in i r.order ++ u ∷ [] = ap (λ (z : Operation). entered_in i r.order ++ entered_by i z) is ∙ ap (λ (z : List Turn). entered_in i r.order ++ z) (pick_mine i (u ∷ []) []) in
      let new : (l : Linked) → (plain_of i r.order).links u.thread ≡ Some l → l.before ≢ u.number = λ l f same. (let old = o.old_links u.thread l f in absurd (omega (arith, old, same, number))) in
      let out = not_in_line k r a m.made.pass v live i u e may in
      let first : (b : Turn) → e ≡ Behind b → (front : List Turn) × (us ≡ front ++ b ∷ []) = λ b f. behind_enters us (plain_at k i (hall_at k r).words).tail b (tail_found i below) (sym may.2.1 ∙ f) in
      record {
        line = ap (λ (z : Custody). z.line) core.0 ∙ (ap (λ (z : List ℕ). z ++ u.thread ∷ []) o.line ∙ (sym (threads_more us u) ∙ ap threads_of (sym core.1)));
        tail = ap (λ (z : Plain). z.tail) plain ∙ (sym (last_enter us u) ∙ ap last_turn_of (sym core.1));
        links = subst (λ (z : Plain). AreLinked z.links (line_at k r' i)) (sym plain) (subst (AreLinked (plain_of i r.order).links) (sym core.1) (linked_enter (plain_of i r.order).links us u o.links new));
        behind = λ x b n c f. ap (λ (z : List Turn). get_elem? z (suc n)) core.1 ∙ ⊎_elim
            (λ (z : Is (line i (Did_enter x (Behind b)))). now x b n (calls x b z) first out (ap (λ (z : List Turn). get_elem? z n) (sym core.1) ∙ f))
            (λ (z : HasCome r.order i x b). before x b n z number (ap (λ (z : List Turn). get_elem? z n) (sym core.1) ∙ f))
            (come_by i x b c);
        known = λ x b c. subst (λ (z : List Turn). IsIn z b) (sym came) (⊎_elim
            (λ (z : Is (line i (Did_enter x (Behind b)))). known_now b (first b (calls x b z).1))
            (λ (z : HasCome r.order i x b). (let g = o.known x b z in (g.0, get_front (entered_in i r.order) (u ∷ []) g.0 b g.1)))
            (come_by i x b c));
        old = λ x f. (let g = subst (λ (z : List Turn). IsIn z x) came f in ⊎_elim
            (λ (z : get_elem? (entered_in i r.order) g.0 ≡ some x). entries_grow x.thread x.number (o.old x (g.0, z)))
            (λ (z : u ≡ x). subst (λ (y : Turn). y.number ≤ entries_by y.thread r'.order) z (omega (arith, number, entries)))
            (get_last (entered_in i r.order) u g.0 x g.1));
        old_links = λ t l f. entries_grow t l.before (o.old_links t l (ap (λ (z : Plain). z.links t) (sym plain) ∙ f));
      }
    where
      calls : (x b : Turn) → Is (line i (Did_enter x (Behind b))) → (u ≡ x) × (e ≡ Behind b)
      calls x b z = (let f : line i (Did_enter u e) ≡ line i (Did_enter x (Behind b)) = sym is ∙ z in ((let g : u ≡ x = cc f in g), (let g : e ≡ Behind b = cc f in g)))

      known_now : (b : Turn) → (front : List Turn) × (line_at k r i ≡ front ++ b ∷ []) → IsIn (entered_in i r.order ++ u ∷ []) b
      known_now b f =
          let s = a.served i below in
          let n = get_end f.0 b in
          let g = in_back s.gone (line_at k r i) n.0 b (ap (λ (z : List Turn). get_elem? z n.0) f.1 ∙ n.1) in
          (g.0, get_front (entered_in i r.order) (u ∷ []) g.0 b (ap (λ (z : List Turn). get_elem? z g.0) s.all ∙ g.1))

      now : (x b : Turn) (n : ℕ) → (u ≡ x) × (e ≡ Behind b) → ((b : Turn) → e ≡ Behind b → (front : List Turn) × (line_at k r i ≡ front ++ b ∷ [])) → is_in_line (custody_at k r i).line u.thread ≡ false
          → get_elem? (line_at k r i ++ u ∷ []) n ≡ some b → get_elem? (line_at k r i ++ u ∷ []) (suc n) ≡ some x
      now x b n is first out at =
          let f = first b is.1 in
          let g = last_next f.0 b u in
          let here : get_elem? (line_at k r i) g.0 ≡ some b = ap (λ (z : List Turn). get_elem? z g.0) f.1 ∙ g.1 in
          let next : get_elem? (line_at k r i ++ u ∷ []) (suc g.0) ≡ some u = ap (λ (z : List Turn). get_elem? (z ++ u ∷ []) (suc g.0)) f.1 ∙ g.2 in
          ⊎_elim
          (λ (z : get_elem? (line_at k r i) n ≡ some b). ap (λ (y : ℕ). get_elem? (line_at k r i ++ u ∷ []) (suc y)) (one_place (line_at k r i) n g.0 b b (once_at k r a i below) z here refl).0 ∙ (next ∙ ap (λ (y : Turn). some y) is.0))
          (λ (z : u ≡ b). (let c : false ≡ true = sym out ∙ (ap (λ (y : List ℕ). is_in_line y u.thread) (a.lines i below).line ∙ (ap (λ (y : Turn). is_in_line (threads_of (line_at k r i)) y.thread) z ∙ turn_in_line (line_at k r i) g.0 b here)) in let n : ⊥ = cc c in absurd n))
          (get_last (line_at k r i) u n b at)

      before : (x b : Turn) (n : ℕ) → HasCome r.order i x b → u.number ≡ entries_by u.thread r.order + 1 → get_elem? (line_at k r i ++ u ∷ []) n ≡ some b → get_elem? (line_at k r i ++ u ∷ []) (suc n) ≡ some x
      before x b n c number at = ⊎_elim
          (λ (z : get_elem? (line_at k r i) n ≡ some b). get_front (line_at k r i) (u ∷ []) (suc n) x ((a.lines i below).behind x b n c z))
          (λ (z : u ≡ b). (let old = (a.lines i below).old u (subst (IsIn (entered_in i r.order)) (sym z) ((a.lines i below).known x b c)) in absurd (omega (arith, old, number))))
          (get_last (line_at k r i) u n b at)

  pub lines_link : (i : ℕ) (b u : Turn) → Is (line i (Did_link b u)) → i < locks k → IsLine k r' i
  lines_link i b u is below =
      let o = a.lines i below in
      let come : HasCome r.order i u b = come_of k r m.made.pass v i u b live (may_do k r m (line i (Did_link b u)) is).2.2 in
      kept_line i (plain_after (plain_of i r.order) (Did_link b u)) (line_at k r i) below record {
        none = not_enter i (line i (Did_link b u)) is (λ x e f. cc f);
        plain = plain_by i (line i (Did_link b u)) is ∙ pick_mine i (plain_after (plain_of i r.order) (Did_link b u)) (plain_of i r.order);
        turns = line_by i (line i (Did_link b u)) is ∙ pick_mine i (line_at k r i) (line_at k r i);
        line = ap (λ (z : Custody). z.line) (custody_by i [] (is_steps (line i (Did_link b u)) is)) ∙ o.line;
        tail = o.tail;
        links = linked_link (plain_of i r.order) (line_at k r i) b u o.links (λ n e. o.behind u b n come e);
        old_links = λ t l e. by (o.old b (o.known u b come)) o.old_links t l (t == b.thread) refl e;
        behind = o.behind;
      }
    where
      by : b.number ≤ entries_by b.thread r.order → ((t : ℕ) (l : Linked) → (plain_of i r.order).links t ≡ Some l → l.before ≤ entries_by t r.order)
          → (t : ℕ) (l : Linked) (z : Bool) → (t == b.thread) ≡ z → (if z then Some (record { before = b.number; behind = u }) else (plain_of i r.order).links t) ≡ Some l → l.before ≤ entries_by t r.order
      by new old t l true same e =
          let n : b.number ≡ l.before = (let g : record { before = b.number; behind = u } ≡ l = cc e in ap (λ (z : Linked). z.before) g) in
          subst (λ (z : ℕ). z ≤ entries_by t r.order) n (subst (λ (z : ℕ). b.number ≤ entries_by z r.order) (sym (eqb-true t b.thread same)) new)
      by new old t l false other e = old t l e

  pub lines_leave : (i : ℕ) (u : Turn) → Is (line i (Did_leave u Left)) → i < locks k → IsLine k r' i
  lines_leave i u is below =
      let o = a.lines i below in
      let may = may_do k r m (line i (Did_leave u Left)) is in
      let answer : answer_to_leave u (plain_of i r.order).tail ≡ Left = ap (answer_to_leave u) (sym (line_shown k r i below).tail) ∙ sym may.2.1 in
      kept_line i (plain_after (plain_of i r.order) (Did_leave u Left)) [] below record {
        none = not_enter i (line i (Did_leave u Left)) is (λ x e f. cc f);
        plain = plain_by i (line i (Did_leave u Left)) is ∙ pick_mine i (plain_after (plain_of i r.order) (Did_leave u Left)) (plain_of i r.order);
        turns = (leave_core i u is).1;
        line = ap (λ (z : Custody). z.line) (leave_core i u is).0;
        tail = leave_none u (plain_of i r.order).tail answer;
        links = tt;
        old_links = o.old_links;
        behind = λ x b n c e. absurd (some-ne-none b (sym e));
      }

  pub lines_pass : (t word i : ℕ) (q : PackageView) → Is (claim t word q) → place_of word ≡ Waiting i → i < locks k → IsLine k r' i
  lines_pass t word i q is waits below =
      let o = a.lines i below in
      let p = subst (IfWaiting v t) waits (asked k r m.made.pass v (ClaimsAs v t (place_of word)) live.pass (may_do k r m (claim t word q) is).stands).waiting in
      let so = truth k r a m.made.pass v live i (followed p.own p.behind) below p.stands in
      let us = line_at k r i in
      kept_line i (plain_of i r.order) (without_first us) below record {
        none = not_enter i (claim t word q) is (λ x e f. cc f);
        plain = plain_by i (claim t word q) is;
        turns = line_by i (claim t word q) is ∙ (ap (λ (z : Place). if waits_at i z then without_first us else us) waits ∙ pick_mine i (without_first us) us);
        line = ap (λ (z : Custody). z.line) (pass_core t word i q is waits).1 ∙ (ap rest_of o.line ∙ threads_rest us);
        tail = o.tail ∙ last_rest us p.behind so.3;
        links = linked_rest (plain_of i r.order).links us o.links;
        old_links = o.old_links;
        behind = λ u b n c e. get_rest us (suc n) ∙ o.behind u b (suc n) c (sym (get_rest us n) ∙ e);
      }

  -- a take, a commit and a free leave the line as it is
  pub lines_still : (i : ℕ) → i < locks k → (custody_at k r' i).line ≡ (custody_at k r i).line → ((c : QueueCall) → m.made.operation ≢ line i c) → line_at k r' i ≡ line_at k r i → IsLine k r' i
  lines_still i below same none still_line = (let o = a.lines i below in kept_line i (plain_of i r.order) (line_at k r i) below record {
    none = λ u e. none (Did_enter u e);
    plain = plain_else i m.made.operation (plain_of i r.order) none;
    turns = still_line;
    line = same ∙ o.line;
    tail = o.tail;
    links = o.links;
    old_links = o.old_links;
    behind = o.behind;
  })

  pub lines_on : (i : ℕ) → i < locks k → IsLine k r' i
  lines_on i below = by m.made.operation refl
    where
      no_call : (o : Operation) → Is o → ((c : QueueCall) → o ≢ line i c) → (c : QueueCall) → m.made.operation ≢ line i c
      no_call o is never c e = never c (sym is ∙ e)

      elsewhere : (o : Operation) → Is o → ((c : QueueCall) → o ≢ line i c) → concerns i o ≡ false → IsLine k r' i
      elsewhere o is never out = (let s = still i below (ap (concerns i) is ∙ out) in lines_still i below (ap (λ (z : Custody). z.line) s.0) (no_call o is never) s.1)

      same_line : (o : Operation) → Is o → ((c : QueueCall) → o ≢ line i c) → line_past i o (line_at k r i) ≡ line_at k r i → ((after_events k (core_at k r) (steps_of k (core_at k r) v o)).custody i).line ≡ (custody_at k r i).line → IsLine k r' i
      same_line o is never turns e = lines_still i below (ap (λ (z : Custody). z.line) (custody_by i _ (is_steps o is)) ∙ e) (no_call o is never) (line_by i o is ∙ turns)

      followed_one : (u : Turn) (tail : Option Turn) → Is (line i (Did_leave u (Followed tail))) → IsLine k r' i
      followed_one u tail is =
          let may = may_do k r m (line i (Did_leave u (Followed tail))) is in
          let answer : answer_to_leave u (plain_of i r.order).tail ≡ Followed tail = ap (answer_to_leave u) (sym (line_shown k r i below).tail) ∙ sym may.2.1 in
          lines_quiet i (Did_leave u (Followed tail)) is below (λ z e f. cc f) (ap (λ (z : Custody). z.line) (custody_by i [] (is_steps (line i (Did_leave u (Followed tail))) is)))
          (ap (λ (z : Option Turn). record (plain_of i r.order) { tail = z }) (tail_followed u (plain_of i r.order).tail tail (sym answer))) refl

      here : (c : QueueCall) → Is (line i c) → IsLine k r' i
      here (Did_enter u e) is = lines_enter i u e is below
      here (Did_link b u) is = lines_link i b u is below
      here (Did_ask u x) is = lines_quiet i (Did_ask u x) is below (λ z e f. cc f) (ap (λ (z : Custody). z.line) (custody_by i [] (is_steps (line i (Did_ask u x)) is))) refl refl
      here (Did_leave u Left) is = lines_leave i u is below
      here (Did_leave u (Followed tail)) is = followed_one u tail is

      at_lock : (t word : ℕ) (q : PackageView) → Is (claim t word q) → (p : Place) → place_of word ≡ p → IsLine k r' i
      at_lock t word q is (Waiting j) e = dite (ℕ_discrete j i)
          (λ (same : j ≡ i). lines_pass t word i q is (e ∙ ap (λ (z : ℕ). Waiting z) same) below)
          (λ (ne : j ≢ i). elsewhere (claim t word q) is (λ c f. cc f) (ap (waits_at i) e ∙ ne_eqb j i ne))
      at_lock t word q is Ready e = elsewhere (claim t word q) is (λ c f. cc f) (ap (waits_at i) e)
      at_lock t word q is Parked e = elsewhere (claim t word q) is (λ c f. cc f) (ap (waits_at i) e)
      at_lock t word q is Done e = elsewhere (claim t word q) is (λ c f. cc f) (ap (waits_at i) e)

      by : (o : Operation) → Is o → IsLine k r' i
      by (line j c) is = dite (ℕ_discrete j i)
          (λ (same : j ≡ i). here c (is ∙ ap (λ (z : ℕ). line z c) same))
          (λ (ne : j ≢ i). elsewhere (line j c) is (λ d f. ne (let g : j ≡ i = cc f in g)) (ne_eqb j i ne))
      by (claim t word q) is = at_lock t word q is (place_of word) refl
      by (take j l) is = same_line (take j l) is (λ c f. cc f) refl (take_line k (core_at k r) v.worker i j _)
      by (commit stamp b q) is = same_line (commit stamp b q) is (λ c f. cc f) refl (block_line k v.worker q.context.thread b.turns i (core_at k r))
      by (free l) is = same_line (free l) is (λ c f. cc f) refl (free_line k (core_at k r) v.worker i l.number)
      by (put q place) is = elsewhere (put q place) is (λ c f. cc f) refl
      by (miss word wanted found) is = elsewhere (miss word wanted found) is (λ c f. cc f) refl
      by (look t found) is = elsewhere (look t found) is (λ c f. cc f) refl
      by stop is = elsewhere stop is (λ c f. cc f) refl
      by (stopped found) is = elsewhere (stopped found) is (λ c f. cc f) refl
      by (reach slot) is = elsewhere (reach slot) is (λ c f. cc f) refl
      by (lay slot) is = elsewhere (lay slot) is (λ c f. cc f) refl
      by split is = elsewhere split is (λ c f. cc f) refl
      by (join other w) is = elsewhere (join other w) is (λ c f. cc f) refl

  pub counted_on : AreCounted k r'
  counted_on = counted_after k r a m

  -- ---- standings

  abbrev pub Own : Type 0
  Own = (j : ℕ) (x : Knows) → Live k r' m.made.pass x → j < locks k → StandsTrue k r' x j

  abbrev pub Others : Type 0
  Others = (id j : ℕ) (x : Knows) → id ≢ m.made.pass → Live k r' id x → j < locks k → StandsTrue k r' x j

  abbrev pub Slots : Type 0
  Slots = (t j : ℕ) (q : PackageView) → t < threads k → j < locks k → InSlot k r' t q → IsShownIn k r' t q j

  abbrev pub Covered : Type 0
  Covered = (j t : ℕ) → j < locks k → is_out (custody_at k r' j) t ≡ true → IsCovered k r' j t

  abbrev IsPlain : Place → Type 0
  IsPlain place = (place ≡ Ready) ⊎ (place ≡ Parked)

  -- those that change no lock and no line leave the other passes, the slots and who is in a line as they were
  so_still : ((i : ℕ) → i < locks k → (custody_at k r' i ≡ custody_at k r i) × (line_at k r' i ≡ line_at k r i)) → (written_at k r').next ≡ (written_at k r).next → (j w : ℕ) (s : Standing) → j < locks k → Truth k r w j s → Truth k r' w j s
  so_still same next j w s below so =
      let e = same j below in
      subst (λ (x : Custody). IsTrue w x (line_at k r' j) (written_at k r').next s) (sym e.0)
      (subst (λ (us : List Turn). IsTrue w (custody_at k r j) us (written_at k r').next s) (sym e.1)
      (subst (λ (f : ℕ → Beginning). IsTrue w (custody_at k r j) (line_at k r j) f s) (sym next) so))

  pub still_others : ((i : ℕ) → i < locks k → (custody_at k r' i ≡ custody_at k r i) × (line_at k r' i ≡ line_at k r i)) → (written_at k r').next ≡ (written_at k r).next → Others
  still_others same next id j x ne its below = ⊎_elim old new (other_view k (hall_at k r) m.made.pass v m.made.operation id x ne its.live its.pass)
    where
      old : get_elem? (hall_at k r).views id ≡ some x → StandsTrue k r' x j
      old at = (let st = a.passes id j x (record { pass = at; live = its.live }) below in record {
        so = so_still same next j x.worker (standing_of j x.calls) below st.so;
        lock = st.lock;
        stands = st.stands;
        hand = st.hand;
      })

      new : fresh v ≡ x → StandsTrue k r' x j
      new is = subst (λ (z : Knows). StandsTrue k r' z j) is (stands_fresh k r' v j)

  pub still_slots : ((i : ℕ) → i < locks k → (custody_at k r' i ≡ custody_at k r i) × (line_at k r' i ≡ line_at k r i)) → (written_at k r').next ≡ (written_at k r).next → ((t : ℕ) (q : PackageView) → InSlot k r' t q → InSlot k r t q) → Slots
  still_slots same next slots = slots_by k r m a (λ t j q low below was now. all_stays k r m t j (same j below) (ap (λ (f : ℕ → Beginning). f t) next))
      (λ t j q place low below now is of. absurd (not_out k r m.made.pass q.context.thread v _ q m.may.pass (may_do k r m (put q place) is).may.has (subst (λ (z : ℕ). InSlot k r z q) (sym of) (slots t q now))))

  -- an operation leaves the next block of a thread whose package lies in its slot
  slot_next : (t : ℕ) (q : PackageView) → InSlot k r t q → InSlot k r' t q → (written_at k r').next t ≡ (written_at k r).next t
  slot_next t q was now = next_still t
      (λ i l u is stands same. (let h = (a.passes m.made.pass i v live (may_do k r m (take i l) is).below).hand u.thread (ap thread_of stands) in not_out k r m.made.pass u.thread v h.0 q m.may.pass h.1 (subst (λ (z : ℕ). InSlot k r z q) (sym same) was)))
      (λ u word i p is waits same. not_claimed k r m u word t p q is now (sym same))
      (λ stamp b p is same. not_out k r m.made.pass p.context.thread v _ q m.may.pass (may_do k r m (commit stamp b p) is).1.has (subst (λ (z : ℕ). InSlot k r z q) (sym same) was))

  -- by what stays of each lock, where nothing is put
  slots_stay : ((q : PackageView) (place : Place) → m.made.operation ≢ put q place) → ((t j : ℕ) (q : PackageView) → t < threads k → j < locks k → InSlot k r t q → InSlot k r' t q → Stays k r m t j) → Slots
  slots_stay never stays = slots_by k r m a stays (λ t j q place low below now is of. absurd (never q place is))

  -- a lock that is loose and not left has a first in its line
  loose_first : (i w : ℕ) → (custody_at k r i).place ≡ place.Loose w → (custody_at k r i).left ≡ false → (t : ℕ) × (is_first (custody_at k r i).line t ≡ true)
  loose_first i w = subst (λ (c : Core). (c.custody i).place ≡ place.Loose w → (c.custody i).left ≡ false → (t : ℕ) × (is_first (c.custody i).line t ≡ true)) (core_is k r) (by _ _ _ ((written_at k r).core.custody i) ((ruled_at k r a).1.locks i))
    where
      by : (limit : ℕ) (bs : List Block) (at : ℕ → Stand) (x : Custody) → IsLockAt limit i bs at x → x.place ≡ place.Loose w → x.left ≡ false → (t : ℕ) × (is_first x.line t ≡ true)
      by limit bs at x is e left = (let g = subst (λ (p : LockPlace). Rule limit i bs at x p) e is.rule in (g.block.thread, g.first left))

  own_by : (o : Operation) (w : Knows) → Is o → ((x : Knows) → get_elem? (after_operation k (hall_at k r) m.made.pass v o).views m.made.pass ≡ some x → w ≡ x) → ((j : ℕ) → j < locks k → StandsTrue k r' w j) → Own
  own_by o w is view stands j x its below = subst (λ (z : Knows). StandsTrue k r' z j) (view x (subst (λ (z : Operation). get_elem? (after_operation k (hall_at k r) m.made.pass v z).views m.made.pass ≡ some x) is its.pass)) (stands j below)

  abbrev stood : ℕ → Standing
  stood j = standing_of j v.calls

  -- one call more, which leaves what the pass has out
  own_call : (j : ℕ) (c : PassCall) (s : Standing) → j < locks k → past j c (stood j) ≡ s → Truth k r' v.worker j s → has_lock s ≡ has_lock (stood j) → ((t : ℕ) → thread_of s ≡ Some t → (p : PackageView) × Has v t p) → StandsTrue k r' (with_call v c) j
  own_call j c s below is so lock hand =
      let st = a.passes m.made.pass j v live below in
      let e : standing_of j (v.calls ++ c ∷ []) ≡ s = standing_last j v.calls c ∙ is in
      record {
        so = subst (Truth k r' v.worker j) (sym e) so;
        lock = λ h. st.lock (sym lock ∙ (ap has_lock (sym e) ∙ h));
        stands = λ l h. ap has_lock e ∙ (lock ∙ st.stands l h);
        hand = λ t f. hand t (ap thread_of (sym e) ∙ f);
      }

  -- an operation without events, which leaves each line
  abbrev IsStill : Type 0
  IsStill = ((i : ℕ) → i < locks k → (custody_at k r' i ≡ custody_at k r i) × (line_at k r' i ≡ line_at k r i)) × ((written_at k r').next ≡ (written_at k r).next)

  no_steps : (o : Operation) → Is o → steps_of k (core_at k r) v o ≡ [] → ((i : ℕ) → line_past i o (line_at k r i) ≡ line_at k r i) → IsStill
  no_steps o is none turns = ((λ i below. (custody_by i [] (is_steps o is ∙ none), line_by i o is ∙ turns i)), ap (λ (w : Written). w.next) (written_by [] (is_steps o is ∙ none)))

  own_quiet : (c : PassCall) → IsStill → (j : ℕ) → j < locks k → past j c (stood j) ≡ stood j → StandsTrue k r' (with_call v c) j
  own_quiet c same j below is = own_call j c (stood j) below is (so_still same.0 same.1 j v.worker (stood j) below (a.passes m.made.pass j v live below).so) refl (a.passes m.made.pass j v live below).hand

  line_still : (i : ℕ) (c : QueueCall) → Is (line i c) → steps_of k (core_at k r) v (line i c) ≡ [] → queue_past c ≡ (λ (us : List Turn). us) → IsStill
  line_still i c is none turns = no_steps (line i c) is none (λ j. ap (λ (f : List Turn → List Turn). if i == j then f (line_at k r j) else line_at k r j) turns ∙ either (i == j) (line_at k r j))

  so_at : (j w : ℕ) (s : Standing) → (custody_at k r' j ≡ custody_at k r j) × (line_at k r' j ≡ line_at k r j) → (written_at k r').next ≡ (written_at k r).next → Truth k r w j s → Truth k r' w j s
  so_at j w s e next so =
      subst (λ (x : Custody). IsTrue w x (line_at k r' j) (written_at k r').next s) (sym e.0)
      (subst (λ (us : List Turn). IsTrue w (custody_at k r j) us (written_at k r').next s) (sym e.1)
      (subst (λ (f : ℕ → Beginning). IsTrue w (custody_at k r j) (line_at k r j) f s) (sym next) so))

  -- a call on a line: what changes is at its lock
  own_line : (i : ℕ) (c : QueueCall) → Is (line i c) → (written_at k r').next ≡ (written_at k r).next → StandsTrue k r' (with_call v (Line i c)) i → Own
  own_line i c is next here = own_by (line i c) (with_call v (Line i c)) is (λ x e. view_own (hall_at k r).views m.made.pass _ x e) (λ j below. dite (ℕ_discrete i j)
      (λ (same : i ≡ j). subst (λ (z : ℕ). StandsTrue k r' (with_call v (Line i c)) z) same here)
      (λ (ne : i ≢ j). let st = a.passes m.made.pass j v live below in own_call j (Line i c) (stood j) below (if_not (i == j) (past_line c (stood j)) (stood j) (ne_eqb i j ne)) (so_at j v.worker (stood j) (still j below (ap (concerns j) is ∙ ne_eqb i j ne)) next st.so) refl st.hand))

  line_next : (i : ℕ) (c : QueueCall) → Is (line i c) → (write_all k.image.value (written_at k r) (steps_of k (core_at k r) v (line i c))).next ≡ (written_at k r).next → (written_at k r').next ≡ (written_at k r).next
  line_next i c is e = ap (λ (w : Written). w.next) (written_by _ (is_steps (line i c) is)) ∙ e

  -- nobody is the first of an empty line, and nobody has its lock
  none_first : (i t : ℕ) → i < locks k → line_at k r i ≡ [] → is_first (custody_at k r i).line t ≡ true → ⊥
  none_first i t below none e = (let c : false ≡ true = sym (ap (λ (z : List ℕ). is_first z t) ((a.lines i below).line ∙ ap threads_of none)) ∙ e in let n : ⊥ = cc c in n)

  none_with : (i t : ℕ) {p : LockPlace} → i < locks k → line_at k r i ≡ [] → (custody_at k r i).place ≡ p → is_with p t ≡ true → ⊥
  none_with i t below none e with = none_first i t below none (with_first k r a i t (ap (λ (z : LockPlace). is_with z t) e ∙ with))

  -- an empty line is of a lock that is free or left
  empty_free : (i : ℕ) → i < locks k → line_at k r i ≡ [] → (is_free_lock (custody_at k r i).place || (custody_at k r i).left) ≡ true
  empty_free i below none = by (custody_at k r i).place (custody_at k r i).left refl refl
    where
      by : (p : LockPlace) (left : Bool) → (custody_at k r i).place ≡ p → (custody_at k r i).left ≡ left → (is_free_lock p || left) ≡ true
      by place.Free left e f = refl
      by (place.Granted t) left e f = absurd (none_with i t below none e (eq-eqb t t refl))
      by (place.With t) left e f = absurd (none_with i t below none e (eq-eqb t t refl))
      by (place.Loose w) true e f = refl
      by (place.Loose w) false e f = (let g = loose_first i w e f in absurd (none_first i g.0 below none g.1))

  -- claim of a ready or a parked thread
  plain_out : (word i : ℕ) → IsPlain (place_of word) → waits_at i (place_of word) ≡ false
  plain_out word i plain = ⊎_elim (λ (e : place_of word ≡ Ready). ap (waits_at i) e) (λ (e : place_of word ≡ Parked). ap (waits_at i) e) plain

  never_waits : (word i : ℕ) → IsPlain (place_of word) → place_of word ≡ Waiting i → ⊥
  never_waits word i plain e = ⊎_elim (λ (f : place_of word ≡ Ready). let g : Ready ≡ Waiting i = sym f ∙ e in let n : ⊥ = cc g in n) (λ (f : place_of word ≡ Parked). let g : Parked ≡ Waiting i = sym f ∙ e in let n : ⊥ = cc g in n) plain

  claim_next : (t word : ℕ) (q : PackageView) → Is (claim t word q) → IsPlain (place_of word) → (written_at k r').next ≡ (written_at k r).next
  claim_next t word q is plain = λ j u. (ap (λ (w : Written). w.next u) (written_by _ (is_steps (claim t word q) is)) ∙ next_of_claim k (core_at k r) (written_at k r) v.worker t u (place_of word) (λ i e. absurd (never_waits word i plain e))) j

  put_next : (q : PackageView) (place : Place) → Is (put q place) → (written_at k r').next ≡ (written_at k r).next
  put_next q place is = ap (λ (w : Written). w.next) (written_by _ (is_steps (put q place) is)) ∙ next_of_put k.image.value (written_at k r) v.worker q.context.thread place

  split_next : Is split → (written_at k r').next ≡ (written_at k r).next
  split_next is = ap (λ (w : Written). w.next) (written_by [] (is_steps split is))

  -- the next block of a thread whose package the pass has out begins as it did
  claim_else_next : (t word : ℕ) (q : PackageView) → Is (claim t word q) → (u : ℕ) → (p : PackageView) × Has v u p → (written_at k r').next u ≡ (written_at k r).next u
  claim_else_next t word q is u p = next_still u
      (λ i l y it stands same. let f : claim t word q ≡ take i l = sym is ∙ it in let n : ⊥ = cc f in absurd n)
      (λ x w i o it waits same. not_out k r m.made.pass x v p.0 o live.pass (subst (λ (z : ℕ). Has v z p.0) (sym same) p.1) (may_do k r m (claim x w o) it).slot)
      (λ stamp b o it same. let f : claim t word q ≡ commit stamp b o = sym is ∙ it in let n : ⊥ = cc f in absurd n)

  -- or that another has out
  others_next : (id t : ℕ) (x : Knows) (p : PackageView) → id ≢ m.made.pass → Live k r id x → Has x t p → (written_at k r').next t ≡ (written_at k r).next t
  others_next id t x p ne its has = next_still t
      (λ i l u is stands same. let h = (a.passes m.made.pass i v live (may_do k r m (take i l) is).below).hand u.thread (ap thread_of stands) in mine h.0 (subst (λ (z : ℕ). Has v z h.0) same h.1))
      (λ u word i q is waits same. not_out k r id u x p q its.pass (subst (λ (z : ℕ). Has x z p) (sym same) has) (may_do k r m (claim u word q) is).slot)
      (λ stamp b q is same. let seals = (may_do k r m (commit stamp b q) is).1 in mine (bare seals.before) (subst (λ (z : ℕ). Has v z (bare seals.before)) same seals.has))
    where
      mine : (o : PackageView) → Has v t o → ⊥
      mine o also = ne (package_apart k r id m.made.pass t x v p o its live has also)

  -- the others stand as they did, if they do so at the lock that the operation concerns
  others_if : ((id j : ℕ) (x : Knows) → id ≢ m.made.pass → Live k r id x → j < locks k → concerns j m.made.operation ≡ true → Truth k r' x.worker j (standing_of j x.calls)) → Others
  others_if here id j x ne its below = ⊎_elim old (λ (z : fresh v ≡ x). subst (λ (y : Knows). StandsTrue k r' y j) z (stands_fresh k r' v j)) (other_view k (hall_at k r) m.made.pass v m.made.operation id x ne its.live its.pass)
    where
      old : get_elem? (hall_at k r).views id ≡ some x → StandsTrue k r' x j
      old at = record { so = by (concerns j m.made.operation) refl; lock = st.lock; stands = st.stands; hand = st.hand }
        where
          was : Live k r id x
          was = record { pass = at; live = its.live }

          st : StandsTrue k r x j
          st = a.passes id j x was below

          by : (b : Bool) → concerns j m.made.operation ≡ b → Truth k r' x.worker j (standing_of j x.calls)
          by true e = here id j x ne was below e
          by false e =
              let s = still j below e in
              truth_as k r' x.worker j (standing_of j x.calls) (custody_at k r j) (line_at k r j) (written_at k r').next s.0 s.1 refl
              (next_true x.worker (custody_at k r j) (line_at k r j) (written_at k r).next (written_at k r').next (standing_of j x.calls) (λ u how g. let p = st.hand u.thread (ap thread_of g) in others_next id u.thread x p.0 ne was p.1) st.so)

  others_at : (i : ℕ) → ((j : ℕ) → concerns j m.made.operation ≡ true → i ≡ j) → ((id : ℕ) (x : Knows) → id ≢ m.made.pass → Live k r id x → i < locks k → Truth k r' x.worker i (standing_of i x.calls)) → Others
  others_at i only here = others_if (λ id j x ne its below con. subst (λ (z : ℕ). Truth k r' x.worker z (standing_of z x.calls)) (only j con) (here id x ne its (subst (λ (z : ℕ). z < locks k) (sym (only j con)) below)))

  -- the lock that the pass has is out with no other
  others_lockless : (id j : ℕ) (x : Knows) → id ≢ m.made.pass → Live k r id x → j < locks k → (l : LockView) × HasLock v j l → has_lock (standing_of j x.calls) ≡ true → ⊥
  others_lockless id j x ne its below l h = (let y = (a.passes id j x its below).lock h in ne (lock_apart k r id m.made.pass j x v y.0 l.0 its live y.1 l.1))

  pub claim_own : (t word : ℕ) (q : PackageView) → Is (claim t word q) → IsPlain (place_of word) → Own
  claim_own t word q is plain = own_by (claim t word q) (claimed_by v t word q) is (λ x e. view_own (hall_at k r).views m.made.pass (claimed_by v t word q) x e) (λ j below. by j below (locked_in q j) refl)
    where
      may : MayClaim k (hall_at k r) v t word q
      may = may_do k r m (claim t word q) is

      its : IsClaimed word t q
      its = claimed_so k r m.made.pass v live t word q may

      same : (j : ℕ) → j < locks k → (custody_at k r' j ≡ custody_at k r j) × (line_at k r' j ≡ line_at k r j)
      same j below = still j below (ap (concerns j) is ∙ plain_out word j plain)

      by : (j : ℕ) → j < locks k → (o : Option LockView) → locked_in q j ≡ o → StandsTrue k r' (claimed_by v t word q) j
      by j below (Some l) e =
          let was = (a.slots t j q may.below below may.slot).here l e in
          claim_inside k r m.made.pass v live r' t word j q l its may.below below e
          (so_at j v.worker (stand_in q j) (same j below) (claim_next t word q is plain) (shown_true v.worker 0 (custody_at k r j) (line_at k r j) (written_at k r).next q j l e (its.own j l e) was))
      by j below None e =
          let st = a.passes m.made.pass j v live below in
          claim_outside k r m.made.pass v live r' t word j q (stood j) e (past_plain j (place_of word) (kind_passed v (place_of word)) (stood j) plain) (so_at j v.worker (stood j) (same j below) (claim_next t word q is plain) st.so) st refl
          (λ u h. let p = st.hand u h in packages_more v.packages q.context.thread u p.0 (bare q) p.1)

  pub claim_others : (t word : ℕ) (q : PackageView) → Is (claim t word q) → IsPlain (place_of word) → Others
  claim_others t word q is plain = still_others (λ i below. still i below (ap (concerns i) is ∙ plain_out word i plain)) (claim_next t word q is plain)

  pub claim_slots : (t word : ℕ) (q : PackageView) → Is (claim t word q) → IsPlain (place_of word) → Slots
  claim_slots t word q is plain = slots_stay (λ p place e. let f : claim t word q ≡ put p place = sym is ∙ e in cc f)
      (λ u j p low below was now. all_stays k r m u j (still j below (ap (concerns j) is ∙ plain_out word j plain)) (slot_next u p was now))

  pub claim_covered : (t word : ℕ) (q : PackageView) → Is (claim t word q) → IsPlain (place_of word) → Covered
  claim_covered t word q is plain = covers.claim_covered k r a m t word q is (λ i e. never_waits word i plain e) (λ i below. (still i below (ap (concerns i) is ∙ plain_out word i plain)).0)

  -- claim of one that waits
  pub pass_own : (t word i : ℕ) (q : PackageView) → Is (claim t word q) → place_of word ≡ Waiting i → Own
  pass_own t word i q is waits = own_by (claim t word q) (claimed_by v t word q) is (λ x e. view_own (hall_at k r).views m.made.pass (claimed_by v t word q) x e) (λ j below. by j below (locked_in q j) refl)
    where
      may : MayClaim k (hall_at k r) v t word q
      may = may_do k r m (claim t word q) is

      its : IsClaimed word t q
      its = claimed_so k r m.made.pass v live t word q may

      p : PassesAs v t i
      p = subst (IfWaiting v t) waits (asked k r m.made.pass v (ClaimsAs v t (place_of word)) live.pass may.stands).waiting

      same : (j : ℕ) → j < locks k → i ≢ j → (custody_at k r' j ≡ custody_at k r j) × (line_at k r' j ≡ line_at k r j)
      same j below ne = still j below (ap (concerns j) is ∙ (ap (waits_at j) waits ∙ ne_eqb i j ne))

      -- the lock that it waits for
      here : i < locks k → locked_in q i ≡ None → StandsTrue k r' (claimed_by v t word q) i
      here below e =
          let so = truth k r a m.made.pass v live i (followed p.own p.behind) below p.stands in
          let core = pass_core t word i q is waits in
          let us : List Turn = line_at k r i in
          let turns : line_at k r' i ≡ without_first us = line_by i (claim t word q) is ∙ (ap (λ (z : Place). if waits_at i z then without_first us else us) waits ∙ pick_mine i (without_first us) us) in
          let rule = kind_adopts k r a i v.worker p.lock (in_hand v.worker) below (lock_with_pass m.made.pass v live.pass p.has refl) so.0 in
          claim_outside k r m.made.pass v live r' t word i q (granted_at p.behind (passed_kind p.lock)) e (past_passed v i (place_of word) p.lock p.own p.behind (stood i) waits p.has p.stands) (
            ap (λ (x : Custody). x.place) core.1 ∙ ap (λ (z : ℕ). place.Granted z) (sym p.thread),
            ap (λ (x : Custody). x.left) core.1 ∙ so.1,
            ap (λ (z : List Turn). get_elem? z 0) turns ∙ (get_rest us 0 ∙ so.3),
            ap (λ (z : ℕ). ((written_at k r').next z).kind) p.thread ∙ (core.2 ∙ (ap (λ (b : Bool). if b then Adopted else Granted) (sym rule) ∙ sym (kind_rule p.lock (last_of (blocks_of p.lock))))),
          )
          (a.passes m.made.pass i v live below) (sym (ap has_lock p.stands))
          (λ u h. let f : p.behind.thread ≡ u = cc h in (bare q, subst (λ (z : ℕ). Has (claimed_by v t word q) z (bare q)) (sym p.thread ∙ f) (claimed_here k r m.made.pass v live t word q its.thread may.below)))

      by : (j : ℕ) → j < locks k → (o : Option LockView) → locked_in q j ≡ o → StandsTrue k r' (claimed_by v t word q) j
      by j below (Some l) e =
          let was = (a.slots t j q may.below below may.slot).here l e in
          let ne : i ≢ j = λ f. inside_apart k r m.made.pass i t v p.lock l q live p.has may.below may.slot (ap (locked_in q) f ∙ e) in
          let s = same j below ne in
          let none = waiting_ungranted word t i q its waits in
          claim_inside k r m.made.pass v live r' t word j q l its may.below below e (truth_as k r' v.worker j (stand_in q j) (custody_at k r j) (line_at k r j) (written_at k r').next s.0 s.1 refl
          (next_true v.worker (custody_at k r j) (line_at k r j) (written_at k r).next (written_at k r').next (stand_in q j) (λ u how g. absurd (shows_no_grant q j l e none u how g))
          (shown_true v.worker 0 (custody_at k r j) (line_at k r j) (written_at k r).next q j l e (its.own j l e) was)))
      by j below None e = dite (ℕ_discrete i j)
          (λ (f : i ≡ j). subst (StandsTrue k r' (claimed_by v t word q)) f (here (subst (λ (z : ℕ). z < locks k) (sym f) below) (ap (locked_in q) f ∙ e)))
          (λ (ne : i ≢ j).
          let st = a.passes m.made.pass j v live below in
          let s = same j below ne in
          claim_outside k r m.made.pass v live r' t word j q (stood j) e (ap (λ (z : Place). past_waiting j z (kind_passed v (place_of word)) (stood j)) waits ∙ if_not (i == j) (past_passing (kind_passed v (place_of word)) (stood j)) (stood j) (ne_eqb i j ne))
          (truth_as k r' v.worker j (stood j) (custody_at k r j) (line_at k r j) (written_at k r').next s.0 s.1 refl
          (next_true v.worker (custody_at k r j) (line_at k r j) (written_at k r).next (written_at k r').next (stood j) (λ u how g. claim_else_next t word q is u.thread (st.hand u.thread (ap thread_of g))) st.so)) st refl
          (λ u h. let p = st.hand u h in packages_more v.packages q.context.thread u p.0 (bare q) p.1))

  pub pass_others : (t word i : ℕ) (q : PackageView) → Is (claim t word q) → place_of word ≡ Waiting i → Others
  pass_others t word i q is waits = others_at i (λ j con. eqb-true i j (sym (ap (concerns j) is ∙ ap (waits_at j) waits) ∙ con)) here
    where
      may : MayClaim k (hall_at k r) v t word q
      may = may_do k r m (claim t word q) is

      p : PassesAs v t i
      p = subst (IfWaiting v t) waits (asked k r m.made.pass v (ClaimsAs v t (place_of word)) live.pass may.stands).waiting

      here : (id : ℕ) (x : Knows) → id ≢ m.made.pass → Live k r id x → i < locks k → Truth k r' x.worker i (standing_of i x.calls)
      here id x ne its below =
          let st = a.passes id i x its below in
          let so = truth k r a m.made.pass v live i (followed p.own p.behind) below p.stands in
          let us : List Turn = line_at k r i in
          let turns : line_at k r' i ≡ without_first us = line_by i (claim t word q) is ∙ (ap (λ (z : Place). if waits_at i z then without_first us else us) waits ∙ pick_mine i (without_first us) us) in
          truth_as k r' x.worker i (standing_of i x.calls) (custody_at k r' i) (without_first us) (written_at k r').next refl turns refl
          (lockless_true x.worker (custody_at k r i) (custody_at k r' i) us (without_first us) (written_at k r).next (written_at k r').next (standing_of i x.calls) (others_lockless id i x ne its below (p.lock, p.has))
          (λ u e first shut. let c : true ≡ false = sym shut ∙ (λ z. is_free_lock (so.0 z) || so.1 z) in let n : ⊥ = cc c in n)
          (λ u b n e f g. later so.3 (st.hand u.thread (ap thread_of e)) n f g) st.so)
        where
          later : {u b : Turn} → get_elem? (line_at k r i) 1 ≡ some p.behind → (o : PackageView) × Has x u.thread o → (n : ℕ) → get_elem? (line_at k r i) n ≡ some b → get_elem? (line_at k r i) (suc n) ≡ some u
              → (z : ℕ) × (get_elem? (without_first (line_at k r i)) z ≡ some b) × (get_elem? (without_first (line_at k r i)) (suc z) ≡ some u)
          later {u} {b} second o zero f g =
              let same : u ≡ p.behind = some-injective u p.behind (sym g ∙ second) in
              absurd (not_out k r id t x o.0 q its.pass (subst (λ (z : ℕ). Has x z o.0) (ap (λ (z : Turn). z.thread) same ∙ p.thread) o.1) may.slot)
          later {u} {b} second o (suc n) f g = (n, get_rest (line_at k r i) n ∙ f, get_rest (line_at k r i) (suc n) ∙ g)

  pub pass_slots : (t word i : ℕ) (q : PackageView) → Is (claim t word q) → place_of word ≡ Waiting i → Slots
  pass_slots t word i q is waits = slots_stay (λ p place e. let f : claim t word q ≡ put p place = sym is ∙ e in cc f)
      (λ u j p low below was now. dite (ℕ_discrete i j)
      (λ (same : i ≡ j). here u j p below was now (waits ∙ ap (λ (z : ℕ). Waiting z) same))
      (λ (ne : i ≢ j). all_stays k r m u j (still j below (ap (concerns j) is ∙ (ap (waits_at j) waits ∙ ne_eqb i j ne))) (slot_next u p was now)))
    where
      here : (u j : ℕ) (p : PackageView) → j < locks k → InSlot k r u p → InSlot k r' u p → place_of word ≡ Waiting j → Stays k r m u j
      here u j p below was now at =
          let s = subst (IfWaiting v t) at (asked k r m.made.pass v (ClaimsAs v t (place_of word)) live.pass (may_do k r m (claim t word q) is).stands).waiting in
          let so = truth k r a m.made.pass v live j (followed s.own s.behind) below s.stands in
          let us : List Turn = line_at k r j in
          let rest : line_at k r' j ≡ without_first us = line_by j (claim t word q) is ∙ (ap (λ (z : Place). if waits_at j z then without_first us else us) at ∙ pick_mine j (without_first us) us) in
          record {
            own = λ with. absurd (not_loose (custody_at k r j).place v.worker u so.0 with);
            behind = behind rest so.3 (λ e. not_claimed k r m t word u q p is now (sym e ∙ s.thread));
            next = slot_next u p was now;
          }
        where
          behind : {x : Turn} → line_at k r' j ≡ without_first (line_at k r j) → get_elem? (line_at k r j) 1 ≡ some x → (x.thread ≡ u → ⊥) → (n : ℕ) (y : Turn) → y.thread ≡ u → get_elem? (line_at k r j) (suc n) ≡ some y → (e : ℕ) × (get_elem? (line_at k r' j) (suc e) ≡ some y)
          behind {x} rest second out zero y of e = absurd (out (ap (λ (z : Turn). z.thread) (some-injective x y (sym second ∙ e)) ∙ of))
          behind {x} rest second out (suc n) y of e = (n, ap (λ (z : List Turn). get_elem? z (suc n)) rest ∙ (get_rest (line_at k r j) (suc n) ∙ e))

  pub pass_covered : (t word i : ℕ) (q : PackageView) → Is (claim t word q) → place_of word ≡ Waiting i → Covered
  pass_covered t word i q is waits = (let p = pass_core t word i q is waits in covers.pass_covered k r a m t word i p.0 q is waits p.1 (λ j below ne. (still j below (ap (concerns j) is ∙ (ap (waits_at j) waits ∙ ne_eqb i j ne))).0))

  -- take
  pub take_own : (i : ℕ) (l : LockView) → Is (take i l) → Own
  take_own i l is = own_by (take i l) w is (λ x e. view_own (hall_at k r).views m.made.pass w x e) (λ j below. dite (ℕ_discrete i j) (λ (same : i ≡ j). subst (StandsTrue k r' w) same here) (there j below))
    where
      w : Knows
      w = record (after_take v l) { open_slot = Some (threads k + i) }

      may : MayTake k (hall_at k r) v i l
      may = may_do k r m (take i l) is

      t : TakesAs v i
      t = asked k r m.made.pass v (TakesAs v i) live.pass may.stands

      number : l.number ≡ i
      number = (let h = lock_at_home k (hall_at k r) (kept_at k r) i l may.below may.word may.slot in ap (λ (z : LockView). z.number) (sym h.same) ∙ h.number)

      so : Truth k r v.worker i (entered t.0 None)
      so = truth k r a m.made.pass v live i (entered t.0 None) may.below t.1

      none : (custody_at k r i).place ≡ place.Free
      none = home_free (core_at k r).course (custody_at k r i).place ((shown_at k r a).shown.lock i l at_home may.below (lock_in_slot may.slot refl)).lies

      last : (j : ℕ) → standing_of j w.calls ≡ (if i == j then past_take (stood j) else stood j)
      last j = standing_last j v.calls (Take l.number) ∙ ap (λ (z : ℕ). if z == j then past_take (stood j) else stood j) number

      here : StandsTrue k r' w i
      here =
          let core = take_core i l t.0 is t.1 in
          let room = (kept_at k r).locks_placed.sized m.made.pass v live.pass live.live in
          let below = may.below in
          stands_so k r' w i (granted_at t.0 Taken) (last i ∙ (pick_mine i (past_take (stood i)) (stood i) ∙ ap past_take t.1))
          (ap (λ (x : Custody). x.place) core.0, ap (λ (x : Custody). x.left) core.0 ∙ free_left k r a i none, ap (λ (us : List Turn). get_elem? us 0) (line_by i (take i l) is) ∙ so.0, core.1)
          (λ h. (kept l, subst (λ (z : ℕ). get_elem? (set v.locks z (Some (kept l))) i ≡ some (Some (kept l))) (sym number) (set_here v.locks i (Some (kept l)) (omega (arith, room, below)))))
          (λ y h. refl)
          (λ u h. (a.passes m.made.pass i v live may.below).hand u (ap thread_of t.1 ∙ h))

      -- a thread that was granted another lock doesn't wait for this one
      next : (j : ℕ) → j < locks k → i ≢ j → (u : Turn) (how : Kind) → stood j ≡ granted_at u how → (written_at k r').next u.thread ≡ (written_at k r).next u.thread
      next j below ne u how g = next_still u.thread
          (λ x y z it stands same.
          let f : take i l ≡ take x y = sym is ∙ it in
          let at : i ≡ x = cc f in
          let e : entered t.0 None ≡ entered z None = sym t.1 ∙ (ap (λ (n : ℕ). standing_of n v.calls) at ∙ stands) in
          let turn : t.0 ≡ z = cc e in
          let granted = truth k r a m.made.pass v live j (granted_at u how) below g in
          ne (one_wanted k r a i j 0 t.0 (a.lines i may.below).line none so.0 (granted.0 ∙ ap (λ (n : ℕ). place.Granted n) (sym (ap (λ (n : Turn). n.thread) turn ∙ same)))))
          (λ x word n q it waits same. let f : take i l ≡ claim x word q = sym is ∙ it in let n : ⊥ = cc f in absurd n)
          (λ stamp b q it same. let f : take i l ≡ commit stamp b q = sym is ∙ it in let n : ⊥ = cc f in absurd n)

      there : (j : ℕ) → j < locks k → i ≢ j → StandsTrue k r' w j
      there j below ne =
          let st = a.passes m.made.pass j v live below in
          let s = still j below (ap (concerns j) is ∙ ne_eqb i j ne) in
          let apart : j ≢ l.number = λ z. ne (sym (z ∙ number)) in
          stands_so k r' w j (stood j) (last j ∙ if_not (i == j) (past_take (stood j)) (stood j) (ne_eqb i j ne))
          (truth_as k r' v.worker j (stood j) (custody_at k r j) (line_at k r j) (written_at k r').next s.0 s.1 refl (next_true v.worker (custody_at k r j) (line_at k r j) (written_at k r).next (written_at k r').next (stood j) (next j below ne) st.so))
          (λ h. let y = st.lock h in (y.0, set_else v.locks l.number j (Some (kept l)) apart ∙ y.1))
          (λ y h. st.stands y (lock_else v.locks l.number j (Some (kept l)) (Some y) apart h))
          st.hand

  pub take_others : (i : ℕ) (l : LockView) → Is (take i l) → Others
  take_others i l is = others_at i (λ j con. eqb-true i j (sym (ap (concerns j) is) ∙ con)) here
    where
      may : MayTake k (hall_at k r) v i l
      may = may_do k r m (take i l) is

      here : (id : ℕ) (x : Knows) → id ≢ m.made.pass → Live k r id x → i < locks k → Truth k r' x.worker i (standing_of i x.calls)
      here id x ne its below =
          let st = a.passes id i x its below in
          let t = asked k r m.made.pass v (TakesAs v i) live.pass may.stands in
          let so = truth k r a m.made.pass v live i (entered t.0 None) below t.1 in
          let mine = (a.passes m.made.pass i v live below).hand t.0.thread (ap thread_of t.1) in
          let us : List Turn = line_at k r i in
          truth_as k r' x.worker i (standing_of i x.calls) (custody_at k r' i) us (written_at k r').next refl (line_by i (take i l) is) refl
          (lockless_true x.worker (custody_at k r i) (custody_at k r' i) us us (written_at k r).next (written_at k r').next (standing_of i x.calls) (λ h. let y = st.lock h in slot_apart k r id i x l y.0 may.below may.word may.slot its y.1)
          (λ u e first shut.
          let same : u ≡ t.0 = some-injective u t.0 (sym first ∙ so.0) in
          let o = st.hand t.0.thread (ap thread_of e ∙ ap (λ (z : Turn). Some z.thread) same) in
          ne (package_apart k r id m.made.pass t.0.thread x v o.0 mine.0 its live o.1 mine.1))
          (λ u b n e f g. (n, f, g)) st.so)

  pub take_slots : (i : ℕ) (l : LockView) → Is (take i l) → Slots
  take_slots i l is = slots_stay (λ p place e. let f : take i l ≡ put p place = sym is ∙ e in cc f)
      (λ u j p low below was now. dite (ℕ_discrete i j)
      (λ (same : i ≡ j). here u j below (ap (λ (z : ℕ). take z l) same) (slot_next u p was now))
      (λ (ne : i ≢ j). all_stays k r m u j (still j below (ap (concerns j) is ∙ ne_eqb i j ne)) (slot_next u p was now)))
    where
      here : (u j : ℕ) → j < locks k → take i l ≡ take j l → (written_at k r').next u ≡ (written_at k r).next u → Stays k r m u j
      here u j below same next =
          let may = may_do k r m (take j l) (is ∙ same) in
          let free : (custody_at k r j).place ≡ place.Free = home_free (core_at k r).course (custody_at k r j).place ((shown_at k r a).shown.lock j l at_home below (lock_in_slot may.slot refl)).lies in
          line_stays k r m u j (λ with. (let c : false ≡ true = sym (ap (λ (z : LockPlace). is_with z u) free) ∙ with in let n : ⊥ = cc c in n)) (line_by j (take j l) (is ∙ same)) next

  pub take_covered : (i : ℕ) (l : LockView) → Is (take i l) → Covered
  take_covered i l is =
      let may = may_do k r m (take i l) is in
      let t = asked k r m.made.pass v (TakesAs v i) live.pass may.stands in
      let rests : (custody_at k r i).place ≡ place.Free = home_free (core_at k r).course (custody_at k r i).place ((shown_at k r a).shown.lock i l at_home may.below (lock_in_slot may.slot refl)).lies in
      covers.take_covered k r a m i l t.0 is t.1 rests (take_core i l t.0 is t.1).0 (λ j below ne. (still j below (ap (concerns j) is ∙ ne_eqb i j ne)).0)

  -- commit
  pub commit_own : (stamp : ℕ) (b : Block) (q : PackageView) → Is (commit stamp b q) → Own
  commit_own stamp b q is = own_by (commit stamp b q) w is (λ x e. view_own (hall_at k r).views m.made.pass w x e) (λ j below. by j below (has b.held j) refl)
    where
      sealed : Block
      sealed = sealed_block stamp v.worker b

      after : PackageView
      after = with_seal stamp v.worker q

      w : Knows
      w = after_seal v sealed after

      t : ℕ
      t = q.context.thread

      may : MayDo k (hall_at k r) m.made.pass v (commit stamp b q)
      may = may_do k r m (commit stamp b q) is

      lock : (j : ℕ) → (l : LockView) × HasLock v j l → (l : LockView) × HasLock w j l
      lock j l = locks_more v.locks after.context.locks j l.0 l.1

      hand : (u : ℕ) → (p : PackageView) × Has v u p → (p : PackageView) × Has w u p
      hand u p = packages_more v.packages t u p.0 (bare after) p.1

      -- a thread that was granted another lock is another
      next : (j : ℕ) → j < locks k → has b.held j ≡ false → (u : Turn) (how : Kind) → stood j ≡ granted_at u how → (written_at k r').next u.thread ≡ (written_at k r).next u.thread
      next j below e u how g = next_still u.thread
          (λ x y z it stands same. let f : commit stamp b q ≡ take x y = sym is ∙ it in let n : ⊥ = cc f in absurd n)
          (λ x word n o it waits same. let f : commit stamp b q ≡ claim x word o = sym is ∙ it in let n : ⊥ = cc f in absurd n)
          (λ n c o it same.
          let core = commit_core n j c o it in
          let s = still j below (ap (concerns j) is ∙ e) in
          let granted = truth k r a m.made.pass v live j (granted_at u how) below g in
          section_next k r a m j u.thread (ap (λ (x : Custody). x.place) s.0 ∙ granted.0) (ap (λ (z : ℕ). ((written_at k r').next z).kind) (sym same) ∙ core.3))

      outside : (j : ℕ) → j < locks k → has b.held j ≡ false → StandsTrue k r' w j
      outside j below e =
          let st = a.passes m.made.pass j v live below in
          let s = still j below (ap (concerns j) is ∙ e) in
          stands_so k r' w j (stood j) (standing_last j v.calls (Commit t sealed) ∙ ap (λ (z : Bool). if z then past_block j sealed (stood j) else stood j) e)
          (truth_as k r' v.worker j (stood j) (custody_at k r j) (line_at k r j) (written_at k r').next s.0 s.1 refl (next_true v.worker (custody_at k r j) (line_at k r j) (written_at k r).next (written_at k r').next (stood j) (next j below e) st.so))
          (λ h. lock j (st.lock h))
          (λ y h. let l = seal_back v q stamp j y may.1 h in st.stands l.0 l.1)
          (λ u h. hand u (st.hand u h))

      there_now : get_elem? (hall_at k r').views m.made.pass ≡ some w
      there_now = ap (λ (z : Operation). get_elem? (after_operation k (hall_at k r) m.made.pass v z).views m.made.pass) is ∙ set_here (hall_at k r).views m.made.pass w (there (hall_at k r).views m.made.pass v v live.pass).0

      has_now : Has w t (bare after)
      has_now = set_here v.packages t (Some (bare after)) (there v.packages t (Some (bare may.1.before)) (Some (bare may.1.before)) may.1.has).0

      -- the lock after it, which the thread holds or has released
      core_now : (j : ℕ) → has b.held j ≡ true → ((custody_at k r j).place ≡ place.With t) ⊎ ((custody_at k r j).place ≡ place.Granted t)
          → ((custody_at k r' j).place ≡ (if not (ends_section j b) then place.With t else place.Loose v.worker)) × ((custody_at k r' j).left ≡ (custody_at k r j).left)
      core_now j e how =
          let core = commit_core stamp j b q is in
          let x = custody_at k r j in
          let n = next_lock k.image.value ((core_at k r).machine.threads t) in
          let on = on_with n t j x (⊎_elim (λ (z : x.place ≡ place.With t). inl z) (λ (z : x.place ≡ place.Granted t). inr (granted_next k r a j t z)) how) in
          let past = past_with v.worker t core.1 core.0 (custody_on n t j x) on.0 in
          let lies : (custody_at k r' j).place ≡ (if core.1 then place.With t else place.Loose v.worker) = ap (λ (y : Custody). y.place) core.2 ∙ past.0 in
          let below = (moves.is_out k (hall_at k r) (kept_at k r) m.made.pass t v (bare may.1.before) live.pass may.1.has).0 in
          let holds = held_next k r a m t j (bare after) below (with_pass m.made.pass w there_now has_now) in
          let ends : core.1 ≡ not (ends_section j b) =
          sym (with_if core.1 t v.worker) ∙ (sym (ap (λ (p : LockPlace). is_number (with_of p) t) lies) ∙ (sym holds
          ∙ (seal_held v q may.1 j ∙ (ap (λ (z : Block). has z.held j && not (ends_section j z)) may.2 ∙ ap (λ (z : Bool). z && not (ends_section j b)) e)))) in
          (lies ∙ ap (λ (z : Bool). if z then place.With t else place.Loose v.worker) ends, ap (λ (y : Custody). y.left) core.2 ∙ (past.1 ∙ on.1))

      runs_for : b.thread ≡ t
      runs_for = ap (λ (z : Block). z.thread) (sym may.2) ∙ (may.1.ran.thread ∙ sym may.1.ran.runs.keeps.thread)

      inside : (j : ℕ) (u : Turn) → j < locks k → has b.held j ≡ true → u.thread ≡ t → ((custody_at k r j).place ≡ place.With t) ⊎ ((custody_at k r j).place ≡ place.Granted t) → (custody_at k r j).left ≡ false → get_elem? (line_at k r j) 0 ≡ some u
          → past_block j sealed (stood j) ≡ past_section (ends_section j b) u → has_lock (stood j) ≡ true → thread_of (stood j) ≡ Some u.thread → StandsTrue k r' w j
      inside j u below e same how left first past is_in of =
          let st = a.passes m.made.pass j v live below in
          let ends = ends_section j b in
          let now = core_now j e how in
          stands_so k r' w j (past_section ends u) (standing_last j v.calls (Commit t sealed) ∙ (ap (λ (z : Bool). if z then past_block j sealed (stood j) else stood j) e ∙ past))
          (truth_as k r' v.worker j (past_section ends u) (custody_at k r' j) (line_at k r j) (written_at k r').next refl (line_by j (commit stamp b q) is) refl
          (section_true v.worker (custody_at k r' j) (line_at k r j) (written_at k r').next ends u (now.0 ∙ ap (λ (z : ℕ). if not ends then place.With z else place.Loose v.worker) (sym same)) (now.1 ∙ left) first))
          (λ h. lock j (st.lock is_in))
          (λ y h. section_lock ends u)
          (λ z h. hand z (st.hand z (of ∙ (sym (section_thread ends u) ∙ h))))

      at : (j : ℕ) → j < locks k → has b.held j ≡ true → (s : Standing) → stood j ≡ s → IsRunAs b s → StandsTrue k r' w j
      at j below e (granted_at u how) stands runs =
          let so = truth k r a m.made.pass v live j (granted_at u how) below stands in
          let same : u.thread ≡ t = runs.0 ∙ runs_for in
          inside j u below e same (inr (so.0 ∙ ap (λ (z : ℕ). place.Granted z) same)) so.1 so.2 (ap (past_block j sealed) stands) (ap has_lock stands) (ap thread_of stands)
      at j below e (held u) stands runs =
          let so = truth k r a m.made.pass v live j (held u) below stands in
          let same : u.thread ≡ t = runs ∙ runs_for in
          inside j u below e same (inl (so.0 ∙ ap (λ (z : ℕ). place.With z) same)) so.1 so.2 (ap (past_block j sealed) stands) (ap has_lock stands) (ap thread_of stands)
      at j below e away stands runs = absurd runs
      at j below e (entered u before) stands runs = absurd runs
      at j below e (loose u) stands runs = absurd runs
      at j below e (followed u x) stands runs = absurd runs
      at j below e (closed u) stands runs = absurd runs

      by : (j : ℕ) → j < locks k → (z : Bool) → has b.held j ≡ z → StandsTrue k r' w j
      by j below true e = at j below e (stood j) refl (asked k r m.made.pass v (SealsAs v b) live.pass may.3 j e)
      by j below false e = outside j below e

  pub commit_others : (stamp : ℕ) (b : Block) (q : PackageView) → Is (commit stamp b q) → Others
  commit_others stamp b q is = others_if (λ id j x ne its below con.
      let e : has b.held j ≡ true = sym (ap (concerns j) is) ∙ con in
      let st = a.passes id j x its below in
      let mine = a.passes m.made.pass j v live below in
      let runs = asked k r m.made.pass v (SealsAs v b) live.pass (may_do k r m (commit stamp b q) is).3 j e in
      let us : List Turn = line_at k r j in
      truth_as k r' x.worker j (standing_of j x.calls) (custody_at k r' j) us (written_at k r').next refl (line_by j (commit stamp b q) is) refl
      (lockless_true x.worker (custody_at k r j) (custody_at k r' j) us us (written_at k r).next (written_at k r').next (standing_of j x.calls) (others_lockless id j x ne its below (mine.lock (run_lock b (stood j) runs)))
      (λ u f first shut. let c : true ≡ false = sym shut ∙ run_shut v.worker (custody_at k r j) us (written_at k r).next b (stood j) runs mine.so in let n : ⊥ = cc c in n)
      (λ u y n f g h. (n, g, h)) st.so))

  pub commit_slots : (stamp : ℕ) (b : Block) (q : PackageView) → Is (commit stamp b q) → Slots
  commit_slots stamp b q is = slots_stay (λ p place e. let f : commit stamp b q ≡ put p place = sym is ∙ e in cc f) (λ u j p low below was now. by u j p below was (has b.held j) refl (slot_next u p was now))
    where
      runs_for : b.thread ≡ q.context.thread
      runs_for = (let may = may_do k r m (commit stamp b q) is in ap (λ (z : Block). z.thread) (sym may.2) ∙ (may.1.ran.thread ∙ sym may.1.ran.runs.keeps.thread))

      at : (u j : ℕ) (s : Standing) → Truth k r v.worker j s → IsRunAs b s → is_with (custody_at k r j).place u ≡ true → b.thread ≡ u
      at u j (granted_at y kind) so runs with = sym runs.0 ∙ eqb-true y.thread u (sym (ap (λ (z : LockPlace). is_with z u) so.0) ∙ with)
      at u j (held y) so runs with = sym runs ∙ eqb-true y.thread u (sym (ap (λ (z : LockPlace). is_with z u) so.0) ∙ with)
      at u j away so runs with = absurd runs
      at u j (entered y before) so runs with = absurd runs
      at u j (loose y) so runs with = absurd runs
      at u j (followed y x) so runs with = absurd runs
      at u j (closed y) so runs with = absurd runs

      out : (u : ℕ) (p : PackageView) → InSlot k r u p → b.thread ≡ u → ⊥
      out u p was e = not_out k r m.made.pass q.context.thread v _ p m.may.pass (may_do k r m (commit stamp b q) is).1.has (subst (λ (z : ℕ). InSlot k r z p) (sym e ∙ runs_for) was)

      by : (u j : ℕ) (p : PackageView) → j < locks k → InSlot k r u p → (x : Bool) → has b.held j ≡ x → (written_at k r').next u ≡ (written_at k r).next u → Stays k r m u j
      by u j p below was false e next = all_stays k r m u j (commit_still stamp j b q is below e, line_by j (commit stamp b q) is) next
      by u j p below was true e next =
          let runs = asked k r m.made.pass v (SealsAs v b) live.pass (may_do k r m (commit stamp b q) is).3 j e in
          line_stays k r m u j (λ with. out u p was (at u j (stood j) (a.passes m.made.pass j v live below).so runs with)) (line_by j (commit stamp b q) is) next

  pub commit_covered : (stamp : ℕ) (b : Block) (q : PackageView) → Is (commit stamp b q) → Covered
  commit_covered stamp b q is = covers.commit_covered k r a m stamp b q is (λ i t below out.
      let c = commit_core stamp i b q is in
      covers.block_out v.worker q.context.thread i t c.1 c.0 (next_lock k.image.value ((core_at k r).machine.threads q.context.thread)) (custody_at k r i) (subst (λ (x : Custody). is_out x t ≡ true) c.2 out))

  -- put
  pub put_own : (q : PackageView) (place : Place) → Is (put q place) → Own
  put_own q place is = own_by (put q place) w is (λ x e. view_own (hall_at k r).views m.made.pass w x e) (λ j below. by j below (locked_in q j) refl)
    where
      w : Knows
      w = record (after_put v q place) { open_slot = None }

      may : MayFill k v q place
      may = may_do k r m (put q place) is

      p : PutsAs v q place
      p = asked k r m.made.pass v (PutsAs v q place) live.pass may.stands

      last : (j : ℕ) → standing_of j w.calls ≡ past j (put_call q place) (stood j)
      last j = standing_last j v.calls (put_call q place)

      inside : (j : ℕ) (l : LockView) → locked_in q j ≡ Some l → StandsTrue k r' w j
      inside j l e = stands_away k r' w j (last j ∙ (ap (past j (put_call q place)) (p.locks j l e) ∙ put_in q place j l e (may.may.order.own j l e)))
          (λ y h. let c : Some l ≡ None = sym e ∙ (remove_all-at v.locks q.context.locks j y h).0 in let n : ⊥ = cc c in n)

      waiting : (j : ℕ) → j < locks k → place ≡ Waiting j → StandsTrue k r' w j
      waiting j below here =
          let b = p.waits j here in
          stands_away k r' w j (last j ∙ (ap (past j (put_call q place)) b.1 ∙ pick_mine q.context.thread away (entered (last_turn q) (Some b.0))))
          (λ y h. let c : false ≡ true = sym (ap has_lock b.1) ∙ (a.passes m.made.pass j v live below).stands y (remove_all-at v.locks q.context.locks j y h).1 in let n : ⊥ = cc c in n)

      outside : (j : ℕ) → j < locks k → locked_in q j ≡ None → place ≢ Waiting j → StandsTrue k r' w j
      outside j below e ne =
          let st = a.passes m.made.pass j v live below in
          let other = p.others j e ne in
          stands_so k r' w j (stood j) (last j ∙ put_else q place j (stood j) other) (so_at j v.worker (stood j) (still j below (ap (concerns j) is)) (put_next q place is) st.so)
          (λ h. let y = st.lock h in (y.0, remove_all-else v.locks q.context.locks j e ∙ y.1))
          (λ y h. st.stands y (remove_all-at v.locks q.context.locks j y h).1)
          (λ u h. let o = st.hand u h in (o.0, set_else v.packages q.context.thread u None (of_thread (stood j) u q.context.thread h other) ∙ o.1))

      by : (j : ℕ) → j < locks k → (o : Option LockView) → locked_in q j ≡ o → StandsTrue k r' w j
      by j below (Some l) e = inside j l e
      by j below None e = ⊎_elim (waiting j below) (outside j below e) (waits_or_not place j)

  pub put_others : (q : PackageView) (place : Place) → Is (put q place) → Others
  put_others q place is = still_others (λ i below. still i below (ap (concerns i) is)) (put_next q place is)

  pub put_slots : (q : PackageView) (place : Place) → Is (put q place) → Slots
  put_slots q place is = slots_by k r m a
      (λ u j p low below was now. all_stays k r m u j (still j below (ap (concerns j) is)) (ap (λ (f : ℕ → Beginning). f u) (put_next q place is)))
      (λ u j p at low below now be of. subst (λ (z : ℕ). IsShownIn k r' z p j) of (shown j p at below (subst (λ (z : ℕ). z < threads k) (sym of) low) be))
    where
      shown : (j : ℕ) (p : PackageView) (at : Place) → j < locks k → p.context.thread < threads k → Is (put p at) → IsShownIn k r' p.context.thread p j
      shown j p at below low be =
          let may = may_do k r m (put p at) be in
          let puts = asked k r m.made.pass v (PutsAs v p at) live.pass may.stands in
          let same = still j below (ap (concerns j) be) in
          record {
            here = λ l e. own_stays v.worker 0 (custody_at k r j) (custody_at k r' j) (line_at k r j) (line_at k r' j) (written_at k r).next (written_at k r').next p j l e (may.may.order.own j l e)
                (λ with. record { place = ap (λ (z : Custody). z.place) same.0; left = ap (λ (z : Custody). z.left) same.0; first = λ u f. ap (λ (us : List Turn). get_elem? us 0) same.1 ∙ f })
                (ap (λ (f : ℕ → Beginning). f p.context.thread) (put_next p at be)) (truth k r a m.made.pass v live j (stand_in p j) below (puts.locks j l e));
            waits = λ e. (let w = puts.waits j (put_where k r m p at low be j e) in
                let so = truth k r a m.made.pass v live j (entered (last_turn p) (Some w.0)) below w.1 in
                (so.0, ap (λ (us : List Turn). get_elem? us (suc so.0)) same.1 ∙ so.2));
          }

  pub put_covered : (q : PackageView) (place : Place) → Is (put q place) → Covered
  put_covered q place is = covers.put_covered k r a m q place is (λ i below. (still i below (ap (concerns i) is)).0)

  -- free
  free_next : (l : LockView) → Is (free l) → (written_at k r').next ≡ (written_at k r).next
  free_next l is = ap (λ (w : Written). w.next) (written_by _ (is_steps (free l) is))

  pub free_own : (l : LockView) → Is (free l) → Own
  free_own l is = own_by (free l) w is (λ x e. view_own (hall_at k r).views m.made.pass w x e) (λ j below. dite (ℕ_discrete l.number j) (here j) (there j below))
    where
      w : Knows
      w = record (after_free v l) { open_slot = None }

      last : (j : ℕ) → standing_of j (v.calls ++ Free l.number ∷ []) ≡ (if l.number == j then away else stood j)
      last j = standing_last j v.calls (Free l.number)

      here : (j : ℕ) → l.number ≡ j → StandsTrue k r' w j
      here j same =
          let e : standing_of j w.calls ≡ away = last j ∙ ap (λ (b : Bool). if b then away else stood j) (eq-eqb l.number j same) in
          record {
            so = subst (Truth k r' v.worker j) (sym e) tt;
            lock = λ h. (let f : false ≡ true = ap has_lock (sym e) ∙ h in let n : ⊥ = cc f in absurd n);
            stands = λ y h. absurd (lock_gone v.locks l.number y (subst (λ (z : ℕ). HasLock w z y) (sym same) h));
            hand = λ t h. (let f : None ≡ Some t = ap thread_of (sym e) ∙ h in let n : ⊥ = cc f in absurd n);
          }

      there : (j : ℕ) → j < locks k → l.number ≢ j → StandsTrue k r' w j
      there j below other =
          let st = a.passes m.made.pass j v live below in
          let e : standing_of j w.calls ≡ stood j = last j ∙ if_not (l.number == j) away (stood j) (ne_eqb l.number j other) in
          record {
            so = subst (Truth k r' v.worker j) (sym e) (so_at j v.worker (stood j) (still j below (ap (concerns j) is ∙ ne_eqb l.number j other)) (free_next l is) st.so);
            lock = λ h. (let y = st.lock (ap has_lock (sym e) ∙ h) in (y.0, set_else v.locks l.number j None (λ (z : j ≡ l.number). other (sym z)) ∙ y.1));
            stands = λ y h. ap has_lock e ∙ st.stands y (lock_else v.locks l.number j None (Some y) (λ (z : j ≡ l.number). other (sym z)) h);
            hand = λ t h. st.hand t (ap thread_of (sym e) ∙ h);
          }

  pub free_others : (l : LockView) → Is (free l) → Others
  free_others l is id j x ne its below = ⊎_elim old (λ (z : fresh v ≡ x). subst (λ (y : Knows). StandsTrue k r' y j) z (stands_fresh k r' v j)) (other_view k (hall_at k r) m.made.pass v m.made.operation id x ne its.live its.pass)
    where
      mine : get_elem? (hall_at k r).views id ≡ some x → l.number ≡ j → (y : LockView) → HasLock x j y → ⊥
      mine at same y its_lock =
          let p = (kept_at k r).locks_placed.owned id x j y at its_lock in
          let q = (kept_at k r).locks_placed.owned m.made.pass v l.number (kept l) live.pass (may_do k r m (free l) is).1.has in
          let e : out_with id ≡ out_with m.made.pass = sym p.0 ∙ (ap (kept_at k r).locks_placed.spot (sym same) ∙ q.0) in
          ne (let f : id ≡ m.made.pass = cc e in f)

      by : (s : Standing) → (custody_at k r' j ≡ freed (custody_at k r j)) → (has_lock s ≡ true → ⊥) → Truth k r x.worker j s → Truth k r' x.worker j s
      by away core out so = tt
      by (entered u None) core out so = (ap (λ (us : List Turn). get_elem? us 0) (line_by j (free l) is) ∙ so.0, ap (λ (z : Custody). is_free_lock z.place || z.left) core)
      by (entered u (Some b)) core out so = so_line so
        where
          so_line : Truth k r x.worker j (entered u (Some b)) → Truth k r' x.worker j (entered u (Some b))
          so_line so = subst (λ (us : List Turn). (n : ℕ) × (get_elem? us n ≡ some b) × (get_elem? us (suc n) ≡ some u)) (sym (line_by j (free l) is)) so
      by (granted_at u kind) core out so = absurd (out refl)
      by (held u) core out so = absurd (out refl)
      by (loose u) core out so = absurd (out refl)
      by (followed u y) core out so = absurd (out refl)
      by (closed u) core out so = absurd (out refl)

      old : get_elem? (hall_at k r).views id ≡ some x → StandsTrue k r' x j
      old at =
          let st = a.passes id j x (record { pass = at; live = its.live }) below in
          record {
            so = dite (ℕ_discrete l.number j)
                (λ (same : l.number ≡ j). by (standing_of j x.calls) (subst (λ (z : ℕ). custody_at k r' z ≡ freed (custody_at k r z)) same (free_core l is)) (λ e. let h = st.lock e in mine at same h.0 h.1) st.so)
                (λ (other : l.number ≢ j). so_at j x.worker (standing_of j x.calls) (still j below (ap (concerns j) is ∙ ne_eqb l.number j other)) (free_next l is) st.so);
            lock = st.lock;
            stands = st.stands;
            hand = st.hand;
          }

  pub free_slots : (l : LockView) → Is (free l) → Slots
  free_slots l is = slots_stay (λ p place e. let f : free l ≡ put p place = sym is ∙ e in cc f)
      (λ u j p low below was now. dite (ℕ_discrete l.number j)
      (λ (same : l.number ≡ j). here u j below same (slot_next u p was now))
      (λ (ne : l.number ≢ j). all_stays k r m u j (still j below (ap (concerns j) is ∙ ne_eqb l.number j ne)) (slot_next u p was now)))
    where
      here : (u j : ℕ) → j < locks k → l.number ≡ j → (written_at k r').next u ≡ (written_at k r).next u → Stays k r m u j
      here u j below same next =
          let f = subst (FreesAs v) same (asked k r m.made.pass v (FreesAs v l.number) live.pass (may_do k r m (free l) is).2) in
          let so = truth k r a m.made.pass v live j (closed f.0) below f.1 in
          line_stays k r m u j (not_loose (custody_at k r j).place v.worker u so.0) (line_by j (free l) is) next

  pub free_covered : (l : LockView) → Is (free l) → Covered
  free_covered l is = covers.free_covered k r a m l is (free_core l is) (λ j below ne. (still j below (ap (concerns j) is ∙ ne_eqb l.number j ne)).0)

  -- a call on a line
  pub enter_own : (i : ℕ) (u : Turn) (e : Entered) → Is (line i (Did_enter u e)) → Own
  enter_own i u e is =
      let may = may_do k r m (line i (Did_enter u e)) is in
      let s = asked k r m.made.pass v (EntersAs v i u) live.pass may.3 in
      own_line i (Did_enter u e) is (line_next i (Did_enter u e) is refl) (by e is may.1 may.2.1 s.stands s.waiter s.has)
    where
      in_hand : (p : PackageView) → Has v u.thread p → (t : ℕ) → Some u.thread ≡ Some t → (p : PackageView) × Has v t p
      in_hand p has t e = (p, subst (λ (z : ℕ). Has v z p) (let f : u.thread ≡ t = cc e in f) has)

      by : (e : Entered) → Is (line i (Did_enter u e)) → i < locks k → e ≡ answer_to_enter (plain_at k i (hall_at k r).words).tail → stood i ≡ away → (p : PackageView) → Has v u.thread p → StandsTrue k r' (with_call v (Line i (Did_enter u e))) i
      by First is below answer stands p has =
          let none : line_at k r i ≡ [] = first_enters (line_at k r i) (plain_at k i (hall_at k r).words).tail (tail_found i below) (sym answer) in
          let core = enter_core i u First is in
          own_call i (Line i (Did_enter u First)) (entered u None) below (pick_mine i (entered u None) (stood i))
          (ap (λ (us : List Turn). get_elem? us 0) (core.1 ∙ ap (λ (us : List Turn). us ++ u ∷ []) none), ap (λ (x : Custody). is_free_lock x.place || x.left) core.0 ∙ empty_free i below none)
          (sym (ap has_lock stands)) (in_hand p has)
      by (Behind b) is below answer stands p has =
          let f = behind_enters (line_at k r i) (plain_at k i (hall_at k r).words).tail b (tail_found i below) (sym answer) in
          let g = last_next f.0 b u in
          let core = enter_core i u (Behind b) is in
          own_call i (Line i (Did_enter u (Behind b))) (entered u (Some b)) below (pick_mine i (entered u (Some b)) (stood i))
          (g.0, ap (λ (us : List Turn). get_elem? us g.0) core.1 ∙ get_front (line_at k r i) (u ∷ []) g.0 b (ap (λ (us : List Turn). get_elem? us g.0) f.1 ∙ g.1), ap (λ (us : List Turn). get_elem? us (suc g.0)) (core.1 ∙ ap (λ (us : List Turn). us ++ u ∷ []) f.1) ∙ g.2)
          (sym (ap has_lock stands)) (in_hand p has)

  pub enter_others : (i : ℕ) (u : Turn) (e : Entered) → Is (line i (Did_enter u e)) → Others
  enter_others i u e is = others_at i (λ j con. eqb-true i j (sym (ap (concerns j) is) ∙ con)) (λ id x ne its below.
      let core = enter_core i u e is in
      truth_as k r' x.worker i (standing_of i x.calls) (line_entered (custody_at k r i) u.thread) (line_at k r i ++ u ∷ []) (written_at k r).next core.0 core.1 (line_next i (Did_enter u e) is refl)
      (more_true x.worker (custody_at k r i) (line_at k r i) u (written_at k r).next (standing_of i x.calls) (a.passes id i x its below).so))

  pub enter_slots : (i : ℕ) (u : Turn) (e : Entered) → Is (line i (Did_enter u e)) → Slots
  enter_slots i u e is = slots_stay (λ p place f. let g : line i (Did_enter u e) ≡ put p place = sym is ∙ f in cc g)
      (λ t j p low below was now. dite (ℕ_discrete i j)
      (λ (same : i ≡ j). here t j (enter_core j u e (is ∙ ap (λ (z : ℕ). line z (Did_enter u e)) same)) (slot_next t p was now))
      (λ (ne : i ≢ j). all_stays k r m t j (still j below (ap (concerns j) is ∙ ne_eqb i j ne)) (slot_next t p was now)))
    where
      here : (t j : ℕ) → (custody_at k r' j ≡ line_entered (custody_at k r j) u.thread) × (line_at k r' j ≡ line_at k r j ++ u ∷ []) → (written_at k r').next t ≡ (written_at k r).next t → Stays k r m t j
      here t j core next = record {
        own = λ with. record {
          place = ap (λ (z : Custody). z.place) core.0;
          left = ap (λ (z : Custody). z.left) core.0;
          first = λ x f. ap (λ (us : List Turn). get_elem? us 0) core.1 ∙ get_front (line_at k r j) (u ∷ []) 0 x f;
        };
        behind = λ n x of f. (n, ap (λ (us : List Turn). get_elem? us (suc n)) core.1 ∙ get_front (line_at k r j) (u ∷ []) (suc n) x f);
        next = next;
      }

  pub enter_covered : (i : ℕ) (u : Turn) (e : Entered) → Is (line i (Did_enter u e)) → Covered
  enter_covered i u e is = covers.enter_covered k r a m i u e is (enter_core i u e is).0 (λ j below ne. (still j below (ap (concerns j) is ∙ ne_eqb i j ne)).0)

  pub link_own : (i : ℕ) (b u : Turn) → Is (line i (Did_link b u)) → Own
  link_own i b u is = own_by (line i (Did_link b u)) (with_call v (Line i (Did_link b u))) is (λ x e. view_own (hall_at k r).views m.made.pass _ x e)
      (λ j below. own_quiet (Line i (Did_link b u)) (line_still i (Did_link b u) is refl refl) j below (either (i == j) (stood j)))

  pub next_own : (i : ℕ) (u x : Turn) → Is (line i (Did_ask u (Some x))) → Own
  next_own i u x is =
      let may = may_do k r m (line i (Did_ask u (Some x))) is in
      let stands = asked k r m.made.pass v (StandsAs v i (loose u)) live.pass may.3 in
      let so = truth k r a m.made.pass v live i (loose u) may.1 stands in
      let o = a.lines i may.1 in
      let answer : answer_to_next u ((plain_of i r.order).links u.thread) ≡ Some x = ap (answer_to_next u) (sym ((line_shown k r i may.1).links u.thread may.2.0.thread)) ∙ sym may.2.1 in
      let second = next_is_second (plain_of i r.order).links (line_at k r i) u x o.links so.2 answer in
      let c : QueueCall = Did_ask u (Some x) in
      let same = line_still i c is refl refl in
      own_line i c is same.1 (own_call i (Line i c) (followed u x) may.1 (pick_mine i (past_line c (stood i)) (stood i) ∙ ap (past_line c) stands)
      (so_still same.0 same.1 i v.worker (followed u x) may.1 (so.0, so.1, so.2, second)) (sym (ap has_lock stands)) (λ t e. (a.passes m.made.pass i v live may.1).hand t (ap thread_of stands ∙ e)))

  pub leave_own : (i : ℕ) (u : Turn) → Is (line i (Did_leave u Left)) → Own
  leave_own i u is =
      let may = may_do k r m (line i (Did_leave u Left)) is in
      let stands = asked k r m.made.pass v (StandsAs v i (loose u)) live.pass may.3 in
      let so = truth k r a m.made.pass v live i (loose u) may.1 stands in
      let core = (leave_core i u is).0 in
      let c : QueueCall = Did_leave u Left in
      own_line i c is (line_next i c is refl) (own_call i (Line i c) (closed u) may.1 (pick_mine i (past_line c (stood i)) (stood i) ∙ ap (past_line c) stands)
      (ap (λ (x : Custody). x.place) core ∙ so.0, ap (λ (x : Custody). x.left) core) (sym (ap has_lock stands)) (λ t e. let n : ⊥ = cc e in absurd n))

  pub leave_others : (i : ℕ) (u : Turn) → Is (line i (Did_leave u Left)) → Others
  leave_others i u is = others_at i (λ j con. eqb-true i j (sym (ap (concerns j) is) ∙ con)) (λ id x ne its below.
      let may = may_do k r m (line i (Did_leave u Left)) is in
      let stands = asked k r m.made.pass v (StandsAs v i (loose u)) live.pass may.3 in
      let so = truth k r a m.made.pass v live i (loose u) below stands in
      let us : List Turn = line_at k r i in
      let single : us ≡ u ∷ [] = left_is_single us (plain_at k i (hall_at k r).words).tail u (tail_found i below) (once_at k r a i below) so.2 (sym may.2.1) in
      truth_as k r' x.worker i (standing_of i x.calls) (custody_at k r' i) [] (written_at k r').next refl (leave_core i u is).1 refl
      (lockless_true x.worker (custody_at k r i) (custody_at k r' i) us [] (written_at k r).next (written_at k r').next (standing_of i x.calls) (others_lockless id i x ne its below ((a.passes m.made.pass i v live below).lock (ap has_lock stands)))
      (λ y e first shut. let c : true ≡ false = sym shut ∙ (λ z. is_free_lock (so.0 z) || so.1 z) in let n : ⊥ = cc c in n)
      (λ y b n e f g. absurd (some-ne-none y (sym (ap (λ (z : List Turn). get_elem? z (suc n)) (sym single) ∙ g))))
      (a.passes id i x its below).so))

  pub leave_slots : (i : ℕ) (u : Turn) → Is (line i (Did_leave u Left)) → Slots
  leave_slots i u is = slots_stay (λ p place f. let g : line i (Did_leave u Left) ≡ put p place = sym is ∙ f in cc g)
      (λ t j p low below was now. dite (ℕ_discrete i j)
      (λ (same : i ≡ j). here t j below (is ∙ ap (λ (z : ℕ). line z (Did_leave u Left)) same) (slot_next t p was now))
      (λ (ne : i ≢ j). all_stays k r m t j (still j below (ap (concerns j) is ∙ ne_eqb i j ne)) (slot_next t p was now)))
    where
      here : (t j : ℕ) → j < locks k → Is (line j (Did_leave u Left)) → (written_at k r').next t ≡ (written_at k r).next t → Stays k r m t j
      here t j below be next =
          let may = may_do k r m (line j (Did_leave u Left)) be in
          let so = truth k r a m.made.pass v live j (loose u) below (asked k r m.made.pass v (StandsAs v j (loose u)) live.pass may.3) in
          let us : List Turn = line_at k r j in
          let single : us ≡ u ∷ [] = left_is_single us (plain_at k j (hall_at k r).words).tail u (tail_found j below) (once_at k r a j below) so.2 (sym may.2.1) in
          record {
            own = λ with. absurd (not_loose (custody_at k r j).place v.worker t so.0 with);
            behind = λ n x of f. absurd (some-ne-none x (sym (sym (ap (λ (z : List Turn). get_elem? z (suc n)) single) ∙ f)));
            next = next;
          }

  pub leave_covered : (i : ℕ) (u : Turn) → Is (line i (Did_leave u Left)) → Covered
  leave_covered i u is = covers.leave_covered k r a m i u is (leave_core i u is).0 (λ j below ne. (still j below (ap (concerns j) is ∙ ne_eqb i j ne)).0)

  -- the rest
  pub quiet_own : IsQuiet m.made.operation → Own
  quiet_own quiet = by m.made.operation refl quiet
    where
      on_views : (w x : Knows) → get_elem? (set (hall_at k r).views m.made.pass w) m.made.pass ≡ some x → w ≡ x
      on_views w x e = view_own (hall_at k r).views m.made.pass w x e

      so : IsStill → (j : ℕ) → j < locks k → Truth k r' v.worker j (stood j)
      so same j below = so_still same.0 same.1 j v.worker (stood j) below (a.passes m.made.pass j v live below).so

      by : (o : Operation) → Is o → IsQuiet o → Own
      by o is (missed word wanted found) = own_by o (after_miss v word found) is (on_views (after_miss v word found)) (λ j below. let st = a.passes m.made.pass j v live below in record { so = so (no_steps o is refl (λ i. refl)) j below; lock = st.lock; stands = st.stands; hand = st.hand })
      by o is (reached slot) = own_by o (record v { open_slot = Some slot }) is (on_views (record v { open_slot = Some slot })) (λ j below. let st = a.passes m.made.pass j v live below in record { so = so (no_steps o is refl (λ i. refl)) j below; lock = st.lock; stands = st.stands; hand = st.hand })
      by o is (laid slot) = own_by o (record v { open_slot = None }) is (on_views (record v { open_slot = None })) (λ j below. let st = a.passes m.made.pass j v live below in record { so = so (no_steps o is refl (λ i. refl)) j below; lock = st.lock; stands = st.stands; hand = st.hand })
      by o is (looked t found) = own_by o (with_call v (Look t found)) is (on_views (with_call v (Look t found))) (λ j below. own_quiet (Look t found) (no_steps o is refl (λ i. refl)) j below refl)
      by o is (saw found) = own_by o (with_call v (Stopped found)) is (on_views (with_call v (Stopped found))) (λ j below. own_quiet (Stopped found) (no_steps o is refl (λ i. refl)) j below refl)
      by o is (unlinked i u) = own_by o (with_call v (Line i (Did_ask u None))) is (on_views (with_call v (Line i (Did_ask u None)))) (λ j below. own_quiet (Line i (Did_ask u None)) (line_still i (Did_ask u None) is refl refl) j below (either (i == j) (stood j)))
      by o is (followed_by i u tail) = own_by o (with_call v (Line i (Did_leave u (Followed tail)))) is (on_views (with_call v (Line i (Did_leave u (Followed tail))))) (λ j below. own_quiet (Line i (Did_leave u (Followed tail))) (line_still i (Did_leave u (Followed tail)) is refl refl) j below (either (i == j) (stood j)))

  pub quiet_covered : IsQuiet m.made.operation → Covered
  quiet_covered quiet = by m.made.operation refl quiet
    where
      same : IsStill → (i : ℕ) → i < locks k → custody_at k r' i ≡ custody_at k r i
      same is i below = (is.0 i below).0

      kept : (o : Operation) (w : Knows) → Is o → IsStill → ((t : ℕ) → covers.writes t o ≡ false) → get_elem? (after_operation k (hall_at k r) m.made.pass v o).views m.made.pass ≡ some w → w.spent ≡ false → w.calls ≡ v.calls → Covered
      kept o w is all silent at alive calls = covers.kept_covered k r a m o w is (same all) silent at alive calls

      called : (o : Operation) (c : PassCall) → Is o → IsStill → ((t : ℕ) → covers.writes t o ≡ false) → get_elem? (after_operation k (hall_at k r) m.made.pass v o).views m.made.pass ≡ some (with_call v c)
          → ((j : ℕ) (u : Turn) (before : Option Turn) → past j c (entered u before) ≡ entered u before) → Covered
      called o c is all silent at stays = covers.called_covered k r a m o (with_call v c) c is (same all) silent at m.may.live refl stays

      by : (o : Operation) → Is o → IsQuiet o → Covered
      by o is (missed word wanted found) = kept o (after_miss v word found) is (no_steps o is refl (λ i. refl)) (λ t. refl) (covers.here k r a m (after_miss v word found)) m.may.live refl
      by o is (reached slot) = kept o (record v { open_slot = Some slot }) is (no_steps o is refl (λ i. refl)) (λ t. refl) (covers.here k r a m (record v { open_slot = Some slot })) m.may.live refl
      by o is (laid slot) = kept o (record v { open_slot = None }) is (no_steps o is refl (λ i. refl)) (λ t. refl) (covers.here k r a m (record v { open_slot = None })) m.may.live refl
      by o is (looked t found) = called o (Look t found) is (no_steps o is refl (λ i. refl)) (λ z. refl) (covers.here k r a m (with_call v (Look t found))) (λ j u before. refl)
      by o is (saw found) = called o (Stopped found) is (no_steps o is refl (λ i. refl)) (λ t. refl) (covers.here k r a m (with_call v (Stopped found))) (λ j u before. refl)
      by o is (unlinked i u) = called o (Line i (Did_ask u None)) is (line_still i (Did_ask u None) is refl refl) (λ t. refl) (covers.here k r a m (with_call v (Line i (Did_ask u None)))) (λ j x before. either (i == j) (entered x before))
      by o is (followed_by i u tail) =
          called o (Line i (Did_leave u (Followed tail))) is (line_still i (Did_leave u (Followed tail)) is refl refl) (λ t. refl) (covers.here k r a m (with_call v (Line i (Did_leave u (Followed tail))))) (λ j x before. either (i == j) (entered x before))

  pub split_own : Is split → Own
  split_own is = own_by split (dealt v) is view (λ j below. let st = a.passes m.made.pass j v live below in record { so = so_at j v.worker (stood j) (still j below (ap (concerns j) is)) (split_next is) st.so; lock = st.lock; stands = st.stands; hand = st.hand })
    where
      view : (x : Knows) → get_elem? (after_operation k (hall_at k r) m.made.pass v split).views m.made.pass ≡ some x → dealt v ≡ x
      view x e =
          let vs : List Knows = (hall_at k r).views in
          some-injective (dealt v) x (sym (at_longer (set vs m.made.pass (dealt v)) (fresh v ∷ []) m.made.pass (dealt v) (set_here vs m.made.pass (dealt v) (there vs m.made.pass v v live.pass).0)) ∙ e)

  pub join_own : (other : ℕ) (w : Knows) → Is (join other w) → Own
  join_own other w is = own_by (join other w) (merged v w) is view (λ j below. stands_away k r' (merged v w) j (both_away j v.calls w.calls (free_away k r a m.made.pass j v live below empty) (free_away k r a other j w its below may.3)) (λ l h. empty.locks j l h))
    where
      may : MayDo k (hall_at k r) m.made.pass v (join other w)
      may = may_do k r m (join other w) is

      empty : IsFree v
      empty = may.4 r.lined

      its : Live k r other w
      its = record { pass = may.0; live = may.1 }

      view : (x : Knows) → get_elem? (after_operation k (hall_at k r) m.made.pass v (join other w)).views m.made.pass ≡ some x → merged v w ≡ x
      view x e =
          let vs : List Knows = (hall_at k r).views in
          view_own vs m.made.pass (merged v w) x (sym (set_else (set vs m.made.pass (merged v w)) other m.made.pass gone (λ z. may.2 (sym z))) ∙ e)

  pub join_covered : (other : ℕ) (w : Knows) → Is (join other w) → Covered
  join_covered other w is = covers.join_covered k r a m other w is (λ i below. (still i below (ap (concerns i) is)).0)

  -- ---- the history

  -- the machine writes the block that was sealed
  pub block_is : (stamp : ℕ) (b : Block) (q : PackageView) → Is (commit stamp b q) → (written_at k r').history ≡ (written_at k r).history ++ sealed_block stamp v.worker b ∷ []
  block_is stamp b q is = commits.history_is k r a m stamp b q is

  pub unwritten : ((stamp : ℕ) (b : Block) (q : PackageView) → m.made.operation ≢ commit stamp b q) → (written_at k r').history ≡ (written_at k r).history
  unwritten never = after_any (λ next h. h ≡ (written_at k r).history) refl
      (λ u word q is. history_of_claim k (core_at k r) (written_at k r) v.worker u (place_of word))
      (λ i l is. history_of_take k.image.value (written_at k r) v.worker i _)
      (λ stamp b q is. absurd (never stamp b q is))
      (λ q place is. history_of_put k.image.value (written_at k r) v.worker q.context.thread place)

  pub written_commit : (stamp : ℕ) (b : Block) (q : PackageView) → Is (commit stamp b q) → IsWrittenSo k r'
  written_commit stamp b q is = written_so k r' (block_is stamp b q is ∙ (ap (λ (h : List Block). h ++ sealed_block stamp v.worker b ∷ []) a.written.sealed ∙ ap (λ (o : Operation). sealed_in r.order ++ sealed_by v o) (sym is)))

  pub written_else : ((stamp : ℕ) (b : Block) (q : PackageView) → m.made.operation ≢ commit stamp b q) → IsWrittenSo k r'
  written_else never = written_so k r' (unwritten never ∙ (a.written.sealed ∙ (sym (append-nil (sealed_in r.order)) ∙ ap (λ (h : List Block). sealed_in r.order ++ h) (sym (sealed_none v m.made.operation never)))))

  -- ---- the order of service

  served_by : (i : ℕ) (gone es gs us : List Turn) → entered_by i m.made.operation ≡ es → given_by i v m.made.operation ≡ gs → line_at k r' i ≡ us → entered_in i r.order ++ es ≡ gone ++ us
      → given_in i r.order ++ gs ≡ gone ++ given_first (custody_at k r' i).place (custody_at k r' i).left us → IsServed k r' i
  served_by i gone es gs us came given turns all gives = record {
    gone = gone;
    all = ap (λ (z : List Turn). entered_in i r.order ++ z) came ∙ (all ∙ ap (λ (z : List Turn). gone ++ z) (sym turns));
    given = ap (λ (z : List Turn). given_in i r.order ++ z) given ∙ (gives ∙ ap (λ (z : List Turn). gone ++ given_first (custody_at k r' i).place (custody_at k r' i).left z) (sym turns));
  }

  -- where nothing is given and none enters
  served_still : (i : ℕ) → i < locks k → entered_by i m.made.operation ≡ [] → given_by i v m.made.operation ≡ [] → line_at k r' i ≡ line_at k r i
      → given_first (custody_at k r i).place (custody_at k r i).left (line_at k r i) ≡ given_first (custody_at k r' i).place (custody_at k r' i).left (line_at k r i) → IsServed k r' i
  served_still i below came given turns same = (let s = a.served i below in served_by i s.gone [] [] (line_at k r i) came given turns (append-nil (entered_in i r.order) ∙ s.all) (append-nil (given_in i r.order) ∙ (s.given ∙ ap (λ (z : List Turn). s.gone ++ z) same)))

  served_at : (i : ℕ) → i < locks k → entered_by i m.made.operation ≡ [] → given_by i v m.made.operation ≡ [] → line_at k r' i ≡ line_at k r i → custody_at k r' i ≡ custody_at k r i → IsServed k r' i
  served_at i below came given turns same = served_still i below came given turns (ap (λ (x : Custody). given_first x.place x.left (line_at k r i)) (sym same))

  -- who enters an empty line is not given the lock yet
  none_given : (i : ℕ) (u : Turn) → i < locks k → line_at k r i ≡ [] → given_first (custody_at k r i).place (custody_at k r i).left (u ∷ []) ≡ []
  none_given i u below none = by (custody_at k r i).place (custody_at k r i).left refl refl
    where
      by : (p : LockPlace) (left : Bool) → (custody_at k r i).place ≡ p → (custody_at k r i).left ≡ left → given_first p left (u ∷ []) ≡ []
      by place.Free left e f = refl
      by (place.Granted t) left e f = absurd (none_with i t below none e (eq-eqb t t refl))
      by (place.With t) left e f = absurd (none_with i t below none e (eq-eqb t t refl))
      by (place.Loose w) true e f = refl
      by (place.Loose w) false e f = (let g = loose_first i w e f in absurd (none_first i g.0 below none g.1))

  served_enter : (i : ℕ) (u : Turn) (e : Entered) → Is (line i (Did_enter u e)) → i < locks k → IsServed k r' i
  served_enter i u e is below =
      let s = a.served i below in
      let core = enter_core i u e is in
      let x = custody_at k r i in
      served_by i s.gone (u ∷ []) [] (line_at k r i ++ u ∷ []) (ap (entered_by i) is ∙ pick_mine i (u ∷ []) []) (ap (given_by i v) is) core.1
      (ap (λ (z : List Turn). z ++ u ∷ []) s.all ∙ append_assoc s.gone (line_at k r i) (u ∷ []))
      (append-nil (given_in i r.order) ∙ (s.given ∙ ap (λ (z : List Turn). s.gone ++ z) (given_more x.place x.left (line_at k r i) u (none_given i u below) ∙ ap (λ (y : Custody). given_first y.place y.left (line_at k r i ++ u ∷ [])) (sym core.0))))

  served_leave : (i : ℕ) (u : Turn) → Is (line i (Did_leave u Left)) → i < locks k → IsServed k r' i
  served_leave i u is below =
      let s = a.served i below in
      let may = may_do k r m (line i (Did_leave u Left)) is in
      let us : List Turn = line_at k r i in
      let so = truth k r a m.made.pass v live i (loose u) below (asked k r m.made.pass v (StandsAs v i (loose u)) live.pass may.3) in
      let single : us ≡ u ∷ [] = left_is_single us (plain_at k i (hall_at k r).words).tail u (tail_found i below) (once_at k r a i below) so.2 (sym may.2.1) in
      let first : first_in us ≡ us = ap first_in single ∙ sym single in
      let was : given_in i r.order ≡ s.gone ++ us = s.given ∙ (λ j. s.gone ++ given_first (so.0 j) (so.1 j) us) ∙ ap (λ (z : List Turn). s.gone ++ z) first in
      served_by i (s.gone ++ us) [] [] [] (ap (entered_by i) is ∙ pick_mine i [] []) (ap (given_by i v) is) (leave_core i u is).1
      (append-nil (entered_in i r.order) ∙ (s.all ∙ sym (append-nil (s.gone ++ us))))
      (append-nil (given_in i r.order) ∙ (was ∙ (sym (append-nil (s.gone ++ us)) ∙ ap (λ (z : List Turn). (s.gone ++ us) ++ z) (sym (given_empty (custody_at k r' i).place (custody_at k r' i).left)))))

  served_take : (i : ℕ) (l : LockView) → Is (take i l) → i < locks k → IsServed k r' i
  served_take i l is below =
      let s = a.served i below in
      let may = may_do k r m (take i l) is in
      let t = asked k r m.made.pass v (TakesAs v i) live.pass may.stands in
      let us : List Turn = line_at k r i in
      let so = truth k r a m.made.pass v live i (entered t.0 None) below t.1 in
      let free : (custody_at k r i).place ≡ place.Free = home_free (core_at k r).course (custody_at k r i).place ((shown_at k r a).shown.lock i l at_home below (lock_in_slot may.slot refl)).lies in
      let was : given_in i r.order ≡ s.gone = s.given ∙ (ap (λ (p : LockPlace). s.gone ++ given_first p (custody_at k r i).left us) free ∙ append-nil s.gone) in
      served_by i s.gone [] (t.0 ∷ []) us (ap (entered_by i) is) (ap (given_by i v) is ∙ (pick_mine i (given_to (standing_of i v.calls)) [] ∙ ap given_to t.1)) (line_by i (take i l) is)
      (append-nil (entered_in i r.order) ∙ s.all)
      (ap (λ (z : List Turn). z ++ t.0 ∷ []) was ∙ ap (λ (z : List Turn). s.gone ++ z) (sym (first_one_is us t.0 so.0) ∙ ap (λ (y : Custody). given_first y.place y.left us) (sym (take_core i l t.0 is t.1).0)))

  served_pass : (t word i : ℕ) (q : PackageView) → Is (claim t word q) → place_of word ≡ Waiting i → i < locks k → IsServed k r' i
  served_pass t word i q is waits below =
      let s = a.served i below in
      let p = subst (IfWaiting v t) waits (asked k r m.made.pass v (ClaimsAs v t (place_of word)) live.pass (may_do k r m (claim t word q) is).stands).waiting in
      let so = truth k r a m.made.pass v live i (followed p.own p.behind) below p.stands in
      let us : List Turn = line_at k r i in
      let rest : List Turn = without_first us in
      let was : given_in i r.order ≡ s.gone ++ p.own ∷ [] = s.given ∙ (λ j. s.gone ++ given_first (so.0 j) (so.1 j) us) ∙ ap (λ (z : List Turn). s.gone ++ z) (first_one_is us p.own so.2) in
      served_by i (s.gone ++ p.own ∷ []) [] (p.behind ∷ []) rest (ap (entered_by i) is)
      (ap (given_by i v) is ∙ (ap (λ (z : Place). if waits_at i z then given_to (standing_of i v.calls) else []) waits ∙ (pick_mine i (given_to (standing_of i v.calls)) [] ∙ ap given_to p.stands)))
      (line_by i (claim t word q) is ∙ (ap (λ (z : Place). if waits_at i z then rest else us) waits ∙ pick_mine i rest us))
      (append-nil (entered_in i r.order) ∙ (s.all ∙ (ap (λ (z : List Turn). s.gone ++ z) (begins_with us p.own so.2) ∙ sym (append_assoc s.gone (p.own ∷ []) rest))))
      (ap (λ (z : List Turn). z ++ p.behind ∷ []) was ∙ ap (λ (z : List Turn). (s.gone ++ p.own ∷ []) ++ z) (sym (first_one_is rest p.behind (get_rest us 0 ∙ so.3)) ∙ ap (λ (y : Custody). given_first y.place y.left rest) (sym (pass_core t word i q is waits).1)))

  served_free : (l : LockView) → Is (free l) → l.number < locks k → IsServed k r' l.number
  served_free l is below =
      let f = asked k r m.made.pass v (FreesAs v l.number) live.pass (may_do k r m (free l) is).2 in
      let so = truth k r a m.made.pass v live l.number (closed f.0) below f.1 in
      let us : List Turn = line_at k r l.number in
      served_still l.number below (ap (entered_by l.number) is) (ap (given_by l.number v) is) (line_by l.number (free l) is)
      ((λ j. given_first (so.0 j) (so.1 j) us) ∙ ap (λ (y : Custody). given_first y.place y.left us) (sym (free_core l is)))

  served_commit : (stamp i : ℕ) (b : Block) (q : PackageView) → Is (commit stamp b q) → i < locks k → IsServed k r' i
  served_commit stamp i b q is below = by (has b.held i) refl
    where
      by : (z : Bool) → has b.held i ≡ z → IsServed k r' i
      by true e = served_still i below (ap (entered_by i) is) (ap (given_by i v) is) (line_by i (commit stamp b q) is) (commits.given_still k r a m stamp b q is i below e)
      by false e = served_at i below (ap (entered_by i) is) (ap (given_by i v) is) (line_by i (commit stamp b q) is) (commit_still stamp i b q is below e)

  pub served_on : (i : ℕ) → i < locks k → IsServed k r' i
  served_on i below = by m.made.operation refl
    where
      elsewhere : (o : Operation) → Is o → concerns i o ≡ false → IsServed k r' i
      elsewhere o is out = (let s = still i below (ap (concerns i) is ∙ out) in served_at i below (ap (entered_by i) is ∙ entered_else i o out) (ap (given_by i v) is ∙ given_else i v o out) s.1 s.0)

      quiet : (c : QueueCall) → Is (line i c) → entered_by i (line i c) ≡ [] → queue_past c (line_at k r i) ≡ line_at k r i → steps_of k (core_at k r) v (line i c) ≡ [] → IsServed k r' i
      quiet c is none turns steps = served_at i below (ap (entered_by i) is ∙ none) (ap (given_by i v) is) (line_by i (line i c) is ∙ (pick_mine i (queue_past c (line_at k r i)) (line_at k r i) ∙ turns)) (custody_by i [] (is_steps (line i c) is ∙ steps))

      here : (c : QueueCall) → Is (line i c) → IsServed k r' i
      here (Did_enter u e) is = served_enter i u e is below
      here (Did_link b u) is = quiet (Did_link b u) is (pick_mine i [] []) refl refl
      here (Did_ask u x) is = quiet (Did_ask u x) is (pick_mine i [] []) refl refl
      here (Did_leave u Left) is = served_leave i u is below
      here (Did_leave u (Followed tail)) is = quiet (Did_leave u (Followed tail)) is (pick_mine i [] []) refl refl

      at_lock : (t word : ℕ) (q : PackageView) → Is (claim t word q) → (p : Place) → place_of word ≡ p → IsServed k r' i
      at_lock t word q is (Waiting j) e = dite (ℕ_discrete j i)
          (λ (same : j ≡ i). served_pass t word i q is (e ∙ ap (λ (z : ℕ). Waiting z) same) below)
          (λ (ne : j ≢ i). elsewhere (claim t word q) is (ap (waits_at i) e ∙ ne_eqb j i ne))
      at_lock t word q is Ready e = elsewhere (claim t word q) is (ap (waits_at i) e)
      at_lock t word q is Parked e = elsewhere (claim t word q) is (ap (waits_at i) e)
      at_lock t word q is Done e = elsewhere (claim t word q) is (ap (waits_at i) e)

      by : (o : Operation) → Is o → IsServed k r' i
      by (line j c) is = dite (ℕ_discrete j i)
          (λ (same : j ≡ i). here c (is ∙ ap (λ (z : ℕ). line z c) same))
          (λ (ne : j ≢ i). elsewhere (line j c) is (ne_eqb j i ne))
      by (claim t word q) is = at_lock t word q is (place_of word) refl
      by (take j l) is = dite (ℕ_discrete j i)
          (λ (same : j ≡ i). served_take i l (is ∙ ap (λ (z : ℕ). take z l) same) below)
          (λ (ne : j ≢ i). elsewhere (take j l) is (ne_eqb j i ne))
      by (free l) is = dite (ℕ_discrete l.number i)
          (λ (same : l.number ≡ i). subst (IsServed k r') same (served_free l is (subst (λ (z : ℕ). z < locks k) (sym same) below)))
          (λ (ne : l.number ≢ i). elsewhere (free l) is (ne_eqb l.number i ne))
      by (commit stamp b q) is = served_commit stamp i b q is below
      by (put q place) is = elsewhere (put q place) is refl
      by (miss word wanted found) is = elsewhere (miss word wanted found) is refl
      by (look t found) is = elsewhere (look t found) is refl
      by stop is = elsewhere stop is refl
      by (stopped found) is = elsewhere (stopped found) is refl
      by (reach slot) is = elsewhere (reach slot) is refl
      by (lay slot) is = elsewhere (lay slot) is refl
      by split is = elsewhere split is refl
      by (join other w) is = elsewhere (join other w) is refl
