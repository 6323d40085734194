-- A hall's order with the events of the lines is one list of events, by the tie of each step.
use Rattle.std.proofs.Common.{◌≡◌, ℕ, zero, suc, ◌+◌, ◌-◌, ◌<◌, ◌≤◌, Bool, true, false, ◌==◌, List, [], ◌∷◌, ◌++◌, replicate, not, sym, refl, ap, ◌∙◌, subst, arith, Option, Some, None, slice_index, if◌then◌else◌, eqb-true}
use Rattle.tc_hall.proofs.Vocabulary.{AreEnabled, AreStocked, Cargo, Core, Custody, Event, Hall, IsFree, IsOpening, IsOrdered, KeptHall, Knows, Lock, LockAt, LockView, Look, Lying, MAX_GUARDS, MayDo, Operation, Package, PackageAt, PackageView, Ready, STOP, Shows, ShowsLock, ShowsThread, Stopped, HallTerms, after_events, after_miss, after_operation, claim, commit, free, get_elem?, in_slot, join}
use Rattle.tc_hall.proofs.Vocabulary.{last_end, lay, line, line_word, words_of, lies_at, lock_in_package, lock_in_slot, lock_of, lock_with_pass, locked_in, locks, look, machine_limits, miss, none, opening, outline, place_shown, put, reach, slot_word, some, some-injective, some-ne-none, split, starting, stop, stopped, take, threads, with_call, with_custody, with_pass}
use Rattle.std.specs.Cmp.Derive.{both_true}
use Rattle.std.specs.Prelude.{nat_lt}
use Rattle.std.proofs.lemmas.Bool.{lt-ltb}
use Rattle.std.proofs.lemmas.List.{get_or-replicate}
use Rattle.atomic_table.proofs.Lists.{at_map}
use Rattle.tc_turn.specs.Turn.{thread_at_start, no_thread}
use Rattle.tc_turn.proofs.Turns.{next_known}
use Rattle.tc_core.specs.Core.{is_number}
use Rattle.tc_core.specs.Events.{is_enabled, effect, entered, left_by_all}
use Rattle.tc_core.specs.declared.event.Event.TheVariants.{Enter, Leave}
use Rattle.tc_hall.specs.Lift.{Beat, operation, enter, leave, events_of, hall_of, start_of, core_after, LinesAllow, IsAtLock, HasLoose, MayLift, OpensShown, IsLifted, Lifts}
use Rattle.tc_hall.specs.Order.{IsThreadWord, put_at, out_with}
use Rattle.tc_hall.proofs.Ordering.{kept_after, kept_of, next}
use Rattle.tc_hall.proofs.Exact.{exact_words}
use Rattle.tc_hall.proofs.Telling.{code_low}
use Rattle.tc_hall.proofs.Taking.{has_live}
use Rattle.tc_hall.proofs.Shows.{shown_at, shown_code}
use Rattle.tc_hall.proofs.Making.{clean_free}
use Rattle.tc_hall.proofs.Cases.{clash, clash_at, same_package, same_lock}
use Rattle.tc_hall.proofs.Outlines.{at_self}
use Rattle.tc_hall.proofs.Words.{line_behind}
use Rattle.tc_hall.proofs.Tying.{line_shown, Moment, Asking, Showing, loose_it, claim_asking, claim_showing, put_asking, put_showing, take_asking, take_showing, free_asking, free_showing, found_shown, stop_shown, slot_moved, split_shown, join_shown}
use Rattle.tc_hall.proofs.Committing.{commit_asking, commit_showing}
use Rattle.tc_hall.proofs.Allowing.{allowed}
use Rattle.tc_hall.specs.Ties.{may_come, loose_at, IsOf, AreAsked, Ties}
use Rattle.tc_lemmas.proofs.Tests.{eq_self}

after_more : (k : HallTerms) (c : Core) (xs ys : List Event) → after_events k c (xs ++ ys) ≡ after_events k (after_events k c xs) ys
after_more k c [] ys = refl
after_more k c (x ∷ xs) ys = after_more k (effect k.image.value c x) xs ys

enabled_more : (k : HallTerms) (c : Core) (xs ys : List Event) → AreEnabled k.image.value (machine_limits k) c xs → AreEnabled k.image.value (machine_limits k) (after_events k c xs) ys → AreEnabled k.image.value (machine_limits k) c (xs ++ ys)
enabled_more k c [] ys a b = b
enabled_more k c (x ∷ xs) ys a b = (a.0, enabled_more k (effect k.image.value c x) xs ys a.1 b)

-- a lock's line changes, and neither where it is nor anything else
custody_shown : (k : HallTerms) (s : Hall) (c : Core) (lock : ℕ) (x : Custody) → x.place ≡ (c.custody lock).place → Shows k s c → Shows k s (with_custody c lock x)
custody_shown k s c lock x same seen = record {
  between = seen.between;
  shown = record {
    place = seen.shown.place;
    thread = λ t p below at. (let was = seen.shown.thread t p below at in record { thread = was.thread; last = was.last });
    lock = λ i l y below at. (let was = seen.shown.lock i l y below at in record { lock = was.lock; lies = lies i ∙ was.lies });
  };
}
  where
    lies : (i : ℕ) → (outline (with_custody c lock x)).lies i ≡ (outline c).lies i
    lies i = by (i == lock) refl
      where
        by : (b : Bool) → (i == lock) ≡ b → (outline (with_custody c lock x)).lies i ≡ (outline c).lies i
        by true e = ap (λ (z : Custody). lies_at c.course z.place) (ap (λ (z : Bool). if z then x else c.custody i) e) ∙ (ap (lies_at c.course) same ∙ ap (λ (z : ℕ). lies_at c.course (c.custody z).place) (sym (eqb-true i lock e)))
        by false e = ap (λ (z : Custody). lies_at c.course z.place) (ap (λ (z : Bool). if z then x else c.custody i) e)

entered_shown : (k : HallTerms) (s : Hall) (c : Core) (w t lock : ℕ) → Shows k s c → Shows k s (effect k.image.value c (Enter w t lock))
unfolding effect
entered_shown k s c w t lock seen = custody_shown k s c lock (entered (c.custody lock) t) refl seen

left_shown : (k : HallTerms) (s : Hall) (c : Core) (w lock : ℕ) → Shows k s c → Shows k s (effect k.image.value c (Leave w lock))
unfolding effect
left_shown k s c w lock seen = custody_shown k s c lock (left_by_all (c.custody lock)) refl seen

-- ---- the tie of each operation

module _ (k : HallTerms) (m : Moment k) where
  -- an operation that is no event
  quiet : (o : Operation) → ((c : Core) → AreAsked k c m.view o []) → ((c : Core) (es : List Event) → IsOf k m.state c m.view o es → es ≡ []) → ((c : Core) (es : List Event) → Shows k m.state c → es ≡ [] → Shows k (after_operation k m.state m.id m.view o) (after_events k c es))
      → Asking k m o × Showing k m o
  quiet o nothing is shows = ((λ c es seen of. subst (AreAsked k c m.view o) (sym (is c es of)) (nothing c)), (λ c es seen of enabled. shows c es seen (is c es of)))

  tied : (o : Operation) → MayDo k m.state m.id m.view o → Asking k m o × Showing k m o
  tied (claim t word q) may = (claim_asking k m t word q may, claim_showing k m t word q may)
  tied (take i l) may = (take_asking k m i l may, take_showing k m i l may)
  tied (commit stamp b q) may = (commit_asking k m q may.1 stamp b may.2, commit_showing k m q may.1 stamp b may.2)
  tied (put q place) may = (put_asking k m q place may, put_showing k m q place may)
  tied (free l) may = (free_asking k m l may.1, free_showing k m l may.1)
  tied (miss word wanted found) may = quiet (miss word wanted found) (λ c. tt) (λ c es is. is) (λ c es seen is. found_shown k m c es seen is word found (after_miss m.view word found) may.0 refl refl refl)
  tied (look t found) may = quiet (look t found) (λ c. tt) (λ c es is. is) (λ c es seen is. found_shown k m c es seen is (slot_word t) found (with_call m.view (Look t found)) may.1 refl refl refl)
  tied stop may = quiet stop (λ c. tt) (λ c es is. is) (λ c es seen is. stop_shown k m c es seen is)
  tied (stopped found) may = quiet (stopped found) (λ c. tt) (λ c es is. is) (λ c es seen is. found_shown k m c es seen is STOP found (with_call m.view (Stopped found)) may refl refl refl)
  tied (line i d) may = quiet (line i d) (λ c. tt) (λ c es is. is) (λ c es seen is. line_shown k m c es seen is i (line_word k i d) _ d (line_behind k i d))
  tied (reach slot) may = quiet (reach slot) (λ c. tt) (λ c es is. is) (λ c es seen is. slot_moved k m c es seen is slot none (Some slot) (λ x e. some-ne-none (Some x) (sym e)))
  tied (lay slot) may = quiet (lay slot) (λ c. tt) (λ c es is. is) (λ c es seen is. slot_moved k m c es seen is slot (some None) None (λ x e. clash_at (some None) x refl e))
  tied split may = quiet split (λ c. tt) (λ c es is. is) (λ c es seen is. split_shown k m c es seen is)
  tied (join other w) may = quiet (join other w) (λ c. tt) (λ c es is. is) (λ c es seen is. join_shown k m c es seen is other w)

pub ties : Ties
ties k s m rule may =
    let moment : Moment k = record { state = s; rule = rule; id = m.pass; view = m.knew; pass = may.pass; live = may.live } in
    let tie = tied k moment m.operation may.may in
    record { kept = kept_after k s rule m.pass m.knew may.pass may.live m.operation may.may; asks = tie.0; shows = tie.1 }

-- ---- the first state

module _ (k : HallTerms) (slots : List (Option Cargo)) (ready : AreStocked k.image.value (threads k) (locks k) k.fuel k.limit slots) where
  abbrev ws : List ℕ
  ws = replicate (words_of k) 0

  abbrev first : Hall
  first = opening ws slots (starting k)

  -- no pass has anything out
  none_out : (id : ℕ) (v : Knows) → get_elem? first.views id ≡ some v → IsFree v
  none_out zero v e = subst IsFree (some-injective (starting k) v e) (clean_free k.image.value (threads k) (locks k) (k.workers - 1) true)
  none_out (suc id) v e = absurd (some-ne-none v (sym e))

  opens_thread : (t : ℕ) (p : PackageView) → t < threads k → PackageAt first t p → ShowsThread (outline (start_of k)) t p
  opens_thread t p below (in_slot h) =
      let q = ready.packages t below in
      let same : q.0 ≡ p = same_package (get_elem? first.homes t) q.0 p (at_map some slots t (Some (Package q.0)) q.1) h in
      let there : nat_lt t (threads k) ≡ true = lt-ltb t (threads k) below in
      subst (ShowsThread (outline (start_of k)) t) same record {
        thread = ap (λ (z : Bool). if z then thread_at_start k.image.value k.fuel t else no_thread) there ∙ sym q.2.thread;
        last = ap last_end (sym q.2.log);
      }
  opens_thread t p below (with_pass id v at has) = absurd ((none_out id v at).packages t p has)

  opens_lock : (i : ℕ) (l : LockView) (y : Lying) → i < locks k → LockAt k first i l y → ShowsLock (outline (start_of k)) i l y
  opens_lock i l y below (lock_in_slot h is) =
      let f = ready.locks i below in
      let same : f.0 ≡ l = same_lock (get_elem? first.homes (threads k + i)) f.0 l (at_map some slots (threads k + i) (Some (Lock f.0)) f.1) h in
      record { lock = ap (λ (z : LockView). lock_of z) (sym f.2 ∙ same); lies = sym is }
  opens_lock i l y below (lock_in_package t q bt h has is) =
      let p = ready.packages t bt in
      let same : p.0 ≡ q = same_package (get_elem? first.homes t) p.0 q (at_map some slots t (Some (Package p.0)) p.1) h in
      absurd (clash (locked_in q i) l (ap (λ (z : PackageView). locked_in z i) (sym same) ∙ p.2.locks i) has)
  opens_lock i l y below (lock_with_pass id v at has is) = absurd ((none_out id v at).locks i l has)

  opens_shown : Shows k first (start_of k)
  opens_shown = record {
    between = λ t. (refl, refl);
    shown = record {
      place = λ t below. (let z : slice_index ws (slot_word t) ≡ 0 = get_or-replicate (words_of k) (slot_word t) 0 0 (omega arith) in sym (ap place_shown z ∙ shown_code Ready (omega arith)));
      thread = opens_thread;
      lock = opens_lock;
    };
  }

-- ---- the law

pub opening_shown : OpensShown
opening_shown k s begins = subst (λ (z : Hall). Shows k z (start_of k)) (sym begins.is) (opens_shown k begins.slots begins.stocked)

-- a worker with which a thread is out is one of the hall's
worker_of : (k : HallTerms) (word w : ℕ) → locks k ≤ MAX_GUARDS → IsThreadWord k word → word ≡ 512 + w → w < k.workers
worker_of k word w few (put_at place range is) e = absurd (let low = code_low (locks k) place range few in omega arith)
worker_of k word w few (out_with worker below is) e = omega arith

enter_comes : (k : HallTerms) (s : Hall) (c : Core) (w t lock : ℕ) → IsOrdered k s → Shows k s c → IsAtLock k s c w t lock → LinesAllow k c (Enter w t lock) → may_come k c (Enter w t lock) ≡ true
unfolding is_enabled
enter_comes k s c w t lock order seen at lines =
    let worker = worker_of k (slice_index s.words (slot_word t)) w (kept_of k s order).told.limits.locks ((exact_words k s order).of_threads t at.below) at.word in
    both_true (both_true (lt-ltb w k.workers worker) (both_true (lt-ltb t (threads k) at.below) (at_self (c.course t).place w (seen.shown.place t at.below ∙ (ap place_shown at.word ∙ shown_at w)))))
    (both_true (lt-ltb lock (locks k) (next_known k.image.value (c.machine.threads t) lock at.next)) (both_true at.runs (both_true (ap (λ (n : ℕ). n == 0) (seen.between t).0) (both_true (ap (λ (o : Option ℕ). is_number o lock) at.next ∙ eq_self lock) (ap not lines)))))

leave_comes : (k : HallTerms) (s : Hall) (c : Core) (w lock : ℕ) → KeptHall k s → Shows k s c → HasLoose s c w lock → LinesAllow k c (Leave w lock) → may_come k c (Leave w lock) ≡ true
unfolding is_enabled
leave_comes k s c w lock rule seen it lines =
    let moment : Moment k = record { state = s; rule = rule; id = it.id; view = it.view; pass = it.pass; live = has_live k s rule it.id lock it.view it.state it.pass it.has } in
    both_true (subst (λ (z : ℕ). loose_at k c z lock ≡ true) it.worker (loose_it k moment c seen.shown lock it.state it.has it.loose)) (both_true (ap not lines.0) lines.1)

module _ (k : HallTerms) (s : Hall) (begins : IsOpening k s) where
  -- the hall after the beats is one that its order makes
  ordered : (beats : List Beat) → MayLift k s beats → IsOrdered k (hall_of k s beats)
  ordered [] may = record { first = s; opens = begins; order = []; legal = tt; is = refl }
  ordered (operation m es ∷ before) may = next k (hall_of k s before) (ordered before may.3) m.pass m.knew m.operation may.0.pass may.0.live may.0.may
  ordered (enter w t lock ∷ before) may = ordered before may.2
  ordered (leave w lock ∷ before) may = ordered before may.2

  -- and then events that come, after which a hall shows the core
  lifted_on : (before : List Beat) (es : List Event) (h : Hall) → IsLifted k s before → AreEnabled k.image.value (machine_limits k) (core_after k before) es → Shows k h (after_events k (core_after k before) es)
      → (AreEnabled k.image.value (machine_limits k) (start_of k) (events_of before ++ es)) × (Shows k h (after_events k (start_of k) (events_of before ++ es)))
  lifted_on before es h was come shows = (enabled_more k (start_of k) (events_of before) es was.enabled come, subst (Shows k h) (sym (after_more k (start_of k) (events_of before) es)) shows)

  lifted : (beats : List Beat) → MayLift k s beats → IsLifted k s beats
  lifted [] may = record { enabled = tt; shows = opening_shown k s begins }
  lifted (operation m es ∷ before) may =
      let was = lifted before may.3 in
      let h : Hall = hall_of k s before in
      let c = core_after k before in
      let tie = ties k h m (kept_of k h (ordered before may.3)) may.0 in
      let come = allowed k h c m.knew was.shows.between m.operation es may.1 (tie.asks c es was.shows may.1) may.2 in
      let on = lifted_on before es (after_operation k h m.pass m.knew m.operation) was come (tie.shows c es was.shows may.1 come) in
      record { enabled = on.0; shows = on.1 }
  lifted (enter w t lock ∷ before) may =
      let was = lifted before may.2 in
      let h : Hall = hall_of k s before in
      let c = core_after k before in
      let on = lifted_on before (Enter w t lock ∷ []) h was (enter_comes k h c w t lock (ordered before may.2) was.shows may.0 may.1, tt) (entered_shown k h c w t lock was.shows) in
      record { enabled = on.0; shows = on.1 }
  lifted (leave w lock ∷ before) may =
      let was = lifted before may.2 in
      let h : Hall = hall_of k s before in
      let c = core_after k before in
      let on = lifted_on before (Leave w lock ∷ []) h was (leave_comes k h c w lock (kept_of k h (ordered before may.2)) was.shows may.0 may.1, tt) (left_shown k h c w lock was.shows) in
      record { enabled = on.0; shows = on.1 }

pub lifting : Lifts
lifting k s begins beats may = lifted k s begins beats may
