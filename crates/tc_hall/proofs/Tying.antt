-- Each operation but `commit` ties to its events.
use Rattle.std.proofs.Common.{◌≡◌, ◌≢◌, ℕ, ◌+◌, ◌<◌, ◌≤◌, ◌==◌, Bool, true, false, List, length, set, sym, refl, ap, ◌∙◌, subst, arith, Some, None, slice_index, get_or-set_other, ⊎_elim, Option, []}
use Rattle.tc_hall.proofs.Vocabulary.{AreEnabled, At, Cargo, Core, Custody, Done, Event, Gets, Granted, Hall, Has, HasLock, Homes, IsShown, KeptHall, Knows, LockPlace, Line, LockView, Loose, QueueCall, MayClaim, MayFill, MayFree, Operation, PackageView, Parked, Place, Ready, STOP, Shows, Stop, HallTerms, Thread, ThreadPlace, Waiting, after, after_claim, after_events, after_operation, after_take}
use Rattle.tc_hall.proofs.Vocabulary.{as_place, at_home, bare, claim, claim_effect, code_of, dealt, free, fresh, get_elem?, gone, in_hand, is_claimable, is_loose, is_running, join, kept, last_end, lies_at, lies_with, lock_in_slot, lock_with_pass, locked_in, locks, machine_limits, merged, outline, packed, place_shown, put, put_effect, runs, slot_word, some, split, stop, take, IsClaimable}
use Rattle.tc_hall.proofs.Vocabulary.{thread_in, threads, with_call, with_custody, with_pass, with_place}
use Rattle.std.specs.Cmp.Derive.{both_true}
use Rattle.std.specs.Prelude.{nat_lt, is_some, not}
use Rattle.std.proofs.lemmas.Bool.{lt-ltb}
use lib.Seq.{set-get_or}
use Rattle.atomic_table.proofs.Lists.{set_here, at_set}
use Rattle.tc_core.specs.Core.{is_waiting, is_slept, is_free_lock}
use Rattle.tc_core.specs.Events.{is_enabled, effect, passed_to, taken_by, freed}
use Rattle.tc_core.specs.declared.event.Event.TheVariants.{Finish, Claim}
use Rattle.tc_core.specs.declared.place.ThreadPlace.TheVariants as at
use Rattle.tc_hall.specs.Ties.{may_come, at_worker, loose_at, IsLooseIn, CanPass, AreInside, IsOf, AreAsked, alone, adopted, granted}
use Rattle.tc_hall.proofs.Shows.{shown_at, shown_code, shown_origin, lies_put, lies_low, same_hand, claim_shown, put_shown, take_shown, free_shown, HadOut, had_same, had_more, had_less, still_shown}
use Rattle.tc_hall.proofs.Outlines.{at_self, loose_self, with_lies, else_lies, home_free, Arrives, arrives, arrives_then, arrives_with, is_moved, custody_here, custody_else, all_come, others_come}
use Rattle.tc_hall.proofs.Moves.{AtHome, at_home_of, gets, is_out}
use Rattle.tc_hall.proofs.Outs.{has_out, lock_out}
use Rattle.tc_hall.proofs.Cases.{same_out, none_of}
use Rattle.tc_hall.proofs.Making.{clean_free, gone_free}
use Rattle.tc_hall.proofs.Telling.{code_low}
use Rattle.tc_hall.proofs.Taking.{lock_at_home, is_lock_out}
use Rattle.tc_hall.specs.declared.place.Origin.{Origin}
use Rattle.tc_hall.specs.declared.place.Origin.TheVariants as origin
use Rattle.tc_hall.specs.Places.{origin_code}
use mathlib.Core.Option as maybe
use Rattle.tc_hall.specs.Order.{MayTake}
use Rattle.tc_hall.proofs.Ordering.{claimable_low}
use Rattle.tc_lemmas.proofs.Tests.{eq_self}

-- a state of the hall that meets the rule, and a live pass in it
pub record Moment (k : HallTerms) : Type 0 where
  pub state : Hall
  pub rule : KeptHall k state
  pub id : ℕ
  pub view : Knows
  pub pass : get_elem? state.views id ≡ some view
  pub live : view.spent ≡ false

-- what the events of an operation ask, and what the hall shows after them
abbrev pub Asking : (k : HallTerms) → Moment k → Operation → Type 0
Asking k m o = (c : Core) (es : List Event) → Shows k m.state c → IsOf k m.state c m.view o es → AreAsked k c m.view o es

abbrev pub Showing : (k : HallTerms) → Moment k → Operation → Type 0
Showing k m o = (c : Core) (es : List Event) → Shows k m.state c → IsOf k m.state c m.view o es → AreEnabled k.image.value (machine_limits k) c es → Shows k (after_operation k m.state m.id m.view o) (after_events k c es)

-- of events that are these
after_these : (k : HallTerms) (s' : Hall) (c : Core) (es these : List Event) → es ≡ these → Shows k s' (after_events k c these) → Shows k s' (after_events k c es)
after_these k s' c es these same shows = subst (λ (z : List Event). Shows k s' (after_events k c z)) (sym same) shows

module _ (k : HallTerms) (m : Moment k) where
  abbrev s : Hall
  s = m.state

  abbrev r : KeptHall k m.state
  r = m.rule

  abbrev v : Knows
  v = m.view

  abbrev w : ℕ
  w = m.view.worker

  worker_is : nat_lt m.view.worker k.workers ≡ true
  worker_is = lt-ltb m.view.worker k.workers (m.rule.passes m.id m.view m.pass).worker

  -- a thread that is out with the pass is at its worker
  pub out_at : (c : Core) → IsShown k m.state (outline c) → (t : ℕ) → t < threads k → slice_index m.state.words (slot_word t) ≡ 512 + m.view.worker → (c.course t).place ≡ At m.view.worker
  out_at c o t below word = o.place t below ∙ (ap place_shown word ∙ shown_at m.view.worker)

  pub at_it : (c : Core) (t : ℕ) → t < threads k → (c.course t).place ≡ At m.view.worker → at_worker k c m.view.worker t ≡ true
  at_it c t below e = both_true worker_is (both_true (lt-ltb t (threads k) below) (at_self (c.course t).place m.view.worker e))

  -- a lock that the pass has out is one of the hall's
  below_lock : (lock : ℕ) (l : LockView) → HasLock m.view lock l → lock < locks k
  below_lock lock l has = (is_lock_out k m.state m.rule m.id lock m.view l m.pass has).0

  -- where it is loose, it is loose at the pass's worker
  loose_here : (c : Core) → IsShown k m.state (outline c) → (i : ℕ) (l : LockView) → HasLock m.view i l → IsLooseIn i c → (c.custody i).place ≡ Loose m.view.worker
  loose_here c o i l has loose =
      let lies = (o.lock i l (in_hand m.view.worker) (below_lock i l has) (lock_with_pass m.id m.view m.pass has refl)).lies in
      let is = loose_self (c.custody i).place loose.0 m.view.worker loose.1 in
      is ∙ ap (λ (z : ℕ). Loose z) (same_hand ((outline c).lies i) loose.0 m.view.worker (ap (lies_at c.course) is) lies)

  pub loose_it : (c : Core) → IsShown k m.state (outline c) → (i : ℕ) (l : LockView) → HasLock m.view i l → IsLooseIn i c → loose_at k c m.view.worker i ≡ true
  loose_it c o i l has loose =
      both_true worker_is (both_true (lt-ltb i (locks k) (below_lock i l has)) (ap (λ (z : LockPlace). is_loose z m.view.worker) (loose_here c o i l has loose) ∙ eq_self m.view.worker))

  -- a lock that the pass has out is out with no other
  pub apart : (j i : ℕ) (x : Knows) (l l' : LockView) → j ≢ m.id → get_elem? m.state.views j ≡ some x → HasLock x i l → HasLock m.view i l' → ⊥
  apart j i x l l' ne at has mine =
      ne (same_out (m.rule.locks_placed.spot i) j m.id (m.rule.locks_placed.owned j x i l at has).0 (m.rule.locks_placed.owned m.id m.view i l' m.pass mine).0)

  -- ---- claim and adopt

  module _ (t word : ℕ) (q : PackageView) (a : MayClaim k m.state m.view t word q) where
    low : slice_index m.state.words (slot_word t) < 512
    low = (claimable_low k (slice_index m.state.words (slot_word t)) m.rule.told.limits.locks (subst (IsClaimable k) (sym a.found) a.can)).0

    at_its_home : AtHome k m.state m.rule t q
    at_its_home = at_home_of k m.state m.rule t q a.below low a.slot

    got : Gets word t q m.view (after_claim m.view word q)
    got =
        let h = at_its_home in
        subst (λ (z : PackageView × ℕ). Gets z.1 t z.0 m.view (after_claim m.view z.1 z.0)) (λ i. (h.same i, a.found i))
        (gets k m.state m.rule m.id t m.view h.stands h.home m.pass m.live a.below h.placed h.holder h.thread)

    claim_shows : (c c' : Core) → IsShown k m.state (outline c) → Arrives c c' t (At m.view.worker)
        → ((i : ℕ) → (outline c).lies i ≡ packed t → (outline c').lies i ≡ in_hand m.view.worker) × ((i : ℕ) → (outline c).lies i ≢ packed t → (outline c').lies i ≡ (outline c).lies i)
        → IsShown k (after m.state m.id (claim_effect m.view t word q)) (outline c')
    claim_shows c c' o arrive lies =
        let g = got in
        claim_shown k m.state m.id m.view m.pass (outline c) (outline c') o t word q a.below g.thread a.slot (let b = a.below in omega (arith, m.rule.words, b)) (subst (λ (z : ℕ). Has (after_claim m.view word q) z (bare q)) g.thread (has_out (after_claim m.view word q) q g.came.out)) (lock_out (after_claim m.view word q) q g.came.out)
        (is_moved c c' t (At m.view.worker) arrive) lies.0 lies.1

    rests : (c : Core) → IsShown k m.state (outline c) → lies_with (c.course t).place t ≡ packed t
    rests c o = ap (λ (z : ThreadPlace). lies_with z t) (o.place t a.below) ∙ lies_low (slice_index m.state.words (slot_word t)) t low

-- what Claim asks
claim_asks : (k : HallTerms) (m : Moment k) (t word : ℕ) (q : PackageView) (from : Origin) → MayClaim k m.state m.view t word q → slice_index m.state.words (slot_word t) ≡ origin_code from → (c : Core) → Shows k m.state c → may_come k c (Claim m.view.worker t) ≡ true
unfolding is_enabled
claim_asks k m t word q from a is c seen =
    both_true (worker_is k m) (both_true (lt-ltb t (threads k) a.below) (ap is_claimable (seen.shown.place t a.below ∙ ap place_shown is) ∙ shown_origin from))

-- the step of `adopt`, whatever the events make of the core
adopt_shows : (k : HallTerms) (m : Moment k) (t lock word : ℕ) (q : PackageView) (l : LockView) → MayClaim k m.state m.view t word q → HasLock m.view lock l → (c c' : Core) → Shows k m.state c → IsLooseIn lock c
    → Arrives c c' t (At m.view.worker) → (c'.custody lock).place ≡ Granted t → ((i : ℕ) → i ≢ lock → (c'.custody i).place ≡ (c.custody i).place) → Shows k (after m.state m.id (claim_effect m.view t word q)) c'
adopt_shows k m t lock word q l a has c c' seen loose arrive given same = record {
  between = arrive.between seen.between;
  shown = claim_shows k m t word q a c c' seen.shown arrive
      (others_come c c' t m.view.worker arrive (rests k m t word q a c seen.shown) lock (loose_here k m c seen.shown lock l has loose) given same);
}

adopt_asks : (k : HallTerms) (m : Moment k) (t lock : ℕ) (l : LockView) → t < threads k → slice_index m.state.words (slot_word t) ≡ 256 + lock → HasLock m.view lock l → (c : Core) → Shows k m.state c → IsLooseIn lock c → CanPass k m.view.worker t lock c
adopt_asks k m t lock l below word has c seen loose =
    let below_it = below_lock k m lock l has in
    let fits : 256 + lock < 512 = (let b = m.rule.told.limits.locks in omega (arith, b, below_it)) in (
      loose_it k m c seen.shown lock l has loose,
      lt-ltb t (threads k) below,
      ap (λ (z : ThreadPlace). is_waiting z lock) (seen.shown.place t below ∙ (ap place_shown word ∙ shown_code (Waiting lock) fits)) ∙ eq_self lock,
    )

-- `claim` is Claim, Adopt, or Grant and Claim
pub claim_asking : (k : HallTerms) (m : Moment k) (t word : ℕ) (q : PackageView) → MayClaim k m.state m.view t word q → Asking k m (claim t word q)
claim_asking k m t word q a c es seen (alone o) = ⊎_elim
    (λ (z : slice_index m.state.words (slot_word t) ≡ 0). claim_asks k m t word q origin.Ready a z c seen)
    (λ (z : slice_index m.state.words (slot_word t) ≡ 1). claim_asks k m t word q origin.Parked a z c seen) o
claim_asking k m t word q a c es seen (adopted lock l is has loose) = adopt_asks k m t lock l a.below is has c seen loose
claim_asking k m t word q a c es seen (granted lock l is has loose) = adopt_asks k m t lock l a.below is has c seen loose

pub claim_showing : (k : HallTerms) (m : Moment k) (t word : ℕ) (q : PackageView) → MayClaim k m.state m.view t word q → Showing k m (claim t word q)
unfolding effect
claim_showing k m t word q a c es seen (alone o) enabled =
    let c' : Core = with_place c t (At m.view.worker) in
    let arrive = arrives c t (At m.view.worker) in record {
      between = arrive.between seen.between;
      shown = claim_shows k m t word q a c c' seen.shown arrive (all_come c c' t m.view.worker arrive (rests k m t word q a c seen.shown) (λ i. refl));
    }
claim_showing k m t word q a c es seen (adopted lock l is has loose) enabled =
    let x = passed_to (c.custody lock) t ((c.custody lock).run + 1) in
    let c1 : Core = with_custody c lock x in
    adopt_shows k m t lock word q l a has c (with_place c1 t (At m.view.worker)) seen loose
    (arrives_with c lock x (with_place c1 t (At m.view.worker)) t (At m.view.worker) (arrives c1 t (At m.view.worker)))
    (ap (λ (z : Custody). z.place) (custody_here c lock lock x refl)) (λ i ne. ap (λ (z : Custody). z.place) (custody_else c lock i x ne))
claim_showing k m t word q a c es seen (granted lock l is has loose) enabled =
    let x = passed_to (c.custody lock) t 0 in
    let c1 : Core = with_custody c lock x in
    let c2 : Core = with_place c1 t at.Ready in
    let c3 : Core = with_place c2 t (At m.view.worker) in
    adopt_shows k m t lock word q l a has c c3 seen loose
    (arrives_then c c2 c3 t at.Ready (At m.view.worker) (arrives_with c lock x c2 t at.Ready (arrives c1 t at.Ready)) (arrives c2 t (At m.view.worker)))
    (ap (λ (z : Custody). z.place) (custody_here c lock lock x refl)) (λ i ne. ap (λ (z : Custody). z.place) (custody_else c lock i x ne))

-- ---- put

module _ (k : HallTerms) (m : Moment k) (place : Place) (q : PackageView) (a : MayFill k m.view q place) where
  abbrev t : ℕ
  t = q.context.thread

  -- where it is out
  its_place : (q.context.thread < threads k) × (slice_index m.state.words (slot_word q.context.thread) ≡ 512 + m.view.worker)
  its_place = let o = is_out k m.state m.rule m.id q.context.thread m.view (bare q) m.pass a.may.has in (o.0, o.3)

  put_low : code_of place < 512
  put_low = code_low (locks k) place a.range m.rule.told.limits.locks

  none_else : (j i : ℕ) (x : Knows) (l : LockView) → j ≢ m.id → get_elem? m.state.views j ≡ some x → HasLock x i l → locked_in q i ≡ None
  none_else j i x l ne at' has = none_of (locked_in q i) (λ n e. apart k m j i x l (kept n) ne at' has (a.may.locks i n e))

  put_shows : (c : Core) → Shows k m.state c → AreInside k q c → Shows k (after m.state m.id (put_effect m.view q place)) (with_place c q.context.thread (as_place place))
  put_shows c seen inside =
      let c' : Core = with_place c q.context.thread (as_place place) in
      let arrive = arrives c q.context.thread (as_place place) in
      record {
        between = arrive.between seen.between;
        shown = put_shown k m.state m.id m.view m.pass (outline c) (outline c') seen.shown q place its_place.0 put_low (let b = its_place.0 in omega (arith, m.rule.words, b)) a.may.has a.may.locks none_else
            (is_moved c c' q.context.thread (as_place place) arrive)
            (λ i l below e. with_lies c'.course (c.custody i).place q.context.thread (inside i below ∙ ap is_some e) ∙ (ap (λ (z : ThreadPlace). lies_with z q.context.thread) arrive.here ∙ lies_put place q.context.thread))
            (λ i below e. else_lies c.course c'.course (c.custody i).place q.context.thread arrive.others (inside i below ∙ ap is_some e));
      }

  at_its_worker : (c : Core) → Shows k m.state c → at_worker k c m.view.worker q.context.thread ≡ true
  at_its_worker c seen = at_it k m c q.context.thread its_place.0 (out_at k m c seen.shown q.context.thread its_place.0 its_place.1)

  -- the core has its thread, and the end of its last block
  its_thread : (c : Core) → Shows k m.state c → c.machine.threads q.context.thread ≡ thread_in q.context
  its_thread c seen = (seen.shown.thread q.context.thread (bare q) its_place.0 (with_pass m.id m.view m.pass a.may.has)).thread

  its_last : (c : Core) → Shows k m.state c → (c.course q.context.thread).last ≡ last_end q.log
  its_last c seen = (seen.shown.thread q.context.thread (bare q) its_place.0 (with_pass m.id m.view m.pass a.may.has)).last

  it_runs : (c : Core) (b : Bool) → Shows k m.state c → is_running q.context.guest.status ≡ b → runs c q.context.thread ≡ b
  it_runs c b seen e = ap (λ (z : Thread). is_running z.status) (its_thread c seen) ∙ e

finishes : (k : HallTerms) (m : Moment k) (t : ℕ) (c : Core) → at_worker k c m.view.worker t ≡ true → runs c t ≡ false → (c.course t).turns ≡ 0 → may_come k c (Finish m.view.worker t) ≡ true
unfolding is_enabled
finishes k m t c here ended between = both_true here (both_true (ap not ended) (ap (λ (z : ℕ). z == 0) between))

-- `put` is HandBack, Ship, Park or Finish, by its place
pub put_asking : (k : HallTerms) (m : Moment k) (q : PackageView) (place : Place) → MayFill k m.view q place → Asking k m (put q place)
put_asking k m q Ready a c es seen is = subst (AreAsked k c m.view (put q Ready)) (sym is.1) (at_its_worker k m Ready q a c seen, it_runs k m Ready q a c true seen (a.may.order.runs (λ e. omega arith)))
put_asking k m q (Waiting lock) a c es seen is =
    subst (AreAsked k c m.view (put q (Waiting lock))) (sym is.1) (at_its_worker k m (Waiting lock) q a c seen, lt-ltb lock (locks k) a.range)
put_asking k m q Parked a c es seen is =
    subst (AreAsked k c m.view (put q Parked)) (sym is.2)
    (at_its_worker k m Parked q a c seen, it_runs k m Parked q a c true seen (a.may.order.runs (λ e. omega arith)), ap is_slept (its_last k m Parked q a c seen ∙ is.1))
put_asking k m q Done a c es seen is =
    subst (AreAsked k c m.view (put q Done)) (sym is.1)
    (finishes k m q.context.thread c (at_its_worker k m Done q a c seen) (it_runs k m Done q a c false seen (a.may.order.ended refl).0) (seen.between q.context.thread).0)

pub put_showing : (k : HallTerms) (m : Moment k) (q : PackageView) (place : Place) → MayFill k m.view q place → Showing k m (put q place)
unfolding effect
put_showing k m q Ready a c es seen is enabled = after_these k _ c es _ is.1 (put_shows k m Ready q a c seen is.0)
put_showing k m q (Waiting lock) a c es seen is enabled = after_these k _ c es _ is.1 (put_shows k m (Waiting lock) q a c seen is.0)
put_showing k m q Parked a c es seen is enabled = after_these k _ c es _ is.2 (put_shows k m Parked q a c seen is.0)
put_showing k m q Done a c es seen is enabled = after_these k _ c es _ is.1 (put_shows k m Done q a c seen is.0)

-- ---- take and free

-- `take` for a thread that is at the worker is Take
module _ (k : HallTerms) (m : Moment k) (i : ℕ) (l : LockView) (a : MayTake k m.state m.view i l) where
  pub take_asking : Asking k m (take i l)
  take_asking c es seen is = subst (AreAsked k c m.view (take i l)) (sym is.3) (
    at_it k m c is.0 is.1 (out_at k m c seen.shown is.0 is.1 is.2),
    lt-ltb i (locks k) a.below,
    ap is_free_lock (home_free c.course (c.custody i).place (seen.shown.lock i l at_home a.below (lock_in_slot a.slot refl)).lies),
  )

  pub take_showing : Showing k m (take i l)
  unfolding effect
  take_showing c es seen is enabled =
      let h = lock_at_home k m.state m.rule i l a.below a.word a.slot in
      let number : l.number ≡ i = ap (λ (z : LockView). z.number) (sym h.same) ∙ h.number in
      let has : HasLock (after_take m.view l) i (kept l) = subst (λ (z : ℕ). get_elem? (set m.view.locks z (Some (kept l))) i ≡ some (Some (kept l))) (sym number) (set_here m.view.locks i (Some (kept l)) (let b = a.below in let c = m.rule.locks_placed.sized m.id m.view m.pass m.live in omega arith)) in
      let x = taken_by (c.custody i) is.0 in
      let c' : Core = with_custody c i x in
      after_these k _ c es _ is.3 record {
        between = seen.between;
        shown = take_shown k m.state m.id m.view m.pass (outline c) (outline c') seen.shown i l a.below number a.slot has
            (record { thread = λ u. refl; last = λ u. refl; lock = λ j. refl }) (λ u. refl)
            (ap (λ (z : Custody). lies_at c.course z.place) (custody_here c i i x refl) ∙ ap (λ (z : ThreadPlace). lies_with z is.0) (out_at k m c seen.shown is.0 is.1 is.2))
            (λ j ne. ap (λ (z : Custody). lies_at c.course z.place) (custody_else c i j x ne));
      }

-- `free` is Free
module _ (k : HallTerms) (m : Moment k) (l : LockView) (may : MayFree m.view l) where
  below : l.number < locks k
  below = below_lock k m l.number (kept l) may.has

  pub free_asking : Asking k m (free l)
  free_asking c es seen is =
      subst (AreAsked k c m.view (free l)) (sym is.1) (loose_it k m c seen.shown l.number (kept l) may.has is.0)

  pub free_showing : Showing k m (free l)
  unfolding effect
  free_showing c es seen is enabled =
      let x = freed (c.custody l.number) in
      let c' : Core = with_custody c l.number x in
      after_these k _ c es _ is.1 record {
        between = seen.between;
        shown = free_shown k m.state m.id m.view m.pass (outline c) (outline c') seen.shown l below may.has (λ j y n ne at' has. apart k m j l.number y n (kept l) ne at' has may.has)
            (record { thread = λ u. refl; last = λ u. refl; lock = λ j. refl }) (λ u. refl)
            (ap (λ (z : Custody). lies_at c.course z.place) (custody_here c l.number l.number x refl))
            (λ j ne. ap (λ (z : Custody). lies_at c.course z.place) (custody_else c l.number j x ne));
      }

-- ---- operations with no event

module _ (k : HallTerms) (m : Moment k) (c : Core) (es : List Event) (seen : Shows k m.state c) (is : es ≡ []) where
  -- where no word of a thread changes, no slot has more in it and no view has more out, the core is shown still
  unmoved : (ws' : List ℕ) (hs' : Homes) (vs' : List Knows) → ((u : ℕ) → u < threads k → slice_index ws' (slot_word u) ≡ slice_index m.state.words (slot_word u))
      → ((u : ℕ) (x : Cargo) → get_elem? hs' u ≡ some (some (Some x)) → get_elem? m.state.homes u ≡ some (some (Some x))) → HadOut m.state.views vs' → Shows k record { words = ws'; homes = hs'; views = vs' } (after_events k c es)
  unmoved ws' hs' vs' words homes had = after_these k _ c es [] is record {
    between = seen.between;
    shown = still_shown k m.state.words ws' m.state.homes hs' m.state.views vs' words homes had (outline c) seen.shown;
  }

  -- a word is found and left
  pub found_shown : (word found : ℕ) (w : Knows) → slice_index m.state.words word ≡ found → w.packages ≡ m.view.packages → w.locks ≡ m.view.locks → w.worker ≡ m.view.worker
      → Shows k record { words = set m.state.words word found; homes = m.state.homes; views = set m.state.views m.id w } (after_events k c es)
  found_shown word found w e packages locks' worker =
      unmoved _ _ _ (λ u b. ap (λ (z : List ℕ). slice_index z (slot_word u)) (ap (set m.state.words word) (sym e) ∙ set-get_or m.state.words word 0)) (λ u x f. f) (had_same m.state.views m.id m.view w m.pass packages locks' worker)

  pub stop_shown : Shows k (after_operation k m.state m.id m.view stop) (after_events k c es)
  stop_shown = unmoved _ _ _ (λ u b. get_or-set_other m.state.words STOP (slot_word u) 1 0 (λ z. omega arith)) (λ u x f. f) (had_same m.state.views m.id m.view (with_call m.view Stop) m.pass refl refl refl)

  -- a word behind those of the slots changes
  pub line_shown : (i word left : ℕ) (d : QueueCall) → slot_word (threads k + locks k) ≤ word
      → Shows k record { words = set m.state.words word left; homes = m.state.homes; views = set m.state.views m.id (with_call m.view (Line i d)) } (after_events k c es)
  line_shown i word left d behind = unmoved _ _ _ (λ u b. get_or-set_other m.state.words word (slot_word u) left 0 (λ z. omega arith)) (λ u x f. f) (had_same m.state.views m.id m.view (with_call m.view (Line i d)) m.pass refl refl refl)

  -- an empty slot goes into the pass's hand, or back, and the word stays
  pub slot_moved : (slot : ℕ) (b : maybe.Option (Option Cargo)) (o : Option ℕ) → ((x : Cargo) → b ≢ some (Some x))
      → Shows k record { words = set m.state.words (slot_word slot) (slice_index m.state.words (slot_word slot)); homes = set m.state.homes slot b; views = set m.state.views m.id (record m.view { open_slot = o }) } (after_events k c es)
  slot_moved slot b o empty =
      unmoved _ _ _ (λ u b. ap (λ (z : List ℕ). slice_index z (slot_word u)) (set-get_or m.state.words (slot_word slot) 0))
      (λ u x e. ⊎_elim (λ (z : (u ≡ slot) × (b ≡ some (Some x))). absurd (empty x z.1)) (λ (z : (u ≢ slot) × (get_elem? m.state.homes u ≡ some (some (Some x)))). z.1) (at_set m.state.homes slot u b (some (Some x)) e))
      (had_same m.state.views m.id m.view (record m.view { open_slot = o }) m.pass refl refl refl)

  pub split_shown : Shows k (after_operation k m.state m.id m.view split) (after_events k c es)
  split_shown = unmoved _ _ _ (λ u b. refl) (λ u x f. f)
      (had_more m.state.views (set m.state.views m.id (dealt m.view)) (fresh m.view) (had_same m.state.views m.id m.view (dealt m.view) m.pass refl refl refl)
      (clean_free m.view.image (length m.view.packages) (length m.view.locks) m.view.made false))

  pub join_shown : (other : ℕ) (w : Knows) → Shows k (after_operation k m.state m.id m.view (join other w)) (after_events k c es)
  join_shown other w = unmoved _ _ _ (λ u b. refl) (λ u x f. f)
      (had_less m.state.views (set m.state.views m.id (merged m.view w)) other gone (had_same m.state.views m.id m.view (merged m.view w) m.pass refl refl refl) gone_free)
