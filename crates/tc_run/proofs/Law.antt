-- The law: the invariant holds of each run, and says what is promised.
use Rattle.std.proofs.Common.{◌≡◌, ◌⊎◌, ⊎_elim, inl, inr, ℕ, zero, suc, ◌+◌, ◌-◌, ◌<◌, ◌==◌, arith, replicate, set, slice_index, Bool, true, false, if◌then◌else◌, List, [], ◌∷◌, ◌++◌, Option, Some, None, refl, sym, ap, ◌∙◌, subst}
use mathlib.Core.Bool.{Bool-set}
use mathlib.Core.Option as maybe
use mathlib.Core.Option.{some, some-injective, some-ne-none}
use mathlib.Core.Logic.{dite}
use native.Mathlib.Decide.{ℕ_discrete}
use lib.ListN.{get_elem?}
use Rattle.std.proofs.lemmas.List.{append-nil, append_assoc, get_or-replicate}
use Rattle.tc_journal.specs.History.{of_lock, of_thread}
use Rattle.tc_segment.specs.View.{LockView, blocks_of, fresh_state}
use Rattle.tc_context.specs.View.{IsFresh, PackageView}
use Rattle.tc_queue.specs.declared.turn.Turn.{Turn}
use Rattle.tc_queue.specs.declared.turn.Leave.TheVariants.{Left, Followed}
use Rattle.tc_queue.specs.declared.turn.QueueCall.{QueueCall}
use Rattle.tc_queue.specs.declared.turn.QueueCall.TheVariants.{Enter as Did_enter, Link as Did_link, Next as Did_ask, Leave as Did_leave}
use Rattle.tc_core.specs.declared.event.Event.{Event}
use Rattle.tc_core.specs.declared.place.LockPlace.{LockPlace}
use Rattle.tc_core.specs.declared.place.LockPlace.TheVariants.{Granted, With, Loose}
use Rattle.tc_core.specs.declared.place.LockPlace.TheVariants as place
use Rattle.tc_told.specs.Written.{first_written, write_all}
use Rattle.tc_hall.specs.declared.board.HallTerms.{HallTerms}
use Rattle.tc_hall.specs.declared.board.Knows.{Knows}
use Rattle.tc_hall.specs.declared.board.Cargo.TheVariants.{Lock, Package}
use Rattle.tc_hall.specs.declared.board.TheConstants.{CLOCK}
use Rattle.tc_hall.specs.declared.place.Place.TheVariants.{Ready, Parked, Waiting}
use Rattle.tc_hall.specs.declared.place.TheConstants.{READY, PARKED, WAITING}
use Rattle.tc_hall.specs.Places.{place_of, slot_word}
use Rattle.tc_hall.specs.Rule.{locked_in, locks, starting, threads, words_of}
use Rattle.tc_hall.specs.declared.board.PassCall.TheVariants.{Line}
use Rattle.tc_hall.specs.Standing.{entered, past}
use Rattle.tc_hall.specs.Steps.{IsFree, dealt, fresh, with_call}
use Rattle.tc_hall.specs.Outline.{Lying}
use Rattle.tc_hall.specs.Shown.{LockAt, PackageAt, in_slot, lock_in_package, lock_in_slot, lock_with_pass, with_pass}
use Rattle.tc_hall.specs.Effects.{Hall}
use Rattle.tc_hall.specs.Order.{Operation, claim, take, miss, commit, put, free, line, look, stop, stopped, reach, lay, split, join, IsLegal, IsOpening, Made, MayClaim, MayDo, after_operation}
use Rattle.tc_hall.specs.Ties.{after_events}
use Rattle.tc_hall.specs.Lift.{operation, events_of, start_of}
use Rattle.tc_hall.proofs.Cases.{clash, same_lock, same_package}
use Rattle.tc_hall.proofs.Making.{clean_free}
use Rattle.tc_hall.proofs.Telling.{place_codes}
use Rattle.atomic_table.specs.Table.{opening}
use Rattle.atomic_table.proofs.Lists.{at_longer, at_map}
use Rattle.tc_run.specs.Run.{AreFirst, RunsAsMachine, before_stop, beats_of, entered_in, events_at, events_in, given_in, has_stop, is_stop, line_beats, line_past, queue_past}
use Rattle.tc_run.proofs.Agree.{Agrees, HasCome, InSlot, IsIn, IsServed, IsWrittenSo, Live, Run, StandsTrue, Step, core_at, custody_at, first_in, given_first, hall_at, line_at, none_more, then_run, written_at}
use Rattle.tc_run.proofs.Hands.{before_legal, before_none, lifted_at, no_first, shown_at}
use Rattle.tc_run.proofs.Lifting.{lifts_on}
use Rattle.tc_run.proofs.Slots.{lies_else}
use Rattle.tc_run.proofs.After.{either}
use Rattle.tc_run.proofs.Covers as covers
use Rattle.tc_run.proofs.Moving as Moves

abbrev pub empty_run : (k : HallTerms) (first : Hall) → IsOpening k first → k.lined ≡ true → Run k
empty_run k first opens lined = record { first = first; opens = opens; order = []; legal = tt; lined = lined; unstopped = refl }

no_come : (u b : Turn) (i : ℕ) → HasCome [] i u b → ⊥
no_come u b i h = some-ne-none h.1 (sym h.2)

none_in : (u : Turn) → IsIn [] u → ⊥
none_in u h = some-ne-none u (sym h.1)

module _ (k : HallTerms) (first : Hall) (opens : IsOpening k first) (lined : k.lined ≡ true) where
  abbrev r : Run k
  r = empty_run k first opens lined

  abbrev opened : Hall
  opened = opening (replicate (words_of k) 0) opens.slots (starting k)

  one_view : (id : ℕ) (v : Knows) → get_elem? opened.views id ≡ some v → starting k ≡ v
  one_view zero v e = some-injective (starting k) v e
  one_view (suc id) v e = absurd (some-ne-none v (sym e))

  only : (id : ℕ) (v : Knows) → get_elem? first.views id ≡ some v → starting k ≡ v
  only id v e = one_view id v (sym (ap (λ (s : Hall). get_elem? s.views id) opens.is) ∙ e)

  none_out : (id : ℕ) (v : Knows) → get_elem? first.views id ≡ some v → IsFree v
  none_out id v e = subst IsFree (only id v e) (clean_free k.image.value (threads k) (locks k) (k.workers - 1) true)

  no_word : (word : ℕ) → word < words_of k → slice_index first.words word ≡ 0
  no_word word low = ap (λ (s : Hall). slice_index s.words word) opens.is ∙ get_or-replicate (words_of k) word 0 0 low

  fresh_in : (t : ℕ) (q : PackageView) → t < threads k → get_elem? first.homes t ≡ some (some (Some (Package q))) → IsFresh k.image.value t k.fuel q
  fresh_in t q below h =
      let p = opens.stocked.packages t below in
      let same : p.0 ≡ q = same_package (get_elem? opened.homes t) p.0 q (at_map some opens.slots t (Some (Package p.0)) p.1) (sym (ap (λ (s : Hall). get_elem? s.homes t) opens.is) ∙ h) in
      subst (IsFresh k.image.value t k.fuel) same p.2

  fresh_lock : (i : ℕ) (l : LockView) → i < locks k → get_elem? first.homes (threads k + i) ≡ some (some (Some (Lock l))) → l ≡ fresh_state k.image.value i k.limit
  fresh_lock i l below h =
      let f = opens.stocked.locks i below in
      let same : f.0 ≡ l = same_lock (get_elem? opened.homes (threads k + i)) f.0 l (at_map some opens.slots (threads k + i) (Some (Lock f.0)) f.1) (sym (ap (λ (s : Hall). get_elem? s.homes (threads k + i)) opens.is) ∙ h) in
      sym same ∙ f.2

  logs : (t : ℕ) (p : PackageView) → t < threads k → PackageAt first t p → p.log ≡ of_thread [] t
  logs t p below (in_slot h) = (fresh_in t p below h).log
  logs t p below (with_pass id v at has) = absurd ((none_out id v at).packages t p has)

  journals : (i : ℕ) (l : LockView) (y : Lying) → i < locks k → LockAt k first i l y → blocks_of l ≡ of_lock [] i
  journals i l y below (lock_in_slot h is) = ap blocks_of (fresh_lock i l below h)
  journals i l y below (lock_in_package t q low h has is) = absurd (clash (locked_in q i) l ((fresh_in t q low h).locks i) has)
  journals i l y below (lock_with_pass id v at has is) = absurd ((none_out id v at).locks i l has)

  -- no pass of a new hall stands anywhere
  stands_nowhere : (i : ℕ) → StandsTrue k r (starting k) i
  stands_nowhere i = record {
    so = tt;
    lock = λ e. absurd (cc e);
    stands = λ l has. absurd ((clean_free k.image.value (threads k) (locks k) (k.workers - 1) true).locks i l has);
    hand = λ t e. absurd (cc e);
  }

  pub agrees_first : Agrees k r
  agrees_first = record {
    may = tt;
    lines = λ i below. record {
      line = refl;
      tail = refl;
      links = tt;
      behind = λ u b n h at. absurd (no_come u b i h);
      known = λ u b h. absurd (no_come u b i h);
      old = λ u h. absurd (none_in u h);
      old_links = λ t l e. absurd (cc e);
    };
    counted = record {
      in_slot = λ t q below h. (fresh_in t q below h).turns;
      out = λ id t v p live has. absurd ((none_out id v live.pass).packages t p has);
    };
    passes = λ id i v live below. subst (λ (z : Knows). StandsTrue k r z i) (only id v live.pass) (stands_nowhere i);
    slots = λ t i q low below h. record {
      here = λ l e. absurd (clash (locked_in q i) l ((fresh_in t q low h).locks i) e);
      waits = λ e. absurd (let z = no_word (slot_word t) (omega arith) in omega (arith, e));
    };
    covered = λ i t below out. absurd (cc out);
    written = record { clock = no_word CLOCK (omega arith); logs = logs; journals = journals; sealed = refl };
    served = λ i below. record { gone = []; all = refl; given = refl };
  }

module _ (k : HallTerms) (r : Run k) (a : Agrees k r) (m : Step k r) where
  abbrev Is : Operation → Type 0
  Is o = m.made.operation ≡ o

  abbrev Now : List Event → Type 0
  Now es = events_in k (m.made ∷ r.order) ≡ es

  abbrev events_by : Operation → List Event
  events_by o = events_of (line_beats m.made.knew.worker o ++ operation m.made (events_at k (core_at k r) m.made.knew o) ∷ beats_of k r.order)

  -- an operation that is no event
  still_on : (o : Operation) → Is o → events_by o ≡ events_in k r.order ++ [] → ((i : ℕ) → line_past i o (line_at k r i) ≡ line_at k r i)
      → ((i : ℕ) → i < locks k → (custody_at k (then_run k r m) i ≡ custody_at k r i) × (line_at k (then_run k r m) i ≡ line_at k r i)) × ((written_at k (then_run k r m)).next ≡ (written_at k r).next)
  still_on o is none lines =
      let same : Now (events_in k r.order) = ap events_by is ∙ (none ∙ append-nil (events_in k r.order)) in (
        λ i below. (
          ap (λ (es : List Event). (after_events k (start_of k) es).custody i) same,
          ap (λ (p : Operation). line_past i p (line_at k r i)) is ∙ lines i,
        ),
        ap (λ (es : List Event). (write_all k.image.value (first_written k.image.value k.fuel) es).next) same,
      )

  slots_on : (o : Operation) → Is o → ((t : ℕ) (q : PackageView) → get_elem? (after_operation k (hall_at k r) m.made.pass m.made.knew o).homes t ≡ some (some (Some (Package q))) → InSlot k r t q)
      → (t : ℕ) (q : PackageView) → InSlot k (then_run k r m) t q → InSlot k r t q
  slots_on o is back t q h = back t q (ap (λ (p : Operation). get_elem? (after_operation k (hall_at k r) m.made.pass m.made.knew p).homes t) (sym is) ∙ h)

  -- a call that is not of the standing
  called_covered : (i : ℕ) (c : QueueCall) → Is (line i c) → events_by (line i c) ≡ events_in k r.order ++ [] → ((us : List Turn) → queue_past c us ≡ us)
      → ((j : ℕ) (u : Turn) (before : Option Turn) → past j (Line i c) (entered u before) ≡ entered u before) → Moves.Covered k r a m
  called_covered i c is none lines stays =
      let still = still_on (line i c) is none (λ j. ap (λ (us : List Turn). if i == j then us else line_at k r j) (lines (line_at k r j)) ∙ either (i == j) (line_at k r j)) in
      let w : Knows = with_call m.made.knew (Line i c) in
      covers.called_covered k r a m (line i c) w (Line i c) is (λ j below. (still.0 j below).0) (λ t. refl) (covers.here k r a m w) m.may.live refl stays

  split_covered : Is split → Moves.Covered k r a m
  split_covered is =
      let still = still_on split is refl (λ j. refl) in
      let w : Knows = dealt m.made.knew in
      covers.kept_covered k r a m split w is (λ j below. (still.0 j below).0) (λ t. refl) (at_longer (set (hall_at k r).views m.made.pass w) (fresh m.made.knew ∷ []) m.made.pass w (covers.here k r a m w)) m.may.live refl

  -- what the operation makes of standings, slots and lines
  abbrev IsMoved : Type 0
  IsMoved = Moves.Own k r a m × Moves.Others k r a m × Moves.Slots k r a m × Moves.Covered k r a m

  quiet : (o : Operation) → Is o → events_by o ≡ events_in k r.order ++ [] → ((i : ℕ) → line_past i o (line_at k r i) ≡ line_at k r i)
      → ((t : ℕ) (q : PackageView) → get_elem? (after_operation k (hall_at k r) m.made.pass m.made.knew o).homes t ≡ some (some (Some (Package q))) → InSlot k r t q)
      → Moves.Own k r a m → Moves.Covered k r a m → IsMoved
  quiet o is none lines back own covered =
      let still = still_on o is none lines in
      (own, Moves.still_others k r a m still.0 still.1, Moves.still_slots k r a m still.0 still.1 (slots_on o is back), covered)

  silent : (o : Operation) → Is o → Moves.IsQuiet o → events_by o ≡ events_in k r.order ++ [] → ((i : ℕ) → line_past i o (line_at k r i) ≡ line_at k r i)
      → ((t : ℕ) (q : PackageView) → get_elem? (after_operation k (hall_at k r) m.made.pass m.made.knew o).homes t ≡ some (some (Some (Package q))) → InSlot k r t q) → IsMoved
  silent o is small none lines back =
      let it : Moves.IsQuiet m.made.operation = subst Moves.IsQuiet (sym is) small in
      quiet o is none lines back (Moves.quiet_own k r a m it) (Moves.quiet_covered k r a m it)

  plainly : (t word : ℕ) (q : PackageView) → Is (claim t word q) → (place_of word ≡ Ready) ⊎ (place_of word ≡ Parked) → IsMoved
  plainly t word q is plain = (Moves.claim_own k r a m t word q is plain, Moves.claim_others k r a m t word q is plain, Moves.claim_slots k r a m t word q is plain, Moves.claim_covered k r a m t word q is plain)

  passing : (t word i : ℕ) (q : PackageView) → Is (claim t word q) → place_of word ≡ Waiting i → IsMoved
  passing t word i q is at = (Moves.pass_own k r a m t word i q is at, Moves.pass_others k r a m t word i q is at, Moves.pass_slots k r a m t word i q is at, Moves.pass_covered k r a m t word i q is at)

  by : (o : Operation) → Is o → IsMoved
  by (claim t word q) is =
      let may : MayClaim k (hall_at k r) m.made.knew t word q = subst (MayDo k (hall_at k r) m.made.pass m.made.knew) is m.may.may in
      ⊎_elim
      (λ (e : word ≡ READY). plainly t word q is (inl (ap place_of e ∙ place_codes Ready)))
      (⊎_elim
      (λ (e : word ≡ PARKED). plainly t word q is (inr (ap place_of e ∙ place_codes Parked)))
      (λ (z : (i : ℕ) × (i < locks k) × (word ≡ WAITING + i)). passing t word z.0 q is (ap place_of z.2 ∙ place_codes (Waiting z.0))))
      may.can
  by (take i l) is = (Moves.take_own k r a m i l is, Moves.take_others k r a m i l is, Moves.take_slots k r a m i l is, Moves.take_covered k r a m i l is)
  by (commit stamp b q) is = (Moves.commit_own k r a m stamp b q is, Moves.commit_others k r a m stamp b q is, Moves.commit_slots k r a m stamp b q is, Moves.commit_covered k r a m stamp b q is)
  by (put q place) is = (Moves.put_own k r a m q place is, Moves.put_others k r a m q place is, Moves.put_slots k r a m q place is, Moves.put_covered k r a m q place is)
  by (free l) is = (Moves.free_own k r a m l is, Moves.free_others k r a m l is, Moves.free_slots k r a m l is, Moves.free_covered k r a m l is)
  by (line i (Did_enter u e)) is = (Moves.enter_own k r a m i u e is, Moves.enter_others k r a m i u e is, Moves.enter_slots k r a m i u e is, Moves.enter_covered k r a m i u e is)
  by (line i (Did_leave u Left)) is = (Moves.leave_own k r a m i u is, Moves.leave_others k r a m i u is, Moves.leave_slots k r a m i u is, Moves.leave_covered k r a m i u is)
  by (line i (Did_leave u (Followed tail))) is = silent (line i (Did_leave u (Followed tail))) is (Moves.followed_by i u tail) refl (λ j. either (i == j) (line_at k r j)) (λ t q h. h)
  by (line i (Did_link b u)) is = quiet (line i (Did_link b u)) is refl (λ j. either (i == j) (line_at k r j)) (λ t q h. h) (Moves.link_own k r a m i b u is) (called_covered i (Did_link b u) is refl (λ us. refl) (λ j w before. either (i == j) (entered w before)))
  by (line i (Did_ask u None)) is = silent (line i (Did_ask u None)) is (Moves.unlinked i u) refl (λ j. either (i == j) (line_at k r j)) (λ t q h. h)
  by (line i (Did_ask u (Some x))) is = quiet (line i (Did_ask u (Some x))) is refl (λ j. either (i == j) (line_at k r j)) (λ t q h. h) (Moves.next_own k r a m i u x is) (called_covered i (Did_ask u (Some x)) is refl (λ us. refl) (λ j w before. either (i == j) (entered w before)))
  by (miss word wanted found) is = silent (miss word wanted found) is (Moves.missed word wanted found) refl (λ j. refl) (λ t q h. h)
  by (look t found) is = silent (look t found) is (Moves.looked t found) refl (λ j. refl) (λ t q h. h)
  by (stopped found) is = silent (stopped found) is (Moves.saw found) refl (λ j. refl) (λ t q h. h)
  by (reach slot) is = silent (reach slot) is (Moves.reached slot) refl (λ j. refl) (λ t q h. (lies_else (hall_at k r).homes slot t maybe.none q (λ e. absurd (cc e)) h).1)
  by (lay slot) is = silent (lay slot) is (Moves.laid slot) refl (λ j. refl) (λ t q h. (lies_else (hall_at k r).homes slot t (some None) q (λ e. absurd (cc e)) h).1)
  by stop is = (let n : true ≡ false = sym (ap is_stop is) ∙ m.goes in absurd (cc n))
  by split is = quiet split is refl (λ j. refl) (λ t q h. h) (Moves.split_own k r a m is) (split_covered is)
  by (join other w) is = quiet (join other w) is refl (λ j. refl) (λ t q h. h) (Moves.join_own k r a m other w is) (Moves.join_covered k r a m other w is)

  written_by : (o : Operation) → Is o → IsWrittenSo k (then_run k r m)
  written_by (commit stamp b q) is = Moves.written_commit k r a m stamp b q is
  written_by o is = Moves.written_else k r a m (λ stamp b q e. (let n : o ≡ commit stamp b q = sym is ∙ e in absurd (cc n)))

  each_pass : Moves.Own k r a m → Moves.Others k r a m → (id i : ℕ) (x : Knows) → Live k (then_run k r m) id x → i < locks k → StandsTrue k (then_run k r m) x i
  each_pass own others id i x its below =
      dite (ℕ_discrete id m.made.pass)
      (λ (same : id ≡ m.made.pass). own i x (subst (λ (z : ℕ). Live k (then_run k r m) z x) same its) below)
      (λ ne. others id i x ne its below)

  pub agrees_on : Agrees k (then_run k r m)
  agrees_on =
      let moved = by m.made.operation refl in
      record {
        may = lifts_on k r a m;
        lines = Moves.lines_on k r a m;
        counted = Moves.counted_on k r a m;
        passes = each_pass moved.0 moved.1;
        slots = λ t i q low below h. moved.2 t i q low below h;
        covered = moved.3;
        written = written_by m.made.operation refl;
        served = Moves.served_on k r a m;
      }

abbrev run_of : (k : HallTerms) (first : Hall) → IsOpening k first → k.lined ≡ true → (order : List Made) → IsLegal k first order → has_stop order ≡ false → Run k
run_of k first opens lined order legal none = record { first = first; opens = opens; order = order; legal = legal; lined = lined; unstopped = none }

agrees_by : (k : HallTerms) (first : Hall) (opens : IsOpening k first) (lined : k.lined ≡ true) (order : List Made) (legal : IsLegal k first order) (none : has_stop order ≡ false) → Agrees k (run_of k first opens lined order legal none)
agrees_by k first opens lined [] legal none = subst (λ (z : false ≡ false). Agrees k (run_of k first opens lined [] legal z)) (Bool-set false false refl none) (agrees_first k first opens lined)
agrees_by k first opens lined (m ∷ before) legal none =
    let n = no_first (has_stop before) (is_stop m.operation) none in
    let was = agrees_by k first opens lined before legal.1 n.0 in
    subst (λ (z : has_stop (m ∷ before) ≡ false). Agrees k (run_of k first opens lined (m ∷ before) legal z)) (Bool-set (has_stop (m ∷ before)) false (none_more (has_stop before) (is_stop m.operation) n.0 n.1) none)
    (agrees_on k (run_of k first opens lined before legal.1 n.0) was record { made = m; may = legal.0; goes = n.1 })

pub agrees_all : (k : HallTerms) (r : Run k) → Agrees k r
agrees_all k r = agrees_by k r.first r.opens r.lined r.order r.legal r.unstopped

-- the turns that got a lock are the first of those that entered its line
with_rest : (us : List Turn) → (rest : List Turn) × (first_in us ++ rest ≡ us)
with_rest [] = ([], refl)
with_rest (u ∷ us) = (us, refl)

given_rest : (p : LockPlace) (left : Bool) (us : List Turn) → (rest : List Turn) × (given_first p left us ++ rest ≡ us)
given_rest place.Free left us = (us, refl)
given_rest (Granted t) left us = with_rest us
given_rest (With t) left us = with_rest us
given_rest (Loose w) true us = (us, refl)
given_rest (Loose w) false us = with_rest us

are_first : (k : HallTerms) (r : Run k) (i : ℕ) → IsServed k r i → AreFirst (given_in i r.order) (entered_in i r.order)
are_first k r i is =
    let g = given_rest (custody_at k r i).place (custody_at k r i).left (line_at k r i) in
    let first : List Turn = given_first (custody_at k r i).place (custody_at k r i).left (line_at k r i) in
    (g.0, ap (λ (z : List Turn). z ++ g.0) is.given ∙ (append_assoc is.gone first g.0 ∙ (ap (λ (z : List Turn). is.gone ++ z) g.1 ∙ sym is.all)))

pub run_law : RunsAsMachine
run_law k s d lined =
    let r : Run k = run_of k d.first d.opens lined (before_stop d.order) (before_legal k d.first d.order d.legal) (before_none d.order) in
    let a = agrees_all k r in
    record {
      enabled = (lifted_at k r a).enabled;
      shows = shown_at k r a;
      lines = λ i below. (a.lines i below).line;
      tails = λ i below. (a.lines i below).tail;
      served = λ i below. are_first k r i (a.served i below);
      writes = a.written.sealed;
    }
