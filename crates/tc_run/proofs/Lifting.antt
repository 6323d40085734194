-- Each operation is its events, and the lines allow them.
use Rattle.std.proofs.Common.{◌≡◌, ◌≢◌, ℕ, zero, replicate, ◌<◌, ◌&&◌, ◌||◌, suc, not, Bool, true, false, List, [], ◌∷◌, ◌++◌, get_or-set_other, refl, sym, ap, ◌∙◌, subst, eq-eqb, slice_index, ⊎_elim, ◌⊎◌, inl, inr, arith, if◌then◌else◌, ◌+◌, Option, Some, None}
use mathlib.Core.Option.{some, some-injective}
use lib.ListN.{get_elem?}
use mathlib.Core.Logic.{dite}
use native.Mathlib.Decide.{ℕ_discrete}
use Rattle.std.specs.Option.{option_map}
use Rattle.std.specs.Prelude.{is_some}
use Rattle.tc_isa.specs.Sets.{has}
use Rattle.tc_journal.specs.Batch.{last_of}
use Rattle.tc_journal.specs.declared.block.End.{End}
use Rattle.tc_journal.specs.declared.block.End.TheVariants.{Slept}
use Rattle.tc_journal.specs.declared.block.Kind.{Kind}
use Rattle.tc_turn.specs.Turn.{Thread, is_running, next_lock, no_thread}
use Rattle.tc_mutex_spec.specs.Machine.{State}
use Rattle.tc_mutex_spec.specs.Blocks.{locks_of_block}
use Rattle.tc_elf.specs.Shown.{Shown}
use Rattle.tc_context.specs.Whole.{thread_in}
use Rattle.tc_context.specs.declared.context.Context.{Context}
use Rattle.tc_hall.specs.Shown.{with_pass}
use Rattle.tc_turn.proofs.Turns.{goes_on, next_free, next_known}
use Rattle.std.proofs.lemmas.List.{append-nil}
use Rattle.atomic_table.proofs.Lists.{set_here}
use Rattle.tc_mutex_spec.proofs.ListLaws.{there}
use Rattle.tc_hall.specs.declared.board.PassCall.TheVariants.{Line}
use Rattle.tc_hall.specs.Steps.{given_of, with_call}
use Rattle.tc_hall.specs.Lines.{tail_word_of}
use Rattle.tc_hall.specs.Effects.{Hall}
use Rattle.tc_journal.specs.declared.block.Block.{Block}
use Rattle.tc_segment.specs.View.{LockView, kept}
use Rattle.tc_context.specs.View.{PackageView, HasBlock, bare, want_of}
use Rattle.tc_queue.specs.declared.turn.Turn.{Turn}
use Rattle.tc_queue.specs.declared.turn.Entered.{Entered}
use Rattle.tc_queue.specs.declared.turn.Leave.TheVariants.{Left, Followed}
use Rattle.tc_queue.specs.declared.turn.QueueCall.{QueueCall}
use Rattle.tc_queue.specs.declared.turn.QueueCall.TheVariants.{Enter as Did_enter, Link as Did_link, Next as Did_ask, Leave as Did_leave}
use Rattle.tc_queue.specs.Calls.{answer_to_leave}
use Rattle.tc_core.specs.Core.{Core, is_free_lock, is_granted, is_loose, is_number, with_of}
use Rattle.tc_core.specs.declared.place.LockPlace.{LockPlace}
use Rattle.tc_core.specs.declared.place.LockPlace.TheVariants.{Loose, With, Granted}
use Rattle.tc_core.specs.declared.place.LockPlace.TheVariants as place
use Rattle.tc_core.specs.Events.{adopts, effect, has_entered, held_past}
use Rattle.tc_core.proofs.Tracked.{Tracks}
use Rattle.tc_core.specs.declared.event.Event.{Event}
use Rattle.tc_core.specs.Lines.{is_first, is_in_line, is_second, is_single}
use Rattle.tc_core.specs.declared.event.Event.TheVariants.{Enter, Leave, Adopt, Grant as Grant_to, Claim, Commit, Turn as Turn_by}
use Rattle.tc_hall.specs.declared.board.HallTerms.{HallTerms}
use Rattle.tc_hall.specs.declared.board.Knows.{Knows}
use Rattle.tc_hall.specs.declared.place.Place.{Place}
use Rattle.tc_hall.specs.declared.place.Place.TheVariants.{Ready, Parked, Waiting, Done}
use Rattle.tc_hall.specs.Rule.{Has, HasLock, IsOwn, KeptHall, locked_in, locks}
use Rattle.tc_hall.specs.declared.place.TheConstants.{READY, PARKED, WAITING}
use Rattle.tc_hall.specs.Places.{place_of, slot_word}
use Rattle.tc_hall.specs.Standing.{Standing, StandsAs, standing_of, ClaimsAs, EntersAs, IfWaiting, IsRunAs, SealsAs, TakesAs, FreesAs, PutsAs, away, entered, granted as granted_at, held, loose, followed, closed, is_of, kind_at, last_turn, stand_if, stands_in, turn_in}
use Rattle.tc_hall.specs.Order.{Operation, claim, take, miss, commit, put, free, line, look, stop, stopped, reach, lay, split, join, MayCome, MayDo, after_operation, plain_of}
use Rattle.tc_hall.specs.Ties.{AreInside, IsClaimed, alone, adopted, granted, IsLooseIn, IsOf, RunsThrough, after_events, is_with, machine_limits, turns_by}
use Rattle.tc_hall.specs.Lift.{Beat, operation, core_after, hall_of, start_of, HasLoose, HasNotEntered, IsAtLock, IsNext, LinesAllow, LinesAllowAll, MayLift}
use Rattle.tc_hall.specs.Outline.{IsBetween}
use Rattle.tc_hall.proofs.Cases as cases
use Rattle.tc_hall.proofs.Lifting.{ties}
use Rattle.tc_hall.proofs.Moves as moves
use Rattle.tc_hall.proofs.Through.{partway}
use Rattle.tc_hall.proofs.Telling.{place_codes}
use Rattle.tc_core.proofs.Standing.{first_one, is_out}
use Rattle.tc_hall.proofs.Taking.{is_lock_out}
use Rattle.tc_run.specs.Run.{beats_of, claim_events, events_at, events_in, line_beats, take_events, threads_of}
use Rattle.tc_run.proofs.Queues.{left_is_single, turn_first, turn_in_line, turn_later}
use Rattle.tc_run.proofs.Hands.{asked, held_here, kept_at, line_shown, loose_here, once_at, one_pass, same_hall, shown_at, stands_at, with_first}
use Rattle.tc_run.proofs.Agree.{Agrees, Live, Run, Step, IsCovered, in_its_slot, in_hand_of, Truth, core_at, custody_at, hall_at, has_lock, line_at, thread_of}
use Rattle.tc_hall.proofs.Standing.{not_named}
use Rattle.tc_hall.proofs.Turns.{turn_second}
use Rattle.tc_told.proofs.Realized.{takes_it}

-- the operation is its events, which the lines allow
pub record Lifts (k : HallTerms) (r : Run k) (v : Knows) (o : Operation) : Type 0 where
  pub is : IsOf k (hall_at k r) (core_at k r) v o (events_at k (core_at k r) v o)
  pub lines : LinesAllowAll k (core_at k r) (events_at k (core_at k r) v o)

is_false : (b : Bool) → (b ≡ true → ⊥) → b ≡ false
is_false false out = refl
is_false true out = absurd (out refl)

pub none_asks : (inside rests left first : Bool) → rests ≡ false → left ≡ false → first ≡ true → (inside && (rests || left || not first)) ≡ false
none_asks false rests left first e f g = refl
none_asks true false false true e f g = refl
none_asks true true left first e f g = absurd (cc e)
none_asks true false true first e f g = absurd (cc f)
none_asks true false false false e f g = absurd (cc g)

slept_end : (o : Option Block) → HasBlock (λ (b : Block). b.end ≡ Slept) o → option_map (λ (b : Block). b.end) o ≡ Some Slept
slept_end None e = absurd e
slept_end (Some b) e = ap (λ (z : End). Some z) e

pub waits_or_not : (place : Place) (i : ℕ) → (place ≡ Waiting i) ⊎ (place ≢ Waiting i)
waits_or_not Ready i = inr (λ e. absurd (cc e))
waits_or_not Parked i = inr (λ e. absurd (cc e))
waits_or_not Done i = inr (λ e. absurd (cc e))
waits_or_not (Waiting j) i = dite (ℕ_discrete j i) (λ (e : j ≡ i). inl (ap (λ (z : ℕ). Waiting z) e)) (λ ne. inr (λ e. ne (cc e)))

wants_so : (image : Shown) (p : Context) (i : ℕ) → want_of image p ≡ Some i → (is_running p.guest.status ≡ true) × (next_lock image (thread_in p) ≡ Some i)
wants_so image p i e = by (is_running p.guest.status) refl e
  where
    by : (b : Bool) → is_running p.guest.status ≡ b → (if b then next_lock image (thread_in p) else None) ≡ Some i → (is_running p.guest.status ≡ true) × (next_lock image (thread_in p) ≡ Some i)
    by true is f = (is, f)
    by false is f = absurd (cc f)

in_none : (inside rests left first : Bool) → ((inside && (rests || left || not first)) ≡ true → ⊥) → (first ≡ true → left ≡ false → rests ≡ false → ⊥) → inside ≡ false
in_none false rests left first out at = refl
in_none true true left first out at = absurd (out refl)
in_none true false true first out at = absurd (out refl)
in_none true false false false out at = absurd (out refl)
in_none true false false true out at = absurd (at refl refl refl)

-- an event that the lines allow each time, and one that they allow always
all_lines : (k : HallTerms) (e x : Event) (n : ℕ) (c : Core) → ((j : ℕ) → j < n → LinesAllow k (after_events k c (replicate j e)) e) → ((y : Core) → LinesAllow k y x) → LinesAllowAll k c (replicate n e ++ x ∷ [])
all_lines k e x zero c each last = (last c, tt)
all_lines k e x (suc n) c each last = (each 0 (omega arith), all_lines k e x n (effect k.image.value c e) (λ j lt. each (suc j) (omega arith)) last)

-- only the first turn of a block takes a lock
first_takes : (k : HallTerms) (c : Core) (w t n : ℕ) (end : End) → IsBetween c → RunsThrough k w t n end c → ((lock : ℕ) → next_lock k.image.value (c.machine.threads t) ≡ Some lock → is_granted (c.custody lock).place t ≡ true)
    → (j : ℕ) → j < n → LinesAllow k (after_events k c (turns_by w t j)) (Turn_by w t)
first_takes k c w t n end between through here zero lt = here
first_takes k c w t n end between through here (suc i) lt = λ (lock : ℕ) (next : next_lock k.image.value ((after_events k c (turns_by w t (suc i))).machine.threads t) ≡ Some lock).
    (let part = partway k.image.value c t w between (suc i) in
    absurd (cases.clash _ lock (goes_on no_thread _ (i + 1) _ (sym part.ended ∙ through.goes_on (suc i) lt)).0 (ap (λ (m : State). next_lock k.image.value (m.threads t)) (sym part.machine) ∙ next)))

-- a lock that a thread has is not the one that its next turn takes
pub has_not : (image : Shown) (c : Core) (t lock : ℕ) → IsBetween c → Tracks c → (c.custody lock).place ≡ With t → next_lock image (c.machine.threads t) ≡ Some lock → ⊥
has_not image c t lock between tracks with next =
    let mine : has (c.course t).held lock ≡ true = tracks.with t lock ∙ (ap (λ (p : LockPlace). is_number (with_of p) t) with ∙ eq-eqb t t refl) in
    let same : has (c.course t).held lock ≡ (c.machine.threads t).held lock = ap (λ (e : Option End). has (held_past (c.course t).held e) lock) (sym (between t).1) ∙ tracks.kept t lock in
    let f : true ≡ false = sym mine ∙ (same ∙ next_free image (c.machine.threads t) lock next) in
    absurd (cc f)

module _ (k : HallTerms) (r : Run k) (a : Agrees k r) (id : ℕ) (v : Knows) (live : Live k r id v) where
  rule : KeptHall k (hall_at k r)
  rule = kept_at k r

  pub truth : (i : ℕ) (s : Standing) → i < locks k → StandsAs v i s → Truth k r v.worker i s
  truth i s below e = subst (λ (z : Standing). Truth k r v.worker i z) e (a.passes id i v live below).so

  hand : (i t : ℕ) (s : Standing) → i < locks k → StandsAs v i s → thread_of s ≡ Some t → (p : PackageView) × Has v t p
  hand i t s below e f = (a.passes id i v live below).hand t (ap thread_of e ∙ f)

  loose_by : (i : ℕ) → (custody_at k r i).place ≡ Loose v.worker → IsLooseIn i (core_at k r)
  loose_by i e = (v.worker, ap (λ (z : LockPlace). is_loose z v.worker) e ∙ eq-eqb v.worker v.worker refl)

  abbrev May : Operation → Type 0
  May o = MayDo k (hall_at k r) id v o

  abbrev ClaimedBy : ℕ → List Event → Type 0
  ClaimedBy t es = IsClaimed k (hall_at k r) (core_at k r) v t es × LinesAllowAll k (core_at k r) es

  abbrev Claimed : ℕ → Place → Type 0
  Claimed t place = ClaimedBy t (claim_events k (core_at k r) v.worker t place)

  pub claim_lifts : (t word : ℕ) (q : PackageView) → May (claim t word q) → Lifts k r v (claim t word q)
  claim_lifts t word q may = ⊎_elim ready (⊎_elim parked (λ (z : (i : ℕ) × (i < locks k) × (word ≡ WAITING + i)). waiting z.0 z.1 z.2)) may.can
    where
      done : Claimed t (place_of word) → Lifts k r v (claim t word q)
      done both = record { is = both.0; lines = both.1 }

      ready : word ≡ READY → Lifts k r v (claim t word q)
      ready e = done (subst (Claimed t) (sym (ap place_of e ∙ place_codes Ready)) (alone (inl (may.found ∙ e)), (tt, tt)))

      parked : word ≡ PARKED → Lifts k r v (claim t word q)
      parked e = done (subst (Claimed t) (sym (ap place_of e ∙ place_codes Parked)) (alone (inr (may.found ∙ e)), (tt, tt)))

      waiting : (i : ℕ) → i < locks k → word ≡ WAITING + i → Lifts k r v (claim t word q)
      waiting i below e =
          let at : place_of word ≡ Waiting i = ap place_of e ∙ place_codes (Waiting i) in
          let p = subst (IfWaiting v t) at (asked k r id v (ClaimsAs v t (place_of word)) live.pass may.stands).waiting in
          let so = truth i (followed p.own p.behind) below p.stands in
          let next : is_second (custody_at k r i).line t ≡ true = subst (λ (z : ℕ). is_second (custody_at k r i).line z ≡ true) p.thread (ap (λ (z : List ℕ). is_second z p.behind.thread) (a.lines i below).line ∙ turn_second (line_at k r i) p.behind so.3) in
          done (subst (Claimed t) (sym at) (by i p.lock (may.found ∙ e) p.has (loose_by i so.0) (so.1, next) (adopts (machine_limits k) (core_at k r) i) refl))
        where
          by : (i : ℕ) (l : LockView) → slice_index (hall_at k r).words (slot_word t) ≡ WAITING + i → HasLock v i l → IsLooseIn i (core_at k r) → IsNext (core_at k r) t i → (b : Bool) → adopts (machine_limits k) (core_at k r) i ≡ b
              → ClaimedBy t (if b then Adopt v.worker t i ∷ [] else Grant_to v.worker t i ∷ Claim v.worker t ∷ [])
          by i l word has is next true rule = (adopted i l word has is, ((next, rule), tt))
          by i l word has is next false rule = (granted i l word has is, ((next, rule), (tt, tt)))

  pub take_lifts : (i : ℕ) (l : LockView) → May (take i l) → Lifts k r v (take i l)
  take_lifts i l may =
      let t = asked k r id v (TakesAs v i) live.pass may.stands in
      let so = truth i (entered t.0 None) may.below t.1 in
      let h = hand i t.0.thread (entered t.0 None) may.below t.1 refl in
      let o = moves.is_out k (hall_at k r) rule id t.0.thread v h.0 live.pass h.1 in
      record {
        is = (t.0.thread, o.0, o.3, ap (take_events v.worker i) t.1);
        lines = subst (λ (z : Standing). LinesAllowAll k (core_at k r) (take_events v.worker i z)) (sym t.1) ((ap (λ (z : List ℕ). is_first z t.0.thread) (a.lines i may.below).line ∙ turn_first (line_at k r i) t.0 so.0), tt);
      }

  -- a pass that has the package of thread t out is this one
  is_this : (t : ℕ) (p : PackageView) → Has v t p → (j : ℕ) (x : Knows) (o : PackageView) → Live k r j x → Has x t o → x ≡ v
  is_this t p has j x o its also =
      let same : j ≡ id = (one_pass k (hall_at k r) rule j id t x v o p its.pass live.pass also has).0 in
      some-injective x v (sym its.pass ∙ (ap (λ (z : ℕ). get_elem? (hall_at k r).views z) same ∙ live.pass))

  clash : (i : ℕ) (x : Knows) (s : Standing) → StandsAs v i away → x ≡ v → StandsAs x i s → away ≡ s
  clash i x s here same e = sym here ∙ (ap (λ (z : Knows). standing_of i z.calls) (sym same) ∙ e)

  -- where the pass has no turn of a thread whose package it has, that doesn't wait
  out_not : (i t : ℕ) (p : PackageView) → Has v t p → is_of t (standing_of i v.calls) ≡ false → i < locks k → is_out (custody_at k r i) t ≡ true → ⊥
  out_not i t p has here below out = by (a.covered i t below out)
    where
      by : IsCovered k r i t → ⊥
      by (in_its_slot waits) =
          let o = (moves.is_out k (hall_at k r) rule id t v p live.pass has).3 in
          let few = rule.told.limits.locks in
          omega (arith, o, waits, few, below)
      by (in_hand_of j x y before its stands same) =
          let h = (a.passes j i x its below).hand t (ap thread_of stands ∙ ap (λ (z : ℕ). Some z) same) in
          let c : false ≡ true = sym here ∙ (ap (λ (z : Knows). is_of t (standing_of i z.calls)) (sym (is_this t p has j x h.0 its h.1)) ∙ (ap (is_of t) stands ∙ eq-eqb y.thread t same)) in
          absurd (cc c)

  -- nor has one the lock, or released it and not left
  first_not : (i t : ℕ) (p : PackageView) → Has v t p → StandsAs v i away → i < locks k → is_first (custody_at k r i).line t ≡ true → (custody_at k r i).left ≡ false → is_free_lock (custody_at k r i).place ≡ false → ⊥
  first_not i t p has here below first left shut = by (custody_at k r i).place refl
    where
      mine : is_with (custody_at k r i).place t ≡ true → ⊥
      mine with =
          let l = held_here k (hall_at k r) (core_at k r) rule (shown_at k r a) id t i v p live.pass live.live has below with in
          let e : true ≡ has_lock away = sym ((a.passes id i v live below).stands l.0 l.1) ∙ ap has_lock here in
          absurd (cc e)

      with_it : (u : ℕ) → is_with (custody_at k r i).place u ≡ true → ⊥
      with_it u with = mine (subst (λ (z : ℕ). is_with (custody_at k r i).place z ≡ true) (first_one (custody_at k r i).line u t (with_first k r a i u with) first) with)

      last : (y : Turn) → get_elem? (line_at k r i) 0 ≡ some y → y.thread ≡ t
      last y at = first_one (custody_at k r i).line y.thread t (ap (λ (z : List ℕ). is_first z y.thread) (a.lines i below).line ∙ turn_first (line_at k r i) y at) first

      gone : (j : ℕ) (x : Knows) (its : Live k r j x) (s : Standing) → StandsAs x i s → (y : Turn) → thread_of s ≡ Some y.thread → y.thread ≡ t → away ≡ s
      gone j x its s stands y of same =
          let h = (a.passes j i x its below).hand t (ap thread_of stands ∙ (of ∙ ap (λ (z : ℕ). Some z) same)) in
          clash i x s here (is_this t p has j x h.0 its h.1) stands

      stood : (j : ℕ) (x : Knows) → Live k r j x → (w : ℕ) → (custody_at k r i).place ≡ Loose w → (s : Standing) → StandsAs x i s → Truth k r x.worker i s → has_lock s ≡ true → ⊥
      stood j x its w at away stands so e = absurd (cc e)
      stood j x its w at (entered y before) stands so e = absurd (cc e)
      stood j x its w at (granted_at y kind) stands so e = (let c : Loose w ≡ Granted y.thread = sym at ∙ so.0 in absurd (cc c))
      stood j x its w at (held y) stands so e = (let c : Loose w ≡ With y.thread = sym at ∙ so.0 in absurd (cc c))
      stood j x its w at (loose y) stands so e = (let c : away ≡ loose y = gone j x its (loose y) stands y refl (last y so.2) in absurd (cc c))
      stood j x its w at (followed y z) stands so e = (let c : away ≡ followed y z = gone j x its (followed y z) stands y refl (last y so.2) in absurd (cc c))
      stood j x its w at (closed y) stands so e = (let c : false ≡ true = sym left ∙ so.1 in absurd (cc c))

      by : (q : LockPlace) → (custody_at k r i).place ≡ q → ⊥
      by place.Free at = (let c : true ≡ false = sym (ap is_free_lock at) ∙ shut in absurd (cc c))
      by (With u) at = with_it u (ap (λ (z : LockPlace). is_with z u) at ∙ eq-eqb u u refl)
      by (Granted u) at = with_it u (ap (λ (z : LockPlace). is_with z u) at ∙ eq-eqb u u refl)
      by (Loose w) at =
          let o = loose_here k (hall_at k r) (core_at k r) rule (shown_at k r a) w i below at in
          let its : Live k r o.id o.view = record { pass = o.pass; live = o.live } in
          let st = a.passes o.id i o.view its below in
          stood o.id o.view its w at (standing_of i o.view.calls) refl st.so (st.stands o.state o.has)

  -- a lock in a package that is put is with its thread
  own_shown : (q : PackageView) (place : Place) → May (put q place) → (i : ℕ) (l : LockView) → i < locks k → locked_in q i ≡ Some l
      → (is_with (custody_at k r i).place q.context.thread ≡ true) × (is_free_lock (custody_at k r i).place ≡ false) × ((custody_at k r i).left ≡ false) × (is_first (custody_at k r i).line q.context.thread ≡ true)
  own_shown q place may i l below e =
      let p = asked k r id v (PutsAs v q place) live.pass may.stands in
      by (has q.context.guest.held i) (kind_at i (given_of q)) (p.locks i l e ∙ ap (λ (o : Option LockView). stand_if o (stands_in (turn_in q i) (has q.context.guest.held i) (kind_at i (given_of q)))) e) (owned (may.may.order.own i l e))
    where
      owned : IsOwn q i → (has q.context.guest.held i ≡ false) → kind_at i (given_of q) ≡ None → ⊥
      owned (inl h) shut none = (let c : true ≡ false = sym h ∙ shut in absurd (cc c))
      owned (inr g) shut none = not_named q i q.granted g none

      first : (u : Turn) → get_elem? (line_at k r i) 0 ≡ some u → is_first (custody_at k r i).line u.thread ≡ true
      first u at = ap (λ (z : List ℕ). is_first z u.thread) (a.lines i below).line ∙ turn_first (line_at k r i) u at

      by : (b : Bool) (kind : Option Kind) → StandsAs v i (stands_in (turn_in q i) b kind) → (b ≡ false → kind ≡ None → ⊥)
          → (is_with (custody_at k r i).place q.context.thread ≡ true) × (is_free_lock (custody_at k r i).place ≡ false) × ((custody_at k r i).left ≡ false) × (is_first (custody_at k r i).line q.context.thread ≡ true)
      by b (Some kind) stands own =
          let so = truth i (granted_at (turn_in q i) kind) below stands in
          (ap (λ (z : LockPlace). is_with z q.context.thread) so.0 ∙ eq-eqb q.context.thread q.context.thread refl, ap is_free_lock so.0, so.1, first (turn_in q i) so.2)
      by true None stands own =
          let so = truth i (held (turn_in q i)) below stands in
          (ap (λ (z : LockPlace). is_with z q.context.thread) so.0 ∙ eq-eqb q.context.thread q.context.thread refl, ap is_free_lock so.0, so.1, first (turn_in q i) so.2)
      by false None stands own = absurd (own refl refl)

  -- and another is not
  none_with : (q : PackageView) (place : Place) → May (put q place) → (i : ℕ) → i < locks k → locked_in q i ≡ None → is_with (custody_at k r i).place q.context.thread ≡ true → ⊥
  none_with q place may i below none with =
      let p = asked k r id v (PutsAs v q place) live.pass may.stands in
      let l = held_here k (hall_at k r) (core_at k r) rule (shown_at k r a) id q.context.thread i v (bare q) live.pass live.live may.may.has below with in
      let st = a.passes id i v live below in
      let out = st.stands l.0 l.1 in
      ⊎_elim
      (λ (e : place ≡ Waiting i). (let w = p.waits i e in let c : true ≡ false = sym out ∙ ap has_lock w.1 in absurd (cc c)))
      (λ (ne : place ≢ Waiting i). (let c : false ≡ true = sym (p.others i none ne) ∙ of (standing_of i v.calls) st.so out in absurd (cc c)))
      (waits_or_not place i)
    where
      of : (s : Standing) → Truth k r v.worker i s → has_lock s ≡ true → is_of q.context.thread s ≡ true
      of away so e = absurd (cc e)
      of (entered y before) so e = absurd (cc e)
      of (granted_at y kind) so e = sym (ap (λ (z : LockPlace). is_with z q.context.thread) so.0) ∙ with
      of (held y) so e = sym (ap (λ (z : LockPlace). is_with z q.context.thread) so.0) ∙ with
      of (loose y) so e = (let c : false ≡ true = sym (ap (λ (z : LockPlace). is_with z q.context.thread) so.0) ∙ with in absurd (cc c))
      of (followed y z) so e = (let c : false ≡ true = sym (ap (λ (z : LockPlace). is_with z q.context.thread) so.0) ∙ with in absurd (cc c))
      of (closed y) so e = (let c : false ≡ true = sym (ap (λ (z : LockPlace). is_with z q.context.thread) so.0) ∙ with in absurd (cc c))

  -- the locks of a package that is put are those that its thread has or was granted
  pub put_inside : (q : PackageView) (place : Place) → May (put q place) → AreInside k q (core_at k r)
  put_inside q place may i below = by (locked_in q i) refl
    where
      by : (o : Option LockView) → locked_in q i ≡ o → is_with (custody_at k r i).place q.context.thread ≡ is_some (locked_in q i)
      by (Some l) e = (own_shown q place may i l below e).0 ∙ sym (ap is_some e)
      by None e = is_false (is_with (custody_at k r i).place q.context.thread) (none_with q place may i below e) ∙ sym (ap is_some e)

  pub not_entered : (q : PackageView) (place : Place) → May (put q place) → ((i : ℕ) → place ≢ Waiting i) → HasNotEntered k (core_at k r) q.context.thread
  not_entered q place may here = by (next_lock k.image.value ((core_at k r).machine.threads q.context.thread)) refl
    where
      by_lock : (i : ℕ) → i < locks k → (o : Option LockView) → locked_in q i ≡ o → is_out (custody_at k r i) q.context.thread ≡ true → ⊥
      by_lock i below None e out = out_not i q.context.thread (bare q) may.may.has ((asked k r id v (PutsAs v q place) live.pass may.stands).others i e (here i)) below out
      by_lock i below (Some l) e out =
          let o = own_shown q place may i l below e in
          let c : false ≡ true = sym (none_asks (is_in_line (custody_at k r i).line q.context.thread) (is_free_lock (custody_at k r i).place) (custody_at k r i).left (is_first (custody_at k r i).line q.context.thread) o.1 o.2 o.3) ∙ out in
          absurd (cc c)

      by : (n : Option ℕ) → next_lock k.image.value ((core_at k r).machine.threads q.context.thread) ≡ n → has_entered n q.context.thread (core_at k r) ≡ false
      by None e = refl
      by (Some i) e = is_false (is_out (custody_at k r i) q.context.thread) (by_lock i (next_known k.image.value ((core_at k r).machine.threads q.context.thread) i e) (locked_in q i) refl)

  pub ships : (q : PackageView) (i : ℕ) → May (put q (Waiting i)) → (is_in_line (custody_at k r i).line q.context.thread ≡ true) × (is_first (custody_at k r i).line q.context.thread ≡ false)
  ships q i may =
      let w = (asked k r id v (PutsAs v q (Waiting i)) live.pass may.stands).waits i refl in
      let so = truth i (entered (last_turn q) (Some w.0)) may.range w.1 in
      let us = line_at k r i in
      let same = (a.lines i may.range).line in (
        ap (λ (z : List ℕ). is_in_line z q.context.thread) same ∙ turn_in_line us (suc so.0) (last_turn q) so.2,
        ap (λ (z : List ℕ). is_first z q.context.thread) same ∙ turn_later us so.0 (last_turn q) (once_at k r a i may.range) so.2,
      )

  pub put_lifts : (q : PackageView) (place : Place) → May (put q place) → Lifts k r v (put q place)
  put_lifts q Ready may = record { is = (put_inside q Ready may, refl); lines = (not_entered q Ready may (λ i e. absurd (cc e)), tt) }
  put_lifts q (Waiting i) may = record { is = (put_inside q (Waiting i) may, refl); lines = (ships q i may, tt) }
  put_lifts q Parked may = record { is = (put_inside q Parked may, slept_end (last_of q.log) ((asked k r id v (PutsAs v q Parked) live.pass may.stands).slept refl), refl); lines = (not_entered q Parked may (λ i e. absurd (cc e)), tt) }
  put_lifts q Done may = record { is = (put_inside q Done may, refl); lines = (tt, tt) }

  -- a block that is sealed
  module _ (stamp : ℕ) (b : Block) (q : PackageView) (may : May (commit stamp b q)) where
    pub through : RunsThrough k v.worker q.context.thread b.turns b.end (core_at k r)
    through =
        (ties k (hall_at k r) record { pass = id; knew = v; operation = commit stamp b q } rule record { pass = live.pass; live = live.live; may = may }).asks
        (core_at k r) (events_at k (core_at k r) v (commit stamp b q)) (shown_at k r a) refl

    pub runs_for : b.thread ≡ q.context.thread
    runs_for = ap (λ (z : Block). z.thread) (sym may.2) ∙ (may.1.ran.thread ∙ sym may.1.ran.runs.keeps.thread)

    pub from_before : (core_at k r).machine.threads q.context.thread ≡ thread_in may.1.before.context
    from_before = (let o = moves.is_out k (hall_at k r) rule id q.context.thread v (bare may.1.before) live.pass may.1.has in ((shown_at k r a).shown.thread q.context.thread (bare may.1.before) o.0 (with_pass id v live.pass may.1.has)).thread)

    pub next_is : next_lock v.image (thread_in may.1.before.context) ≡ next_lock k.image.value ((core_at k r).machine.threads q.context.thread)
    next_is = λ i. next_lock ((rule.passes id v live.pass).of live.live i) (sym from_before i)

    -- its locks are those that its thread has, and the one that it takes
    pub held_before : (j : ℕ) → has b.held j ≡ locks_of_block ((core_at k r).machine.threads q.context.thread).held (next_lock k.image.value ((core_at k r).machine.threads q.context.thread)) j
    held_before j = ap (λ (z : Block). has z.held j) (sym may.2) ∙ (may.1.ran.held j ∙ (λ i. locks_of_block (sym from_before i).held (next_is i) j))

    pub in_block : (lock : ℕ) → next_lock k.image.value ((core_at k r).machine.threads q.context.thread) ≡ Some lock → has b.held lock ≡ true
    in_block lock next = held_before lock ∙ takes_it ((core_at k r).machine.threads q.context.thread).held lock (next_lock k.image.value ((core_at k r).machine.threads q.context.thread)) next

    -- where each of them stands
    pub stands_run : (i : ℕ) → has b.held i ≡ true → IsRunAs b (standing_of i v.calls)
    stands_run i = asked k r id v (SealsAs v b) live.pass may.3 i

    given : (lock : ℕ) → next_lock k.image.value ((core_at k r).machine.threads q.context.thread) ≡ Some lock → is_granted (custody_at k r lock).place q.context.thread ≡ true
    given lock next = by lock (next_known k.image.value ((core_at k r).machine.threads q.context.thread) lock next) next (standing_of lock v.calls) refl (stands_run lock (in_block lock next))
      where
        by : (lock : ℕ) → lock < locks k → next_lock k.image.value ((core_at k r).machine.threads q.context.thread) ≡ Some lock → (s : Standing) → StandsAs v lock s → IsRunAs b s → is_granted (custody_at k r lock).place q.context.thread ≡ true
        by lock below next (granted_at u kind) stands runs = (let so = truth lock (granted_at u kind) below stands in ap (λ (z : LockPlace). is_granted z q.context.thread) so.0 ∙ eq-eqb u.thread q.context.thread (runs.0 ∙ runs_for))
        by lock below next (held u) stands runs = (let so = truth lock (held u) below stands in absurd (has_not k.image.value (core_at k r) q.context.thread lock (shown_at k r a).between (stands_at k r a).tracks (so.0 ∙ ap (λ (z : ℕ). With z) (runs ∙ runs_for)) next))
        by lock below next away stands runs = absurd runs
        by lock below next (entered u before) stands runs = absurd runs
        by lock below next (loose u) stands runs = absurd runs
        by lock below next (followed u x) stands runs = absurd runs
        by lock below next (closed u) stands runs = absurd runs

    pub commit_lifts : Lifts k r v (commit stamp b q)
    commit_lifts = record { is = refl; lines = all_lines k (Turn_by v.worker q.context.thread) (Commit v.worker q.context.thread) b.turns (core_at k r) (first_takes k (core_at k r) v.worker q.context.thread b.turns b.end (shown_at k r a).between through given) (λ y. tt) }

  pub free_lifts : (l : LockView) → May (free l) → Lifts k r v (free l)
  free_lifts l may =
      let below = (is_lock_out k (hall_at k r) rule id l.number v (kept l) live.pass may.1.has).0 in
      let f = asked k r id v (FreesAs v l.number) live.pass may.2 in
      let so = truth l.number (closed f.0) below f.1 in
      record { is = (loose_by l.number so.0, refl); lines = (so.1, tt) }

  pub not_in_line : (i : ℕ) (u : Turn) (e : Entered) → May (line i (Did_enter u e)) → is_in_line (custody_at k r i).line u.thread ≡ false
  not_in_line i u e may =
      let s = asked k r id v (EntersAs v i u) live.pass may.3 in
      let x = custody_at k r i in
      in_none (is_in_line x.line u.thread) (is_free_lock x.place) x.left (is_first x.line u.thread) (out_not i u.thread s.waiter s.has (ap (is_of u.thread) s.stands) may.1) (first_not i u.thread s.waiter s.has s.stands may.1)

  pub enter_lifts : (i : ℕ) (u : Turn) (e : Entered) → May (line i (Did_enter u e)) → IsAtLock k (hall_at k r) (core_at k r) v.worker u.thread i × LinesAllow k (core_at k r) (Enter v.worker u.thread i)
  enter_lifts i u e may =
      let s = asked k r id v (EntersAs v i u) live.pass may.3 in
      let o = moves.is_out k (hall_at k r) rule id u.thread v s.waiter live.pass s.has in
      let image : s.waiter.image ≡ k.image.value = (rule.told.law.packages_after u.thread s.waiter o.2).follows.of in
      let w = wants_so s.waiter.image s.waiter.context i s.wants in
      let its : (core_at k r).machine.threads u.thread ≡ thread_in s.waiter.context = ((shown_at k r a).shown.thread u.thread s.waiter o.0 (with_pass id v live.pass s.has)).thread in (
        record {
          below = o.0;
          word = o.3;
          runs = ap (λ (z : Thread). is_running z.status) its ∙ w.0;
          next = ap (λ (z : Thread). next_lock k.image.value z) its ∙ (ap (λ (z : Shown). next_lock z (thread_in s.waiter.context)) (sym image) ∙ w.1);
        },
        not_in_line i u e may,
      )

  pub leave_lifts : (i : ℕ) (u : Turn) → May (line i (Did_leave u Left)) → HasLoose (hall_at k r) (core_at k r) v.worker i × LinesAllow k (core_at k r) (Leave v.worker i)
  leave_lifts i u may =
      let e = asked k r id v (StandsAs v i (loose u)) live.pass may.3 in
      let so = truth i (loose u) may.1 e in
      let x = (a.passes id i v live may.1).lock (ap has_lock e) in
      let is = a.lines i may.1 in
      let answer : answer_to_leave u (plain_of i r.order).tail ≡ Left = ap (answer_to_leave u) (sym (line_shown k r i may.1).tail) ∙ sym may.2.1 in
      let one = left_is_single (line_at k r i) (plain_of i r.order).tail u is.tail (once_at k r a i may.1) so.2 answer in (
        record { id = id; view = v; pass = live.pass; worker = refl; state = x.0; has = x.1; loose = loose_by i so.0 },
        (so.1, ap is_single (is.line ∙ ap threads_of one)),
      )

  leave_lock : (i : ℕ) (u : Turn) → May (line i (Did_leave u Left)) → (l : LockView) × HasLock v i l
  leave_lock i u may = (a.passes id i v live may.1).lock (ap has_lock (asked k r id v (StandsAs v i (loose u)) live.pass may.3))

  -- all operations
  pub each_lifts : (o : Operation) → May o → Lifts k r v o
  each_lifts (claim t word q) may = claim_lifts t word q may
  each_lifts (take i l) may = take_lifts i l may
  each_lifts (put q place) may = put_lifts q place may
  each_lifts (commit stamp b q) may = commit_lifts stamp b q may
  each_lifts (free l) may = free_lifts l may
  each_lifts (miss word wanted found) may = record { is = refl; lines = tt }
  each_lifts (look t found) may = record { is = refl; lines = tt }
  each_lifts stop may = record { is = refl; lines = tt }
  each_lifts (stopped found) may = record { is = refl; lines = tt }
  each_lifts (line i c) may = record { is = refl; lines = tt }
  each_lifts (reach slot) may = record { is = refl; lines = tt }
  each_lifts (lay slot) may = record { is = refl; lines = tt }
  each_lifts split may = record { is = refl; lines = tt }
  each_lifts (join other w) may = record { is = refl; lines = tt }

module _ (k : HallTerms) (r : Run k) (a : Agrees k r) (m : Step k r) where
  abbrev pass : ℕ
  pass = m.made.pass

  abbrev knew : Knows
  knew = m.made.knew

  abbrev its_beat : Beat
  its_beat = operation m.made (events_at k (core_at k r) knew m.made.operation)

  its_live : Live k r pass knew
  its_live = record { pass = m.may.pass; live = m.may.live }

  op_may : MayLift k r.first (its_beat ∷ beats_of k r.order)
  op_may =
      let l = each_lifts k r a pass knew its_live m.made.operation m.may.may in
      subst (λ (s : Hall). MayCome k s m.made × IsOf k s (core_at k r) knew m.made.operation (events_at k (core_at k r) knew m.made.operation) × LinesAllowAll k (core_at k r) (events_at k (core_at k r) knew m.made.operation) × MayLift k r.first (beats_of k r.order))
      (sym (same_hall k r.first r.order)) (m.may, l.is, l.lines, a.may)

  -- a call on a line is no event, so it leaves the core
  called : (i : ℕ) (c : QueueCall) → m.made.operation ≡ line i c
      → (P : Hall → Core → Type 0) → P (after_operation k (hall_at k r) pass knew (line i c)) (core_at k r) → P (hall_of k r.first (its_beat ∷ beats_of k r.order)) (core_after k (its_beat ∷ beats_of k r.order))
  called i c is P p =
      let core_same : core_after k (its_beat ∷ beats_of k r.order) ≡ core_at k r = ap (λ (o : Operation). after_events k (start_of k) (events_in k r.order ++ events_at k (core_at k r) knew o)) is ∙ ap (after_events k (start_of k)) (append-nil (events_in k r.order)) in
      let hall_same : hall_of k r.first (its_beat ∷ beats_of k r.order) ≡ after_operation k (hall_at k r) pass knew (line i c) = ap (λ (s : Hall). after_operation k s pass knew m.made.operation) (same_hall k r.first r.order) ∙ ap (after_operation k (hall_at k r) pass knew) is in
      subst (λ (z : Hall × Core). P z.0 z.1) (λ j. (sym hall_same j, sym core_same j)) p

  may_so : (o : Operation) → m.made.operation ≡ o → MayDo k (hall_at k r) pass knew o
  may_so o is = subst (MayDo k (hall_at k r) pass knew) is m.may.may

  by : (o : Operation) → m.made.operation ≡ o → MayLift k r.first (line_beats knew.worker o ++ its_beat ∷ beats_of k r.order)
  by (line i (Did_enter u e)) is =
      let l = enter_lifts k r a pass knew its_live i u e (may_so (line i (Did_enter u e)) is) in (
        called i (Did_enter u e) is (λ (s : Hall) (c : Core). IsAtLock k s c knew.worker u.thread i) record {
          below = l.0.below;
          word = (let b = l.0.below in get_or-set_other (hall_at k r).words (tail_word_of k i) (slot_word u.thread) _ 0 (λ f. omega arith)) ∙ l.0.word;
          runs = l.0.runs;
          next = l.0.next;
        },
        called i (Did_enter u e) is (λ (s : Hall) (c : Core). LinesAllow k c (Enter knew.worker u.thread i)) l.1,
        op_may,
      )
  by (line i (Did_leave u Left)) is =
      let may = may_so (line i (Did_leave u Left)) is in
      let l = leave_lifts k r a pass knew its_live i u may in
      let x = leave_lock k r a pass knew its_live i u may in (
        called i (Did_leave u Left) is (λ (s : Hall) (c : Core). HasLoose s c knew.worker i) record {
          id = pass;
          view = with_call knew (Line i (Did_leave u Left));
          pass = set_here (hall_at k r).views pass (with_call knew (Line i (Did_leave u Left))) (there (hall_at k r).views pass knew knew m.may.pass).0;
          worker = refl;
          state = x.0;
          has = x.1;
          loose = l.0.loose;
        },
        called i (Did_leave u Left) is (λ (s : Hall) (c : Core). LinesAllow k c (Leave knew.worker i)) l.1,
        op_may,
      )
  by (line i (Did_link b u)) is = op_may
  by (line i (Did_ask u x)) is = op_may
  by (line i (Did_leave u (Followed tail))) is = op_may
  by (claim t word q) is = op_may
  by (take i l) is = op_may
  by (miss word wanted found) is = op_may
  by (commit stamp b q) is = op_may
  by (put q place) is = op_may
  by (free l) is = op_may
  by (look t found) is = op_may
  by stop is = op_may
  by (stopped found) is = op_may
  by (reach slot) is = op_may
  by (lay slot) is = op_may
  by split is = op_may
  by (join other w) is = op_may

-- and so the order with one operation more
pub lifts_on : (k : HallTerms) (r : Run k) → Agrees k r → (m : Step k r) → MayLift k r.first (beats_of k (m.made ∷ r.order))
lifts_on k r a m = by k r a m m.made.operation refl
