-- `put`, `look`, `stop`, `stopped` and `commit` keep the rule.
use Rattle.std.proofs.Common.{◌≡◌, ◌≢◌, ℕ, ◌+◌, ◌<◌, ◌≤◌, ◌==◌, Bool, true, false, List, [], ◌∷◌, length, set, sym, refl, ap, ◌∙◌, subst, ⊎_elim, inl, inr, arith, Option, Some, None, slice_index, length-set, get_or-set_other, get_or-set_same}
use Rattle.tc_hall.proofs.Vocabulary.{CLOCK, PassCall, Cargo, Done, Grant, HasStop, Line, QueueCall, HasStopped, IsAsLeft, IsInOrder, IsInRange, KeptHall, Knows, LockView, Look, MAX_GUARDS, MayPut, Package, PackageView, Parked, Place, Put, Ready, STOP, Sat, Stop}
use Rattle.tc_hall.proofs.Vocabulary.{Stopped, HallTerms, Waiting, after_put, bare, code_of, fits_granted, get_elem?, gives, grants_adopted, keeps, kept, lock_in, locks, made, none, seen, slot_word, some, some-injective, stepped, threads, with_call}
use mathlib.Core.Option as maybe
use lib.Seq.{set-get_or}
use Rattle.atomic_table.proofs.Lists.{set_here, set_else, at_longer, at_last}
use Rattle.tc_journal.proofs.Batching.{any_worker}
use Rattle.tc_segment.specs.View.{blocks_of}
use Rattle.tc_context.specs.View.{fits_of, fits_in}
use Rattle.tc_mutex_spec.proofs.ListLaws.{there}
use Rattle.tc_hall.specs.Places.{place_of}
use Rattle.tc_hall.specs.Steps.{numbers, given_of}
use Rattle.tc_hall.proofs.Placing.{moves, stays}
use Rattle.tc_hall.proofs.Packing.{puts_locks, locks_stay}
use Rattle.tc_hall.proofs.Listing.{listed_stays}
use Rattle.tc_hall.proofs.Ranks.{apart_stays, stop_stays, IsTrueCall, pass_kept, passes_stay, done_still, stops_still, stops_back}
use Rattle.std.proofs.lemmas.Bool.Decides.{nat_tests}
use Rattle.std.proofs.Common.{◌-◌, if◌then◌else◌}
use Rattle.tc_hall.proofs.Moves.{St, is_out}
use Rattle.tc_hall.proofs.Cases.{clash, same_some, clash_at}
use Rattle.tc_lemmas.proofs.Lists.{at_end}

pub place_codes : (p : Place) → place_of (code_of p) ≡ p
unfolding place_of
place_codes Ready = refl
place_codes Parked = refl
place_codes Done = refl
place_codes (Waiting lock) =
    let a : (256 + lock == 0) ≡ false = grind (arith, nat_tests) in
    let b : (256 + lock == 1) ≡ false = grind (arith, nat_tests) in
    let c : (256 + lock == 2) ≡ false = grind (arith, nat_tests) in
    let d : 256 + lock - 256 ≡ lock = omega arith in
    ap (λ (z : Bool). if z then Ready else (if 256 + lock == 1 then Parked else (if 256 + lock == 2 then Done else Waiting (256 + lock - 256)))) a
    ∙ (ap (λ (z : Bool). if z then Parked else (if 256 + lock == 2 then Done else Waiting (256 + lock - 256))) b
    ∙ (ap (λ (z : Bool). if z then Done else Waiting (256 + lock - 256)) c ∙ ap (λ (z : ℕ). Waiting z) d))

pub code_low : (m : ℕ) (p : Place) → IsInRange m p → m ≤ MAX_GUARDS → code_of p < 512
code_low m Ready r h = omega arith
code_low m Parked r h = omega arith
code_low m Done r h = omega arith
code_low m (Waiting lock) r h = omega arith

abbrev pub filled : Knows → Place → PackageView → Sat
filled v place q = (record (after_put v q place) { open_slot = None }, [])

-- a grant that isn't Adopted fits all workers or none
pub fits_all : (q : PackageView) (w u : ℕ) → grants_adopted q.granted ≡ false → fits_of q w ≡ true → fits_of q u ≡ true
fits_all q w u a e = go q.granted a e
  where
    go : (o : Option Grant) → grants_adopted o ≡ false → fits_granted q.context o w ≡ true → fits_granted q.context o u ≡ true
    go None a e = refl
    go (Some g) a e = within (lock_in q.context.locks g.lock) e
      where
        within : (x : Option LockView) → fits_in x g.lock g.kind w ≡ true → fits_in x g.lock g.kind u ≡ true
        within None e = refl
        within (Some l) e = sym (any_worker g.lock l.journal.limit (blocks_of l) g.kind w u a) ∙ e

module _ (k : HallTerms) where
  shows_stop : (s : St k) (r : KeptHall k s) (id : ℕ) (v : Knows) → get_elem? s.views id ≡ some v → HasStop v → slice_index s.words STOP ≡ 1
  shows_stop s r id v at (made i e) = (r.passes id v at).stop i e
  shows_stop s r id v at (seen i e) = (r.passes id v at).stopped i e

  -- the filled slot goes home
  pub fills_kept : (s : St k) (r : KeptHall k s) (id : ℕ) (place : Place) (v : Knows) (q : PackageView) → get_elem? s.views id ≡ some v → v.open_slot ≡ Some q.context.thread → v.spent ≡ false → IsInRange (locks k) place → MayPut place v q
      → KeptHall k (stepped s (slot_word q.context.thread) (code_of place) id ((q.context.thread, Some (Package q)) ∷ []) (record (after_put v q (place_of (code_of place))) { open_slot = None }) gives)
  fills_kept s r id place v q at open_slot live range may =
      let t : ℕ = q.context.thread in
      let code : ℕ = code_of place in
      let w : Knows = record (after_put v q (place_of code)) { open_slot = None } in
      let o = is_out k s r id t v (bare q) at may.has in
      let below : t < threads k = o.0 in
      let wide : length v.packages ≡ threads k = r.placed.sized id v at live in
      let low : code < 512 = code_low (locks k) place range r.told.limits.locks in
      let ws' : List ℕ = set s.words (slot_word t) code in
      let full : maybe.Option (Option Cargo) = some (Some (Package q)) in
      let done = done_still (threads k) s.words (slot_word t) code (λ e. let z = o.3 in omega arith) in
      let stops = stops_still s.words (slot_word t) code (λ e. omega arith) in
      let old = r.passes id v at in
      let here : get_elem? w.packages t ≡ some None = set_here v.packages t None (omega arith) in
      record {
        told = r.told;
        words = length-set s.words (slot_word t) code ∙ r.words;
        slots = length-set s.homes t full ∙ r.slots;
        clock = get_or-set_other s.words (slot_word t) CLOCK code 0 (λ e. omega arith) ∙ r.clock;
        placed = moves s.words ws' s.homes (set s.homes t full) s.views id v w at stops (threads k) r.told.places r.told.places t none r.placed (inr o.1)
            (λ u ne. get_or-set_other s.words (slot_word t) (slot_word u) code 0 (λ e. ne (omega arith))) (λ u ne. set_else s.homes t u full ne) (λ u ne. refl) r.told.law.all_packages
            record { worker = refl; spent = refl; long = length-set v.packages t None; out = λ u ne. set_else v.packages t u None ne; open_slot = λ u _ ne e. absurd (ne (same_some v.open_slot t u open_slot e)); hand_back = λ u _ ne e. absurd (clash None u refl e) }
            (λ p' e. let word : slice_index ws' (slot_word t) ≡ code = get_or-set_same s.words (slot_word t) code 0 (omega (arith, r.words)) in record {
              context = q;
              slot = set_here s.homes t full (omega (arith, r.slots));
              same = some-injective (bare q) p' (sym o.2 ∙ e);
              word = omega arith;
              order = subst (λ (z : ℕ). IsInOrder z q) (sym word) may.order;
              fits = record { stop = λ a. stops (shows_stop s r id v at (may.stop a)); fits = λ a u. fits_all q v.worker u a (may.fits a) };
            })
            (λ p' has'. absurd (clash_at (get_elem? w.packages t) p' here has'));
        locks_placed = puts_locks (threads k) (locks k) r.told.segments s.words ws' s.homes s.views id v w q t r.locks_placed r.told.law.all_states at live refl refl
            (λ i. get_or-set_other s.words (slot_word t) (slot_word (threads k + i)) code 0 (λ e. omega arith)) below (o.5 open_slot) open_slot refl may.locks;
        passes = passes_stay k.image.value k.workers r.told.history r.told.history s.words ws' (λ b e. e) done stops s.views id w r.passes
            (pass_kept k.image.value k.workers r.told.history r.told.history s.words ws' (λ b e. e) done stops v w old (refl, refl, refl, refl) (λ i u e. inl e) (λ i b e. inl e)
            (λ i c e. ⊎_elim (λ z. inl z) (λ (z : (i ≡ length v.calls) × (Put t (place_of code) (numbers q.context.locks) (given_of q) q.turns ≡ c)). inr (subst (IsTrueCall (threads k) ws') z.1 tt)) (at_end v.calls (Put t (place_of code) (numbers q.context.locks) (given_of q) q.turns) c i e))
            (λ u e. inl e));
        stop = λ e. stop_stays s.views id v w at (λ i h. (i, at_longer v.calls (Put t (place_of code) (numbers q.context.locks) (given_of q) q.turns ∷ []) i Stop h)) (r.stop (stops_back s.words (slot_word t) code (λ e. omega arith) e));
        apart = apart_stays s.views id v w at record { worker = refl; maker = refl; made = refl; spent = refl; joined = refl } live r.apart;
        listed = listed_stays r.told.history s.views id v w at r.listed record { worker = refl; maker = refl; made = omega arith; spent = refl; joined = refl; sealed = refl };
      }

  -- the package is as the history leaves it
  pub as_left : (s : St k) (r : KeptHall k s) (id : ℕ) (place : Place) (v : Knows) (q : PackageView) → get_elem? s.views id ≡ some v → MayPut place v q → IsAsLeft k v q
  as_left s r id place v q at may =
      let t = (r.told.law.packages_after q.context.thread (bare q) (is_out k s r id q.context.thread v (bare q) at may.has).2).follows in record {
        history = r.told.history;
        tells = r.told.law.tells;
        obeys = r.told.law.obeys;
        follows = record {
          thread = record { of = t.of; number = t.number; thread = t.thread; log = t.log };
          states = λ i l e. (let f = (r.told.law.states_after i (kept l) (r.locks_placed.owned id v i (kept l) at (may.locks i l e)).1).follows in
              record { of = f.of; number = f.number; lock = f.lock; entries = f.entries; bound = f.bound });
        };
        sealed = (r.passes id v at).sealed;
      }

  -- a call is told, and at most the stop becomes 1
  tells_kept : (s : St k) (r : KeptHall k s) (ws' : List ℕ) (id : ℕ) (v : Knows) (c : PassCall) → get_elem? s.views id ≡ some v → v.spent ≡ false → IsTrueCall (threads k) ws' c
      → ((j : ℕ) → j ≢ STOP → j < slot_word (threads k + locks k) → slice_index ws' j ≡ slice_index s.words j) → (slice_index s.words STOP ≡ 1 → slice_index ws' STOP ≡ 1) → length ws' ≡ length s.words
      → (slice_index ws' STOP ≡ 1 → HasStopped (set s.views id (with_call v c)))
      → KeptHall k record { words = ws'; homes = s.homes; views = set s.views id (with_call v c) }
  tells_kept s r ws' id v c at live true' words stops long stop =
      let w : Knows = with_call v c in
      let done : (u : ℕ) → u < threads k → slice_index s.words (slot_word u) ≡ 2 → slice_index ws' (slot_word u) ≡ 2 = λ u b e. words (slot_word u) (λ z. omega arith) (omega arith) ∙ e in
      let old = r.passes id v at in record {
        told = r.told;
        words = long ∙ r.words;
        slots = r.slots;
        clock = words CLOCK (λ z. omega arith) (omega arith) ∙ r.clock;
        placed = stays s.words ws' s.homes s.homes s.views id v w at stops (threads k) r.told.places r.placed r.told.law.all_packages (λ u b. words (slot_word u) (λ z. omega arith) (omega arith)) (λ u b. refl) refl refl refl (λ u b e. e) (λ u b e. e);
        locks_placed = locks_stay (threads k) (locks k) r.told.segments s.words ws' s.homes s.homes s.views id v w at (λ i b. words (slot_word (threads k + i)) (λ z. omega arith) (omega (arith, b, r.told.law.all_states))) (λ i. refl) (λ u q b e. e) (λ u q b e. e) refl refl (λ i e. e) (λ i e. e) r.locks_placed;
        passes = passes_stay k.image.value k.workers r.told.history r.told.history s.words ws' (λ b e. e) done stops s.views id w r.passes
            (pass_kept k.image.value k.workers r.told.history r.told.history s.words ws' (λ b e. e) done stops v w old (refl, refl, refl, refl) (λ i u e. inl e) (λ i b e. inl e)
            (λ i d e. ⊎_elim (λ z. inl z) (λ (z : (i ≡ length v.calls) × (c ≡ d)). inr (subst (IsTrueCall (threads k) ws') z.1 true')) (at_end v.calls c d i e)) (λ u e. inl e));
        stop = stop;
        apart = apart_stays s.views id v w at record { worker = refl; maker = refl; made = refl; spent = refl; joined = refl } live r.apart;
        listed = listed_stays r.told.history s.views id v w at r.listed record { worker = refl; maker = refl; made = omega arith; spent = refl; joined = refl; sealed = refl };
      }

  still_stopped : (s : St k) (r : KeptHall k s) (id : ℕ) (v : Knows) (c : PassCall) → get_elem? s.views id ≡ some v → slice_index s.words STOP ≡ 1 → HasStopped (set s.views id (with_call v c))
  still_stopped s r id v c at e = stop_stays s.views id v (with_call v c) at (λ i h. (i, at_longer v.calls (c ∷ []) i Stop h)) (r.stop e)

  -- a word is looked at
  pub look_kept : (s : St k) (r : KeptHall k s) (id t : ℕ) (v : Knows) → get_elem? s.views id ≡ some v → v.spent ≡ false
      → KeptHall k (stepped s (slot_word t) (slice_index s.words (slot_word t)) id [] (with_call v (Look t (slice_index s.words (slot_word t)))) keeps)
  look_kept s r id t v at live =
      let found : ℕ = slice_index s.words (slot_word t) in
      subst (λ (z : List ℕ). KeptHall k record { words = z; homes = s.homes; views = set s.views id (with_call v (Look t found)) }) (sym (set-get_or s.words (slot_word t) 0))
      (tells_kept s r s.words id v (Look t found) at live (λ b is. is) (λ j ne b. refl) (λ e. e) refl (still_stopped s r id v (Look t found) at))

  -- the stop is made
  pub stop_kept : (s : St k) (r : KeptHall k s) (id : ℕ) (v : Knows) → get_elem? s.views id ≡ some v → v.spent ≡ false → KeptHall k (stepped s STOP 1 id [] (with_call v Stop) keeps)
  stop_kept s r id v at live =
      let one : slice_index (set s.words STOP 1) STOP ≡ 1 = get_or-set_same s.words STOP 1 0 (omega (arith, r.words)) in
      tells_kept s r (set s.words STOP 1) id v Stop at live one
      (λ j ne b. get_or-set_other s.words STOP j 1 0 ne) (λ _. one) (length-set s.words STOP 1)
      (λ _. record { id = id; view = with_call v Stop; pass = set_here s.views id (with_call v Stop) (there s.views id v v at).0; place = length v.calls; call = at_last v.calls Stop (length v.calls) refl })

  -- the stop word is seen
  pub see_kept : (s : St k) (r : KeptHall k s) (id : ℕ) (v : Knows) → get_elem? s.views id ≡ some v → v.spent ≡ false → KeptHall k (stepped s STOP (slice_index s.words STOP) id [] (with_call v (Stopped (slice_index s.words STOP))) keeps)
  see_kept s r id v at live =
      let found : ℕ = slice_index s.words STOP in
      subst (λ (z : List ℕ). KeptHall k record { words = z; homes = s.homes; views = set s.views id (with_call v (Stopped found)) }) (sym (set-get_or s.words STOP 0))
      (tells_kept s r s.words id v (Stopped found) at live (λ is. is)
      (λ j ne b. refl) (λ e. e) refl (still_stopped s r id v (Stopped found) at))

  -- a call on a line is told, and a word behind those of the slots changes
  pub line_kept : (s : St k) (r : KeptHall k s) (id i word left : ℕ) (v : Knows) (c : QueueCall) → get_elem? s.views id ≡ some v → v.spent ≡ false → slot_word (threads k + locks k) ≤ word
      → KeptHall k (stepped s word left id [] (with_call v (Line i c)) keeps)
  line_kept s r id i word left v c at live behind =
      let same : (j : ℕ) → j < slot_word (threads k + locks k) → slice_index (set s.words word left) j ≡ slice_index s.words j = λ j b. get_or-set_other s.words word j left 0 (λ e. omega arith) in
      let stop : slice_index (set s.words word left) STOP ≡ slice_index s.words STOP = same STOP (omega arith) in
      tells_kept s r (set s.words word left) id v (Line i c) at live tt (λ j ne b. same j b) (λ e. stop ∙ e) (length-set s.words word left) (λ e. still_stopped s r id v (Line i c) at (sym stop ∙ e))
