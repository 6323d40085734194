-- Each step on a lock keeps the rule.
use Rattle.std.proofs.Common.{◌≡◌, ◌≢◌, ◌⊎◌, ℕ, ◌+◌, ◌<◌, Bool, true, false, List, [], ◌∷◌, length, set, sym, refl, ap, ◌∙◌, subst, ⊎_elim, inl, inr, arith, Option, Some, None, slice_index, length-set, get_or-set_other, get_or-set_same}
use Rattle.tc_hall.proofs.Vocabulary.{Take, Block, PassCall, Cargo, Free, HasLock, Homes, IsLockHome, IsLockOut, IsStateAfter, KeptHall, Knows, LiesLock, Lock, LockView, MayFree, Spot, Stop, HallTerms, after_free, after_take, get_elem?, gives, has, home, inside, kept, locks, none, out, slot_word, some, some-injective, some-ne-none, stepped, takes, threads}
use mathlib.Core.Option as maybe
use lib.Seq.{set-get_or}
use Rattle.atomic_table.proofs.Lists.{set_here, set_else, at_longer}
use Rattle.tc_mutex_spec.proofs.ListLaws.{there}
use Rattle.tc_hall.proofs.Placing.{stays}
use Rattle.tc_hall.proofs.Packing.{IsElseLock, lock_moves, out_of}
use Rattle.tc_hall.proofs.Listing.{listed_stays}
use Rattle.tc_hall.proofs.Ranks.{apart_stays, stop_stays, IsTrueCall, pass_kept, passes_stay, done_still, stops_still, stops_back}
use Rattle.tc_hall.proofs.Moves.{St, some_same}
use Rattle.tc_hall.proofs.Cases.{clash, same_some, clash_at, same_at, same_lock}
use Rattle.tc_lemmas.proofs.Lists.{at_end, something_at}
use Rattle.tc_lemmas.proofs.Tests.{true_or_false}

pub lock_home_of : (n : ℕ) (ws : List ℕ) (hs : Homes) (vs : List Knows) (i : ℕ) (l : LockView) (s : Spot) → LiesLock n ws hs vs i l s → slice_index ws (slot_word (n + i)) ≡ 0 → (s ≡ home) × IsLockHome n ws hs i l
lock_home_of n ws hs vs i l home o e = (refl, o)
lock_home_of n ws hs vs i l (inside t) o e = let w = o.word in absurd (omega arith)
lock_home_of n ws hs vs i l (out j) o e = let w = o.word in absurd (omega arith)

module _ (k : HallTerms) where
  -- where a lock that a pass has out lies
  pub is_lock_out : (s : St k) (r : KeptHall k s) (id i : ℕ) (v : Knows) (l : LockView) → get_elem? s.views id ≡ some v → HasLock v i l
      → (i < locks k) × (r.locks_placed.spot i ≡ out id) × (get_elem? r.told.segments i ≡ some l) × (slice_index s.words (slot_word (threads k + i)) ≡ 1)
      × (v.open_slot ≢ Some (threads k + i) → get_elem? s.homes (threads k + i) ≡ some (some None)) × (v.open_slot ≡ Some (threads k + i) → get_elem? s.homes (threads k + i) ≡ some none)
  is_lock_out s r id i v l at has =
      let o = r.locks_placed.owned id v i l at has in
      let lies : IsLockOut (threads k) s.words s.homes s.views i l id = out_of (threads k) s.words s.homes s.views i l id (r.locks_placed.spot i) o.0 (r.locks_placed.each i l o.1) in
      let same : v ≡ lies.view = some-injective v lies.view (sym at ∙ lies.pass) in (
        (let b = (there r.told.segments i l l o.1).0 in omega (arith, r.told.law.all_states)),
        o.0,
        o.1,
        lies.word,
        (λ free. lies.empty (λ e. free (ap (λ (z : Knows). z.open_slot) same ∙ e))),
        (λ e. lies.held (ap (λ (z : Knows). z.open_slot) (sym same) ∙ e)),
      )

  -- so the pass is live
  pub has_live : (s : St k) (r : KeptHall k s) (id i : ℕ) (v : Knows) (l : LockView) → get_elem? s.views id ≡ some v → HasLock v i l → v.spent ≡ false
  has_live s r id i v l at has =
      ⊎_elim (λ (e : v.spent ≡ true). absurd (some-ne-none (Some l) (sym (ap (λ (z : List (Option LockView)). get_elem? z i) (sym (r.apart.spent id v at e)) ∙ has)))) (λ (e : v.spent ≡ false). e) (true_or_false v.spent)

  -- the state in the slot of a lock that is home, as the rule has it there
  pub record LockAtHome (s : St k) (r : KeptHall k s) (i : ℕ) (l : LockView) : Type 0 where
    pub stands : LockView
    pub placed : get_elem? r.told.segments i ≡ some stands
    pub spot : r.locks_placed.spot i ≡ home
    pub lies : IsLockHome (threads k) s.words s.homes i stands
    pub same : lies.segment ≡ l
    pub number : lies.segment.number ≡ i

  pub lock_at_home : (s : St k) (r : KeptHall k s) (i : ℕ) (l : LockView) → i < locks k → slice_index s.words (slot_word (threads k + i)) ≡ 0 → get_elem? s.homes (threads k + i) ≡ some (some (Some (Lock l))) → LockAtHome s r i l
  lock_at_home s r i l below word slot =
      let place = something_at r.told.segments i (omega (arith, r.told.law.all_states, below)) in
      let at_home = lock_home_of (threads k) s.words s.homes s.views i place.0 (r.locks_placed.spot i) (r.locks_placed.each i place.0 place.1) word in
      let law : IsStateAfter k.image.value k.fuel k.limit r.told.history i place.0 = r.told.law.states_after i place.0 place.1 in
      record {
        stands = place.0;
        placed = place.1;
        spot = at_home.0;
        lies = at_home.1;
        same = same_lock (get_elem? s.homes (threads k + i)) at_home.1.segment l at_home.1.slot slot;
        number = ap (λ (z : LockView). z.number) at_home.1.same ∙ law.follows.number;
      }

  -- one word of a lock, its slot and the pass's view of it change
  lock_step : (s : St k) (r : KeptHall k s) (id i word : ℕ) (v w : Knows) (a : maybe.Option (Option Cargo)) (to : Spot) → get_elem? s.views id ≡ some v → v.spent ≡ false → i < locks k
      → (r.locks_placed.spot i ≡ home) ⊎ (r.locks_placed.spot i ≡ out id)
      → IsElseLock (threads k) i v w → w.image ≡ v.image → w.worker ≡ v.worker → w.packages ≡ v.packages → w.maker ≡ v.maker → w.made ≡ v.made → w.joined ≡ v.joined → w.pinned ≡ v.pinned → w.sealed ≡ v.sealed
      → ((j : ℕ) (c : PassCall) → get_elem? w.calls j ≡ some c → (get_elem? v.calls j ≡ some c) ⊎ IsTrueCall (threads k) (set s.words (slot_word (threads k + i)) word) c)
      → ((j : ℕ) → get_elem? v.calls j ≡ some Stop → (e : ℕ) × (get_elem? w.calls e ≡ some Stop))
      → ((u : ℕ) → u < threads k → v.open_slot ≢ Some u) → ((u : ℕ) → u < threads k → w.open_slot ≢ Some u)
      → slice_index s.words (slot_word (threads k + i)) ≢ 2
      → ((l : LockView) → get_elem? r.told.segments i ≡ some l → LiesLock (threads k) (set s.words (slot_word (threads k + i)) word) (set s.homes (threads k + i) a) (set s.views id w) i l to)
      → ((l : LockView) → HasLock w i l → (to ≡ out id) × (get_elem? r.told.segments i ≡ some l))
      → KeptHall k record { words = set s.words (slot_word (threads k + i)) word; homes = set s.homes (threads k + i) a; views = set s.views id w }
  lock_step s r id i word v w a to at live below mine e image worker packages maker made' joined pinned sealed' calls shows open_slot open_slot' not_two now own =
      let n : ℕ = threads k in
      let j : ℕ = slot_word (n + i) in
      let ws' : List ℕ = set s.words j word in
      let done = done_still (threads k) s.words j word not_two in
      let stops = stops_still s.words j word (λ e. omega arith) in
      let old = r.passes id v at in record {
        told = r.told;
        words = length-set s.words j word ∙ r.words;
        slots = length-set s.homes (n + i) a ∙ r.slots;
        clock = get_or-set_other s.words j 0 word 0 (λ e. omega arith) ∙ r.clock;
        placed = stays s.words ws' s.homes (set s.homes (n + i) a) s.views id v w at stops n r.told.places r.placed r.told.law.all_packages
            (λ u b. get_or-set_other s.words j (slot_word u) word 0 (λ e. omega arith)) (λ u b. set_else s.homes (n + i) u a (λ e. omega arith)) worker e.spent packages
            (λ u b h. absurd (open_slot u b h)) (λ u b h. absurd (open_slot' u b h));
        locks_placed = lock_moves n (locks k) r.told.segments s.words ws' s.homes (set s.homes (n + i) a) s.views id v w at i to r.locks_placed mine
            (λ j' ne. get_or-set_other s.words j (slot_word (n + j')) word 0 (λ e. ne (omega arith))) (λ u ne. set_else s.homes (n + i) u a ne) e now own;
        passes = passes_stay k.image.value k.workers r.told.history r.told.history s.words ws' (λ b e. e) done stops s.views id w r.passes
            (pass_kept k.image.value k.workers r.told.history r.told.history s.words ws' (λ b e. e) done stops v w old (worker, e.spent, image, ap length pinned) (λ i u h. inl (ap (λ (l : List ℕ). get_elem? l i) (sym joined) ∙ h))
            (λ i b h. inl (ap (λ (l : List Block). get_elem? l i) (sym sealed') ∙ h)) calls (λ t h. inl (ap (λ (l : List Bool). get_elem? l t) (sym pinned) ∙ h)));
        stop = λ h. stop_stays s.views id v w at shows (r.stop (stops_back s.words j word (λ e. omega arith) h));
        apart = apart_stays s.views id v w at record { worker = worker; maker = maker; made = made'; spent = e.spent; joined = joined } live r.apart;
        listed = listed_stays r.told.history s.views id v w at r.listed record { worker = worker; maker = maker; made = omega arith; spent = e.spent; joined = joined; sealed = sealed' };
      }

  -- the state of a lock that is home is taken
  pub take_kept : (s : St k) (r : KeptHall k s) (id i : ℕ) (v : Knows) (p : LockView) (h : IsLockHome (threads k) s.words s.homes i p) → get_elem? s.views id ≡ some v → v.spent ≡ false → v.open_slot ≡ None → i < locks k → slice_index s.words (slot_word (threads k + i)) ≡ 0
      → r.locks_placed.spot i ≡ home → get_elem? r.told.segments i ≡ some p → h.segment.number ≡ i
      → KeptHall k (stepped s (slot_word (threads k + i)) 1 id [] (record (after_take v h.segment) { open_slot = Some (threads k + i) }) (takes (threads k + i) (Some (Lock h.segment))))
  take_kept s r id i v p h at live free below hit is_home segment number =
      let n : ℕ = threads k in
      let j : ℕ = slot_word (n + i) in
      let l : LockView = h.segment in
      let w : Knows = record (after_take v l) { open_slot = Some (n + i) } in
      let wide : length v.locks ≡ locks k = r.locks_placed.sized id v at live in
      let here : HasLock w i (kept l) = subst (λ (z : ℕ). get_elem? (set v.locks z (Some (kept l))) i ≡ some (Some (kept l))) (sym number) (set_here v.locks i (Some (kept l)) (omega arith)) in
      lock_step s r id i 1 v w none (out id) at live below (inl is_home)
      record { spent = refl; long = length-set v.locks l.number (Some (kept l)); out = λ e ne. set_else v.locks l.number e (Some (kept l)) (λ z. ne (z ∙ number)); open_slot = λ e ne h. absurd (clash v.open_slot (n + e) free h); hand_back = λ e ne h. let z = some_same (n + e) (n + i) h in absurd (ne (omega arith)) }
      refl refl refl refl refl refl refl refl
      (λ e c h. ⊎_elim (λ z. inl z) (λ (z : (e ≡ length v.calls) × (Take l.number ≡ c)). inr (subst (IsTrueCall n (set s.words j 1)) z.1 tt)) (at_end v.calls (Take l.number) c e h))
      (λ e h. (e, at_longer v.calls (Take l.number ∷ []) e Stop h))
      (λ u b h. clash v.open_slot u free h) (λ u b h. let z = some_same u (n + i) h in omega arith) (λ h. let z = hit in omega arith)
      (λ l' e. record {
        view = w;
        pass = set_here s.views id w (there s.views id v v at).0;
        has = here ∙ ap (λ (z : LockView). some (Some z)) (h.same ∙ some-injective p l' (sym segment ∙ e));
        word = get_or-set_same s.words j 1 0 (omega (arith, r.words));
        empty = λ out. absurd (out refl);
        held = λ _. set_here s.homes (n + i) none (omega (arith, r.slots));
      })
      (λ l' has. (refl, segment ∙ ap (λ (z : LockView). some z) (sym h.same ∙ same_at (get_elem? w.locks i) (kept l) l' here has)))

  -- the filled slot of a lock goes home
  pub free_kept : (s : St k) (r : KeptHall k s) (id : ℕ) (v : Knows) (l : LockView) → get_elem? s.views id ≡ some v → v.open_slot ≡ Some (threads k + l.number) → v.spent ≡ false → MayFree v l
      → KeptHall k (stepped s (slot_word (threads k + l.number)) 0 id ((threads k + l.number, Some (Lock l)) ∷ []) (record (after_free v l) { open_slot = None }) gives)
  free_kept s r id v l at open_slot live may =
      let n : ℕ = threads k in
      let i : ℕ = l.number in
      let w : Knows = record (after_free v l) { open_slot = None } in
      let o = is_lock_out s r id i v (kept l) at may.has in
      let wide : length v.locks ≡ locks k = r.locks_placed.sized id v at live in
      let here : get_elem? w.locks i ≡ some None = set_here v.locks i None (let z = o.0 in omega arith) in
      lock_step s r id i 0 v w (some (Some (Lock l))) home at live o.0 (inr o.1)
      record { spent = refl; long = length-set v.locks i None; out = λ e ne. set_else v.locks i e None ne; open_slot = λ e ne h. absurd (ne (let z = same_some v.open_slot (n + i) (n + e) open_slot h in omega arith)); hand_back = λ e ne h. absurd (clash None (n + e) refl h) }
      refl refl refl refl refl refl refl refl
      (λ e c h. ⊎_elim (λ z. inl z) (λ (z : (e ≡ length v.calls) × (Free i ≡ c)). inr (subst (IsTrueCall n (set s.words (slot_word (n + i)) 0)) z.1 tt)) (at_end v.calls (Free i) c e h))
      (λ e h. (e, at_longer v.calls (Free i ∷ []) e Stop h))
      (λ u b h. let z = same_some v.open_slot (n + i) u open_slot h in omega arith) (λ u b h. clash None u refl h) (λ h. let z = o.3 in omega arith)
      (λ l' e. record {
        segment = l;
        slot = set_here s.homes (n + i) (some (Some (Lock l))) (let z = o.0 in omega (arith, r.slots));
        same = some-injective (kept l) l' (sym o.2 ∙ e);
        word = get_or-set_same s.words (slot_word (n + i)) 0 0 (let z = o.0 in omega (arith, r.words));
        rests = may.rests;
      })
      (λ l' has. absurd (clash_at (get_elem? w.locks i) l' here has))

  -- the pass takes the empty slot of a lock that it has out, or gives it back
  lock_slot_moves : (s : St k) (r : KeptHall k s) (id i : ℕ) (v w : Knows) (l : LockView) (b : maybe.Option (Option Cargo)) → get_elem? s.views id ≡ some v → v.spent ≡ false → HasLock v i l
      → ((w.open_slot ≡ Some (threads k + i)) × (v.open_slot ≡ None) × (b ≡ none)) ⊎ ((w.open_slot ≡ None) × (v.open_slot ≡ Some (threads k + i)) × (b ≡ some None)) → w ≡ record v { open_slot = w.open_slot }
      → KeptHall k record { words = s.words; homes = set s.homes (threads k + i) b; views = set s.views id w }
  lock_slot_moves s r id i v w l b at live has hands same =
      let n : ℕ = threads k in
      let o = is_lock_out s r id i v l at has in
      let word : ℕ = slice_index s.words (slot_word (n + i)) in
      let again : set s.words (slot_word (n + i)) word ≡ s.words = set-get_or s.words (slot_word (n + i)) 0 in
      subst (λ (z : List ℕ). KeptHall k record { words = z; homes = set s.homes (n + i) b; views = set s.views id w }) again
      (lock_step s r id i word v w b (out id) at live o.0 (inr o.1)
      record { spent = ap (λ (z : Knows). z.spent) same; long = ap (λ (z : Knows). length z.locks) same; out = λ e ne. ap (λ (z : Knows). get_elem? z.locks e) same; open_slot = λ e ne h. absurd (to (n + e) (λ z. ne (omega arith)) h); hand_back = λ e ne h. absurd (back (n + e) (λ z. ne (omega arith)) h) }
      (ap (λ (z : Knows). z.image) same) (ap (λ (z : Knows). z.worker) same) (ap (λ (z : Knows). z.packages) same) (ap (λ (z : Knows). z.maker) same) (ap (λ (z : Knows). z.made) same) (ap (λ (z : Knows). z.joined) same) (ap (λ (z : Knows). z.pinned) same) (ap (λ (z : Knows). z.sealed) same)
      (λ e c h. inl (ap (λ (z : Knows). get_elem? z.calls e) (sym same) ∙ h)) (λ e h. (e, ap (λ (z : Knows). get_elem? z.calls e) same ∙ h))
      (λ u b h. to u (λ z. omega arith) h) (λ u b h. back u (λ z. omega arith) h) (λ h. let z = o.3 in omega arith)
      (λ l' e. record {
        view = w;
        pass = set_here s.views id w (there s.views id v v at).0;
        has = ap (λ (z : Knows). get_elem? z.locks i) same ∙ (has ∙ ap (λ (z : LockView). some (Some z)) (some-injective l l' (sym o.2 ∙ e)));
        word = ap (λ (z : List ℕ). slice_index z (slot_word (n + i))) again ∙ o.3;
        empty = λ free. ⊎_elim (λ (z : (w.open_slot ≡ Some (n + i)) × (v.open_slot ≡ None) × (b ≡ none)). absurd (free z.0)) (λ (z : (w.open_slot ≡ None) × (v.open_slot ≡ Some (n + i)) × (b ≡ some None)). here z.2 o.0) hands;
        held = λ e. ⊎_elim (λ (z : (w.open_slot ≡ Some (n + i)) × (v.open_slot ≡ None) × (b ≡ none)). here z.2 o.0) (λ (z : (w.open_slot ≡ None) × (v.open_slot ≡ Some (n + i)) × (b ≡ some None)). absurd (clash w.open_slot (n + i) z.0 e)) hands;
      })
      (λ l' has'. (refl, o.2 ∙ ap (λ (z : LockView). some z) (same_at (get_elem? v.locks i) l l' has (sym (ap (λ (z : Knows). get_elem? z.locks i) same) ∙ has')))))
    where
      to : (u : ℕ) → u ≢ threads k + i → v.open_slot ≡ Some u → ⊥
      to u ne e = ⊎_elim (λ (z : (w.open_slot ≡ Some (threads k + i)) × (v.open_slot ≡ None) × (b ≡ none)). clash v.open_slot u z.1 e) (λ (z : (w.open_slot ≡ None) × (v.open_slot ≡ Some (threads k + i)) × (b ≡ some None)). ne (same_some v.open_slot (threads k + i) u z.1 e)) hands

      back : (u : ℕ) → u ≢ threads k + i → w.open_slot ≡ Some u → ⊥
      back u ne e = ⊎_elim (λ (z : (w.open_slot ≡ Some (threads k + i)) × (v.open_slot ≡ None) × (b ≡ none)). ne (same_some w.open_slot (threads k + i) u z.0 e)) (λ (z : (w.open_slot ≡ None) × (v.open_slot ≡ Some (threads k + i)) × (b ≡ some None)). clash w.open_slot u z.0 e) hands

      here : {c : maybe.Option (Option Cargo)} → b ≡ c → i < locks k → get_elem? (set s.homes (threads k + i) b) (threads k + i) ≡ some c
      here e h = set_here s.homes (threads k + i) b (omega (arith, r.slots)) ∙ ap (λ (z : maybe.Option (Option Cargo)). some z) e

  -- the empty slot of a lock goes back
  pub lay_lock_kept : (s : St k) (r : KeptHall k s) (id i : ℕ) (v : Knows) (l : LockView) → get_elem? s.views id ≡ some v → v.spent ≡ false → v.open_slot ≡ Some (threads k + i) → HasLock v i l
      → KeptHall k (stepped s (slot_word (threads k + i)) (slice_index s.words (slot_word (threads k + i))) id ((threads k + i, None) ∷ []) (record v { open_slot = None }) gives)
  lay_lock_kept s r id i v l at live open_slot has =
      let w : Knows = record v { open_slot = None } in
      subst (λ (z : List ℕ). KeptHall k record { words = z; homes = set s.homes (threads k + i) (some None); views = set s.views id w }) (sym (set-get_or s.words (slot_word (threads k + i)) 0))
      (lock_slot_moves s r id i v w l (some None) at live has (inr (refl, open_slot, refl)) refl)

  -- the pass takes the empty slot of a lock that it has out
  pub reach_lock_kept : (s : St k) (r : KeptHall k s) (id i : ℕ) (v : Knows) (l : LockView) → get_elem? s.views id ≡ some v → v.spent ≡ false → v.open_slot ≡ None → HasLock v i l
      → KeptHall k (stepped s (slot_word (threads k + i)) (slice_index s.words (slot_word (threads k + i))) id [] (record v { open_slot = Some (threads k + i) }) (takes (threads k + i) None))
  reach_lock_kept s r id i v l at live free has =
      let slot : ℕ = threads k + i in
      let w : Knows = record v { open_slot = Some slot } in
      subst (λ (z : List ℕ). KeptHall k record { words = z; homes = set s.homes slot none; views = set s.views id w }) (sym (set-get_or s.words (slot_word slot) 0))
      (lock_slot_moves s r id i v w l none at live has (inl (refl, free, refl)) refl)
