-- Each step on a package keeps the rule.
use Rattle.std.proofs.Common.{◌≡◌, ◌≢◌, ◌⊎◌, ℕ, ◌+◌, ◌<◌, Bool, true, false, List, [], ◌∷◌, length, set, sym, refl, ap, ◌∙◌, subst, ⊎_elim, inl, inr, arith, Option, Some, None, slice_index, length-set, get_or-set_other, get_or-set_same}
use Rattle.tc_hall.proofs.Vocabulary.{CLOCK, Cargo, Gets, Has, HasLock, Homes, IsHome, IsPackageAfter, KeptHall, Knows, Lies, LockView, Package, PackageView, HallTerms, Stop, after_claim, after_miss, bare, claim_call, get_elem?, gives, is_pinned, keeps, kept, locked_in, locks, none, slot_word, some, some-injective, some-ne-none, stepped, takes, threads}
use mathlib.Core.Logic.{dite}
use mathlib.Core.Option as maybe
use native.Mathlib.Decide.{ℕ_discrete}
use lib.Seq.{set-get_or}
use Rattle.atomic_table.specs.Table.{State}
use Rattle.atomic_table.proofs.Lists.{at_set, set_here, set_else, at_longer}
use Rattle.tc_mutex_spec.proofs.ListLaws.{there}
use Rattle.tc_hall.specs.Rule.{IsPackageOut}
use Rattle.tc_hall.proofs.Placing.{moves, stays}
use Rattle.tc_hall.proofs.Cases.{clash, same_some, clash_at, same_at, same_package, out_inside}
use Rattle.tc_hall.proofs.Packing.{claims_locks, locks_stay}
use Rattle.tc_hall.proofs.LockLists.{add_all-has}
use Rattle.tc_hall.proofs.Outs.{package_came, called_claimed}
use Rattle.tc_hall.proofs.Listing.{listed_stays}
use Rattle.tc_hall.proofs.Ranks.{apart_stays, stop_stays, IsTrueCall, pass_kept, pass_same, passes_stay, done_still, stops_still, stops_back}
use Rattle.tc_lemmas.proofs.Lists.{at_end, something_at}

pub some_same : (u t : ℕ) → Some t ≡ Some u → u ≡ t
some_same u t e = cc e

pub home_of : (ws : List ℕ) (hs : Homes) (vs : List Knows) (t : ℕ) (p : PackageView) (o : maybe.Option ℕ) → Lies ws hs vs t p o → slice_index ws (slot_word t) < 512 → (o ≡ none) × IsHome ws hs t p
home_of ws hs vs t p none l h = (refl, l)
home_of ws hs vs t p (some id) l h = let w = l.word in absurd (omega arith)

pub out_of : (ws : List ℕ) (hs : Homes) (vs : List Knows) (t id : ℕ) (p : PackageView) (o : maybe.Option ℕ) → Lies ws hs vs t p o → o ≡ some id → IsPackageOut ws hs vs t p id
out_of ws hs vs t id p none l e = absurd (some-ne-none id (sym e))
out_of ws hs vs t id p (some j) l e = subst (IsPackageOut ws hs vs t p) (some-injective j id e) l

module _ (k : HallTerms) where
  abbrev pub St : Type 0
  St = State (Option Cargo) Knows

  -- where a package or a lock that a pass has out lies
  pub is_out : (s : St) (r : KeptHall k s) (id t : ℕ) (v : Knows) (p : PackageView) → get_elem? s.views id ≡ some v → Has v t p
      → (t < threads k) × (r.placed.holder t ≡ some id) × (get_elem? r.told.places t ≡ some p) × (slice_index s.words (slot_word t) ≡ 512 + v.worker) × (v.open_slot ≢ Some t → get_elem? s.homes t ≡ some (some None)) × (v.open_slot ≡ Some t → get_elem? s.homes t ≡ some none)
  is_out s r id t v p at has =
      let o = r.placed.owned id v t p at has in
      let l : IsPackageOut s.words s.homes s.views t p id = out_of s.words s.homes s.views t id p (r.placed.holder t) (r.placed.each t p o.1) o.0 in
      let same : v ≡ l.view = some-injective v l.view (sym at ∙ l.pass) in (
        (let b = (there r.told.places t p p o.1).0 in omega (arith, r.told.law.all_packages)),
        o.0,
        o.1,
        l.word ∙ ap (λ (z : Knows). 512 + z.worker) (sym same),
        (λ free. l.slot (λ e. free (ap (λ (z : Knows). z.open_slot) same ∙ e))),
        (λ e. l.held (ap (λ (z : Knows). z.open_slot) (sym same) ∙ e)),
      )

  -- a compare-and-swap fails
  pub misses : (s : St) (i id : ℕ) (v : Knows) → get_elem? s.views id ≡ some v → v.spent ≡ false → KeptHall k s → KeptHall k (stepped s i (slice_index s.words i) id [] (after_miss v i (slice_index s.words i)) keeps)
  misses s i id v at live r =
      let w : Knows = after_miss v i (slice_index s.words i) in
      let h = r.told.history in
      subst (λ (z : List ℕ). KeptHall k record { words = z; homes = s.homes; views = set s.views id w }) (sym (set-get_or s.words i 0)) record {
        told = r.told;
        words = r.words;
        slots = r.slots;
        clock = r.clock;
        placed = stays s.words s.words s.homes s.homes s.views id v w at (λ e. e) (threads k) r.told.places r.placed r.told.law.all_packages (λ u b. refl) (λ u b. refl) refl refl refl (λ u b e. e) (λ u b e. e);
        locks_placed = locks_stay (threads k) (locks k) r.told.segments s.words s.words s.homes s.homes s.views id v w at (λ i b. refl) (λ i. refl) (λ u q b e. e) (λ u q b e. e) refl refl (λ i e. e) (λ i e. e) r.locks_placed;
        passes = passes_stay k.image.value k.workers h h s.words s.words (λ b e. e) (λ u b e. e) (λ e. e) s.views id w r.passes (pass_same k.image.value k.workers h h s.words s.words (λ b e. e) (λ u b e. e) (λ e. e) v w (r.passes id v at) (refl, refl, refl, refl) refl refl refl refl);
        stop = λ e. stop_stays s.views id v w at (λ i e. (i, e)) (r.stop e);
        apart = apart_stays s.views id v w at record { worker = refl; maker = refl; made = refl; spent = refl; joined = refl } live r.apart;
        listed = listed_stays r.told.history s.views id v w at r.listed record { worker = refl; maker = refl; made = omega arith; spent = refl; joined = refl; sealed = refl };
      }

  abbrev pub taken : Knows → ℕ → ℕ → PackageView → Knows
  taken v t word q = record (after_claim v word q) { open_slot = Some t }

  pub takes_home : (s : St) (r : KeptHall k s) (id t word new : ℕ) (v : Knows) (p : PackageView) (h : IsHome s.words s.homes t p) → get_elem? s.views id ≡ some v → v.spent ≡ false → v.open_slot ≡ None → t < threads k → new ≡ 512 + v.worker
      → slice_index s.words (slot_word t) ≢ 2 → get_elem? r.told.places t ≡ some p → r.placed.holder t ≡ none → h.context.context.thread ≡ t → KeptHall k (stepped s (slot_word t) new id [] (taken v t word h.context) (takes t (Some (Package h.context))))
  takes_home s r id t word new v p h at live free below new_is not_two place is_home thread =
      let q : PackageView = h.context in
      let w : Knows = taken v t word q in
      let ws' : List ℕ = set s.words (slot_word t) new in
      let wide : length v.packages ≡ threads k = r.placed.sized id v at live in
      let here : get_elem? w.packages t ≡ some (Some (bare q)) = subst (λ (z : ℕ). get_elem? (set v.packages z (Some (bare q))) t ≡ some (Some (bare q))) (sym thread) (set_here v.packages t (Some (bare q)) (omega arith)) in
      let done = done_still (threads k) s.words (slot_word t) new not_two in
      let stops = stops_still s.words (slot_word t) new (λ e. omega arith) in
      let old = r.passes id v at in record {
        told = r.told;
        words = length-set s.words (slot_word t) new ∙ r.words;
        slots = length-set s.homes t none ∙ r.slots;
        clock = get_or-set_other s.words (slot_word t) CLOCK new 0 (λ e. omega arith) ∙ r.clock;
        placed = moves s.words ws' s.homes (set s.homes t none) s.views id v w at stops (threads k) r.told.places r.told.places t (some id) r.placed (inl is_home)
            (λ u ne. get_or-set_other s.words (slot_word t) (slot_word u) new 0 (λ e. ne (omega arith))) (λ u ne. set_else s.homes t u none ne) (λ u ne. refl) r.told.law.all_packages
            record { worker = refl; spent = refl; long = length-set v.packages q.context.thread (Some (bare q)); out = λ u ne. set_else v.packages q.context.thread u (Some (bare q)) (λ e. ne (e ∙ thread)); open_slot = λ u _ ne e. absurd (clash v.open_slot u free e); hand_back = λ u _ ne e. absurd (ne (some_same u t e)) }
            (λ p' e. record {
              view = w;
              pass = set_here s.views id w (there s.views id v v at).0;
              has = here ∙ (ap (λ (z : PackageView). some (Some z)) h.same ∙ ap (λ (z : PackageView). some (Some z)) (some-injective p p' (sym place ∙ e)));
              word = get_or-set_same s.words (slot_word t) new 0 (omega (arith, r.words)) ∙ new_is;
              slot = λ out. absurd (out refl);
              held = λ _. set_here s.homes t none (omega (arith, r.slots));
            })
            (λ p' has. (refl, place ∙ ap (λ (z : PackageView). some z) (sym h.same ∙ same_at (get_elem? w.packages t) (bare q) p' here has)));
        locks_placed = claims_locks (threads k) (locks k) r.told.segments s.words ws' s.homes s.views id v w q r.locks_placed r.told.law.all_states at live refl refl
            (λ i. get_or-set_other s.words (slot_word t) (slot_word (threads k + i)) new 0 (λ e. omega arith)) t below h.slot free refl;
        passes = passes_stay k.image.value k.workers r.told.history r.told.history s.words ws' (λ b e. e) done stops s.views id w r.passes
            (pass_kept k.image.value k.workers r.told.history r.told.history s.words ws' (λ b e. e) done stops v w old (refl, refl, refl, length-set v.pinned q.context.thread (is_pinned q)) (λ i u e. inl e) (λ i b e. inl e)
            (λ i c e. ⊎_elim (λ z. inl z) (λ (z : (i ≡ length v.calls) × (claim_call v q word ≡ c)). inr (subst (IsTrueCall (threads k) ws') z.1 tt)) (at_end v.calls (claim_call v q word) c i e))
            (λ u e. ⊎_elim (λ (o : (u ≡ q.context.thread) × (is_pinned q ≡ true)). inr (stops (h.fits.stop o.1))) (λ (o : (u ≢ q.context.thread) × (get_elem? v.pinned u ≡ some true)). inl o.1) (at_set v.pinned q.context.thread u (is_pinned q) true e)));
        stop = λ e. stop_stays s.views id v w at (λ i h. (i, at_longer v.calls (claim_call v q word ∷ []) i Stop h)) (r.stop (stops_back s.words (slot_word t) new (λ e. omega arith) e));
        apart = apart_stays s.views id v w at record { worker = refl; maker = refl; made = refl; spent = refl; joined = refl } live r.apart;
        listed = listed_stays r.told.history s.views id v w at r.listed record { worker = refl; maker = refl; made = omega arith; spent = refl; joined = refl; sealed = refl };
      }

  -- what the pass learns of it
  pub gets : (s : St) (r : KeptHall k s) (id t : ℕ) (v : Knows) (p : PackageView) (h : IsHome s.words s.homes t p) → get_elem? s.views id ≡ some v → v.spent ≡ false → t < threads k
      → get_elem? r.told.places t ≡ some p → r.placed.holder t ≡ none → h.context.context.thread ≡ t → Gets (slice_index s.words (slot_word t)) t h.context v (after_claim v (slice_index s.words (slot_word t)) h.context)
  gets s r id t v p h at live below place is_home thread =
      let q : PackageView = h.context in
      let word : ℕ = slice_index s.words (slot_word t) in
      let after : IsPackageAfter k.image.value k.fuel r.told.history t p = r.told.law.packages_after t p place in
      let wide : length v.locks ≡ locks k = r.locks_placed.sized id v at live in
      let has_it : Has (after_claim v word q) q.context.thread (bare q) = set_here v.packages q.context.thread (Some (bare q)) (omega (arith, r.placed.sized id v at live)) in
      let has_locks : (i : ℕ) (l : LockView) → locked_in q i ≡ Some l → HasLock (after_claim v word q) i (kept l) = λ i l e. add_all-has v.locks q.context.locks i l
      (let p = r.locks_placed.packed t q i l below h.slot e in let b = (there r.told.segments i (kept l) (kept l) p.1).0 in omega (arith, wide, r.told.law.all_states)) e in
      record {
        now = refl;
        thread = thread;
        of = ap (λ (z : PackageView). z.image) h.same ∙ (after.follows.of ∙ sym ((r.passes id v at).of live));
        settled = ap (λ (z : PackageView). z.pending) h.same ∙ after.settled;
        order = h.order;
        fits = h.fits.fits;
        came = package_came v word q has_it has_locks
            (λ p' has. some-ne-none id (sym (r.placed.owned id v q.context.thread p' at has).0 ∙ (ap r.placed.holder thread ∙ is_home)))
            (λ i l e l' has. out_inside id t (r.locks_placed.spot i) (r.locks_placed.owned id v i l' at has).0 (r.locks_placed.packed t q i l below h.slot e).0);
        called = called_claimed v word q;
        pinned = λ e. subst (λ (z : ℕ). get_elem? (set v.pinned z (is_pinned q)) t ≡ some (is_pinned q)) (sym thread)
            (set_here v.pinned t (is_pinned q) (let n = (r.passes id v at).sized live in omega (arith, n, below))) ∙ ap (λ (z : Bool). some z) e;
      }

  -- the package in the slot of a thread, as the rule has it there
  pub record AtHome (s : St) (r : KeptHall k s) (t : ℕ) (q : PackageView) : Type 0 where
    pub stands : PackageView
    pub placed : get_elem? r.told.places t ≡ some stands
    pub holder : r.placed.holder t ≡ none
    pub home : IsHome s.words s.homes t stands
    pub same : home.context ≡ q
    pub thread : home.context.context.thread ≡ t

  pub at_home_of : (s : St) (r : KeptHall k s) (t : ℕ) (q : PackageView) → t < threads k → slice_index s.words (slot_word t) < 512 → get_elem? s.homes t ≡ some (some (Some (Package q))) → AtHome s r t q
  at_home_of s r t q below low slot =
      let place = something_at r.told.places t (omega (arith, r.told.law.all_packages, below)) in
      let lies = home_of s.words s.homes s.views t place.0 (r.placed.holder t) (r.placed.each t place.0 place.1) low in
      let law : IsPackageAfter k.image.value k.fuel r.told.history t place.0 = r.told.law.packages_after t place.0 place.1 in
      record {
        stands = place.0;
        placed = place.1;
        holder = lies.0;
        home = lies.1;
        same = same_package (get_elem? s.homes t) lies.1.context q lies.1.slot slot;
        thread = ap (λ (z : PackageView). z.context.thread) lies.1.same ∙ law.follows.number;
      }

  full_still : (hs : Homes) (t : ℕ) (a b : maybe.Option (Option Cargo)) → get_elem? hs t ≡ some a → ((q : PackageView) → a ≢ some (Some (Package q))) → (u : ℕ) (q : PackageView) → get_elem? hs u ≡ some (some (Some (Package q))) → get_elem? (set hs t b) u ≡ some (some (Some (Package q)))
  full_still hs t a b at none' u q e = dite (ℕ_discrete u t)
      (λ (is : u ≡ t). absurd (none' q (some-injective a (some (Some (Package q))) (sym at ∙ (ap (get_elem? hs) (sym is) ∙ e)))))
      (λ (ne : u ≢ t). set_else hs t u b ne ∙ e)

  full_back : (hs : Homes) (t : ℕ) (b : maybe.Option (Option Cargo)) → ((q : PackageView) → b ≢ some (Some (Package q))) → (u : ℕ) (q : PackageView) → get_elem? (set hs t b) u ≡ some (some (Some (Package q))) → get_elem? hs u ≡ some (some (Some (Package q)))
  full_back hs t b none' u q e = ⊎_elim (λ (o : (u ≡ t) × (b ≡ some (Some (Package q)))). absurd (none' q o.1)) (λ (o : (u ≢ t) × (get_elem? hs u ≡ some (some (Some (Package q))))). o.1) (at_set hs t u b (some (Some (Package q))) e)

  no_package : (q : PackageView) → some None ≢ some (Some (Package q))
  no_package q e = clash_at (some None) (Package q) refl e

  no_home : (q : PackageView) → none ≢ some (Some (Package q))
  no_home q e = some-ne-none (Some (Package q)) (sym e)

  -- the pass takes the empty slot of a package that it has out, or gives it back
  slot_moves : (s : St) (r : KeptHall k s) (id t : ℕ) (v w : Knows) (p : PackageView) (a b : maybe.Option (Option Cargo)) → get_elem? s.views id ≡ some v → v.spent ≡ false → Has v t p
      → get_elem? s.homes t ≡ some a → ((q : PackageView) → a ≢ some (Some (Package q))) → ((q : PackageView) → b ≢ some (Some (Package q)))
      → ((w.open_slot ≡ Some t) × (v.open_slot ≡ None) × (b ≡ none)) ⊎ ((w.open_slot ≡ None) × (v.open_slot ≡ Some t) × (b ≡ some None)) → w ≡ record v { open_slot = w.open_slot }
      → KeptHall k record { words = s.words; homes = set s.homes t b; views = set s.views id w }
  slot_moves s r id t v w p a b at live has slot full full' hands same =
      let o = is_out s r id t v p at has in
      let below : t < threads k = o.0 in
      let old = r.passes id v at in record {
        told = r.told;
        words = r.words;
        slots = length-set s.homes t b ∙ r.slots;
        clock = r.clock;
        placed = moves s.words s.words s.homes (set s.homes t b) s.views id v w at (λ e. e) (threads k) r.told.places r.told.places t (some id) r.placed (inr o.1)
            (λ u ne. refl) (λ u ne. set_else s.homes t u b ne) (λ u ne. refl) r.told.law.all_packages
            record { worker = ap (λ (z : Knows). z.worker) same; spent = ap (λ (z : Knows). z.spent) same; long = ap (λ (z : Knows). length z.packages) same; out = λ u ne. ap (λ (z : Knows). get_elem? z.packages u) same; open_slot = λ u _ ne e. absurd (to u ne e); hand_back = λ u _ ne e. absurd (back u ne e) }
            (λ p' e. record {
              view = w;
              pass = set_here s.views id w (there s.views id v v at).0;
              has = ap (λ (z : Knows). get_elem? z.packages t) same ∙ (has ∙ ap (λ (z : PackageView). some (Some z)) (some-injective p p' (sym o.2 ∙ e)));
              word = o.3 ∙ ap (λ (z : Knows). 512 + z.worker) (sym same);
              slot = λ free. ⊎_elim (λ (z : (w.open_slot ≡ Some t) × (v.open_slot ≡ None) × (b ≡ none)). absurd (free z.0)) (λ (z : (w.open_slot ≡ None) × (v.open_slot ≡ Some t) × (b ≡ some None)). here z.2) hands;
              held = λ e. ⊎_elim (λ (z : (w.open_slot ≡ Some t) × (v.open_slot ≡ None) × (b ≡ none)). here z.2) (λ (z : (w.open_slot ≡ None) × (v.open_slot ≡ Some t) × (b ≡ some None)). absurd (clash w.open_slot t z.0 e)) hands;
            })
            (λ p' has'. (refl, o.2 ∙ ap (λ (z : PackageView). some z) (same_at (get_elem? v.packages t) p p' has (sym (ap (λ (z : Knows). get_elem? z.packages t) same) ∙ has'))));
        locks_placed = locks_stay (threads k) (locks k) r.told.segments s.words s.words s.homes (set s.homes t b) s.views id v w at (λ i b. refl) (λ i. set_else s.homes t (threads k + i) b (λ e. omega arith))
            (λ u q _ e. full_still s.homes t a b slot full u q e) (λ u q _ e. full_back s.homes t b full' u q e) (ap (λ (z : Knows). z.locks) same) (ap (λ (z : Knows). z.spent) same)
            (λ i e. absurd (to (threads k + i) (λ e. omega arith) e)) (λ i e. absurd (back (threads k + i) (λ e. omega arith) e)) r.locks_placed;
        passes = passes_stay k.image.value k.workers r.told.history r.told.history s.words s.words (λ b e. e) (λ u b e. e) (λ e. e) s.views id w r.passes
            (pass_same k.image.value k.workers r.told.history r.told.history s.words s.words (λ b e. e) (λ u b e. e) (λ e. e) v w old (ap (λ (z : Knows). z.worker) same, ap (λ (z : Knows). z.spent) same, ap (λ (z : Knows). z.image) same, ap (λ (z : Knows). length z.pinned) same)
            (ap (λ (z : Knows). z.joined) same) (ap (λ (z : Knows). z.sealed) same) (ap (λ (z : Knows). z.calls) same) (ap (λ (z : Knows). z.pinned) same));
        stop = λ e. stop_stays s.views id v w at (λ i e. (i, ap (λ (z : Knows). get_elem? z.calls i) same ∙ e)) (r.stop e);
        apart = apart_stays s.views id v w at record { worker = ap (λ (z : Knows). z.worker) same; maker = ap (λ (z : Knows). z.maker) same; made = ap (λ (z : Knows). z.made) same; spent = ap (λ (z : Knows). z.spent) same; joined = ap (λ (z : Knows). z.joined) same } live r.apart;
        listed = listed_stays r.told.history s.views id v w at r.listed record { worker = ap (λ (z : Knows). z.worker) same; maker = ap (λ (z : Knows). z.maker) same; made = let e = ap (λ (z : Knows). z.made) same in omega arith; spent = ap (λ (z : Knows). z.spent) same; joined = ap (λ (z : Knows). z.joined) same; sealed = ap (λ (z : Knows). z.sealed) same };
      }
    where
      to : (u : ℕ) → u ≢ t → v.open_slot ≡ Some u → ⊥
      to u ne e = ⊎_elim (λ (z : (w.open_slot ≡ Some t) × (v.open_slot ≡ None) × (b ≡ none)). clash v.open_slot u z.1 e) (λ (z : (w.open_slot ≡ None) × (v.open_slot ≡ Some t) × (b ≡ some None)). ne (same_some v.open_slot t u z.1 e)) hands

      back : (u : ℕ) → u ≢ t → w.open_slot ≡ Some u → ⊥
      back u ne e = ⊎_elim (λ (z : (w.open_slot ≡ Some t) × (v.open_slot ≡ None) × (b ≡ none)). ne (same_some w.open_slot t u z.0 e)) (λ (z : (w.open_slot ≡ None) × (v.open_slot ≡ Some t) × (b ≡ some None)). clash w.open_slot u z.0 e) hands

      here : {c : maybe.Option (Option Cargo)} → b ≡ c → get_elem? (set s.homes t b) t ≡ some c
      here e = set_here s.homes t b (there s.homes t a a slot).0 ∙ ap (λ (z : maybe.Option (Option Cargo)). some z) e

  -- the empty slot of a package goes back
  pub lay_kept : (s : St) (r : KeptHall k s) (id t : ℕ) (v : Knows) (p : PackageView) → get_elem? s.views id ≡ some v → v.spent ≡ false → v.open_slot ≡ Some t → Has v t p
      → KeptHall k (stepped s (slot_word t) (slice_index s.words (slot_word t)) id ((t, None) ∷ []) (record v { open_slot = None }) gives)
  lay_kept s r id t v p at live open_slot has =
      let w : Knows = record v { open_slot = None } in
      let o = is_out s r id t v p at has in
      subst (λ (z : List ℕ). KeptHall k record { words = z; homes = set s.homes t (some None); views = set s.views id w }) (sym (set-get_or s.words (slot_word t) 0))
      (slot_moves s r id t v w p none (some None) at live has (o.5 open_slot) no_home no_package (inr (refl, open_slot, refl)) refl)

  -- the pass takes the empty slot of a package that it has out
  pub reach_kept : (s : St) (r : KeptHall k s) (id t : ℕ) (v : Knows) (p : PackageView) → get_elem? s.views id ≡ some v → v.spent ≡ false → v.open_slot ≡ None → Has v t p
      → KeptHall k (stepped s (slot_word t) (slice_index s.words (slot_word t)) id [] (record v { open_slot = Some t }) (takes t None))
  reach_kept s r id t v p at live free has =
      let w : Knows = record v { open_slot = Some t } in
      let o = is_out s r id t v p at has in
      subst (λ (z : List ℕ). KeptHall k record { words = z; homes = set s.homes t none; views = set s.views id w }) (sym (set-get_or s.words (slot_word t) 0))
      (slot_moves s r id t v w p (some None) none at live has (o.4 (λ e. clash v.open_slot t free e)) no_package no_home (inl (refl, free, refl)) refl)
