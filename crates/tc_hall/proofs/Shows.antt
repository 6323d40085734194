-- What a hall shows after a package or a lock went from a slot to a pass, or back.
use Rattle.std.proofs.Common.{◌≡◌, ◌≢◌, ◌⊎◌, ℕ, ◌+◌, ◌-◌, ◌<◌, Bool, true, false, List, [], ◌∷◌, ◌++◌, length, set, sym, refl, ap, ◌∙◌, subst, ⊎_elim, inl, inr, arith, Option, Some, None, slice_index, get_or-set_other, get_or-set_same}
use Rattle.tc_hall.proofs.Vocabulary.{At, Cargo, Done, Hall, Has, HasLock, Homes, IsFree, IsShown, Knows, Lock, LockAt, LockView, Lying, Outline, Package, PackageAt, PackageView, Parked, Place, Ready, ShowsLock, ShowsThread, HallTerms, ThreadPlace, Waiting, after, after_claim, after_free, after_put, after_take, as_place, at_home, bare, claim_effect, code_of, get_elem?, in_hand}
use Rattle.tc_hall.proofs.Vocabulary.{in_slot, is_claimable, kept, lies_with, lock_in_package, lock_in_slot, lock_of, lock_with_pass, locked_in, locks, none, packed, put_effect, slot_word, some, some-injective, some-ne-none, take_effect, threads, with_pass}
use Rattle.std.specs.Prelude.{nat_lt, if◌then◌else◌}
use Rattle.std.proofs.lemmas.Bool.Decides.{nat_tests}
use mathlib.Core.Logic.{dite}
use mathlib.Core.Option as maybe
use native.Mathlib.Decide.{ℕ_discrete}
use Rattle.atomic_table.proofs.Lists.{at_set, at_snoc, set_else}
use Rattle.tc_hall.specs.declared.place.Origin.{Origin}
use Rattle.tc_hall.specs.declared.place.Origin.TheVariants as origin
use Rattle.tc_hall.specs.Places.{place_of, origin_code}
use Rattle.tc_hall.specs.Effects.{free_effect}
use Rattle.tc_hall.specs.Shown.{place_shown}
use Rattle.tc_hall.proofs.LockLists.{add_all-else, remove_all-at}
use Rattle.tc_hall.proofs.Telling.{place_codes}
use Rattle.tc_hall.proofs.Cases.{some_or_none, same_at, same_package, none_of, clash, same_some}

-- ---- the places that words show

pub shown_at : (w : ℕ) → place_shown (512 + w) ≡ At w
unfolding place_shown
shown_at w =
    let r : nat_lt (512 + w) 512 ≡ false = grind (arith, nat_tests) in
    let d : 512 + w - 512 ≡ w = omega arith in
    ap (λ (v : Bool). if v then as_place (place_of (512 + w)) else At (512 + w - 512)) r ∙ ap (λ (z : ℕ). At z) d

pub shown_code : (p : Place) → code_of p < 512 → place_shown (code_of p) ≡ as_place p
unfolding place_shown
shown_code p low =
    let r : nat_lt (code_of p) 512 ≡ true = grind (arith, nat_tests) in
    ap (λ (v : Bool). if v then as_place (place_of (code_of p)) else At (code_of p - 512)) r ∙ ap as_place (place_codes p)

pub shown_origin : (from : Origin) → is_claimable (place_shown (origin_code from)) ≡ true
unfolding place_shown place_of
shown_origin origin.Ready = refl
shown_origin origin.Parked = refl

pub origin_low : (from : Origin) → origin_code from < 512
origin_low origin.Ready = omega arith
origin_low origin.Parked = omega arith

-- a lock of a thread that was put
pub lies_put : (p : Place) (t : ℕ) → lies_with (as_place p) t ≡ packed t
lies_put Ready t = refl
lies_put Parked t = refl
lies_put Done t = refl
lies_put (Waiting lock) t = refl

pub lies_low : (word t : ℕ) → word < 512 → lies_with (place_shown word) t ≡ packed t
unfolding place_shown
lies_low word t low =
    let r : nat_lt word 512 ≡ true = grind (arith, nat_tests) in
    ap (λ (v : Bool). lies_with (if v then as_place (place_of word) else At (word - 512)) t) r ∙ lies_put (place_of word) t

-- ---- the ways of lying are apart

pub home_packed : (x : Lying) (t : ℕ) → x ≡ at_home → x ≡ packed t → ⊥
home_packed x t a b = cc (a, b)

pub home_hand : (x : Lying) (w : ℕ) → x ≡ at_home → x ≡ in_hand w → ⊥
home_hand x w a b = cc (a, b)

pub hand_packed : (x : Lying) (w t : ℕ) → x ≡ in_hand w → x ≡ packed t → ⊥
hand_packed x w t a b = cc (a, b)

pub same_packed : (x : Lying) (t u : ℕ) → x ≡ packed t → x ≡ packed u → t ≡ u
same_packed x t u a b = cc (a, b)

pub same_hand : (x : Lying) (t u : ℕ) → x ≡ in_hand t → x ≡ in_hand u → t ≡ u
same_hand x t u a b = cc (a, b)

-- ---- one outline beside another

-- of each thread and lock they have the same
pub record IsAlike (o o' : Outline) : Type 0 where
  pub thread : (u : ℕ) → o'.thread u ≡ o.thread u
  pub last : (u : ℕ) → o'.last u ≡ o.last u
  pub lock : (i : ℕ) → o'.lock i ≡ o.lock i

-- the thread came to this place, and no other moved
pub record IsMoved (o o' : Outline) (t : ℕ) (at : ThreadPlace) : Type 0 where
  pub alike : IsAlike o o'
  pub here : o'.place t ≡ at
  pub others : (u : ℕ) → u ≢ t → o'.place u ≡ o.place u

shows_thread : (o o' : Outline) → IsAlike o o' → (t : ℕ) (p : PackageView) → ShowsThread o t p → ShowsThread o' t p
shows_thread o o' a t p h = record { thread = a.thread t ∙ h.thread; last = a.last t ∙ h.last }

shows_lock : (o o' : Outline) → IsAlike o o' → (i : ℕ) (l : LockView) (y : Lying) → o'.lies i ≡ y → o.lock i ≡ lock_of l → ShowsLock o' i l y
shows_lock o o' a i l y lies h = record { lock = a.lock i ∙ h; lies = lies }

-- a slot that was emptied has nothing, and the others have what they had
emptied : (hs : Homes) (t u : ℕ) (c : Cargo) → get_elem? (set hs t none) u ≡ some (some (Some c)) → (u ≢ t) × (get_elem? hs u ≡ some (some (Some c)))
emptied hs t u c h = ⊎_elim
    (λ (o : (u ≡ t) × (none ≡ some (Some c))). absurd (some-ne-none (Some c) (sym o.1)))
    (λ (o : (u ≢ t) × (get_elem? hs u ≡ some (some (Some c)))). o) (at_set hs t u none (some (Some c)) h)

module _ (k : HallTerms) (s : Hall) (id : ℕ) (v : Knows) (at : get_elem? s.views id ≡ some v) (o o' : Outline) (was : IsShown k s o) where
  places_else : (word new t u : ℕ) → u < threads k → u ≢ t → word ≡ slot_word t → (o'.place u ≡ o.place u) → o'.place u ≡ place_shown (slice_index (set s.words word new) (slot_word u))
  places_else word new t u below ne is same = same ∙ (was.place u below ∙ ap place_shown (sym (get_or-set_other s.words word (slot_word u) new 0 (λ z. ne (omega arith)))))

  -- ---- the package q of the thread t comes to the pass
  module _ (t word : ℕ) (q : PackageView) (below : t < threads k) (thread : q.context.thread ≡ t) (slot : get_elem? s.homes t ≡ some (some (Some (Package q)))) (long : slot_word t < length s.words)
      (has : Has (after_claim v word q) t (bare q)) (has_locks : (i : ℕ) (l : LockView) → locked_in q i ≡ Some l → HasLock (after_claim v word q) i (kept l))
      (moved : IsMoved o o' t (At v.worker)) (comes : (i : ℕ) → o.lies i ≡ packed t → o'.lies i ≡ in_hand v.worker) (stays : (i : ℕ) → o.lies i ≢ packed t → o'.lies i ≡ o.lies i) where
    abbrev w : Knows
    w = record (after_claim v word q) { open_slot = Some t }

    abbrev s' : Hall
    s' = after s id (claim_effect v t word q)

    claim_place : (u : ℕ) → u < threads k → o'.place u ≡ place_shown (slice_index s'.words (slot_word u))
    claim_place u b = dite (ℕ_discrete u t)
        (λ (is : u ≡ t). subst (λ (z : ℕ). o'.place z ≡ place_shown (slice_index s'.words (slot_word z))) (sym is) (moved.here ∙ (sym (shown_at v.worker) ∙ ap place_shown (sym (get_or-set_same s.words (slot_word t) (512 + v.worker) 0 long)))))
        (λ (ne : u ≢ t). places_else (slot_word t) (512 + v.worker) t u b ne refl (moved.others u ne))

    claim_thread : (u : ℕ) (p : PackageView) → u < threads k → PackageAt s' u p → ShowsThread o u p
    claim_thread u p b (in_slot h) = was.thread u p b (in_slot (emptied s.homes t u (Package p) h).1)
    claim_thread u p b (with_pass j x h has') = ⊎_elim
        (λ (z : (j ≡ id) × (w ≡ x)). let mine : Has w u p = ap (λ (y : Knows). get_elem? y.packages u) z.1 ∙ has' in dite (ℕ_discrete u t)
        (λ (is : u ≡ t). let same : bare q ≡ p = same_at (get_elem? w.packages t) (bare q) p has (ap (get_elem? w.packages) (sym is) ∙ mine) in
        let old = was.thread t q below (in_slot slot) in
        subst (λ (z : ℕ). ShowsThread o z p) (sym is) (subst (ShowsThread o t) same record { thread = old.thread; last = old.last }))
        (λ (ne : u ≢ t). was.thread u p b (with_pass id v at (sym (set_else v.packages q.context.thread u (Some (bare q)) (λ y. ne (y ∙ thread))) ∙ mine))))
        (λ (z : (j ≢ id) × (get_elem? s.views j ≡ some x)). was.thread u p b (with_pass j x z.1 has')) (at_set s.views id j w x h)

    claim_lock : (i : ℕ) (l : LockView) (y : Lying) → i < locks k → LockAt k s' i l y → ShowsLock o' i l y
    claim_lock i l y b (lock_in_slot h is) =
        let old = was.lock i l at_home b (lock_in_slot (emptied s.homes t (threads k + i) (Lock l) h).1 refl) in
        shows_lock o o' moved.alike i l y (stays i (home_packed (o.lies i) t old.lies) ∙ (old.lies ∙ sym is)) old.lock
    claim_lock i l y b (lock_in_package u p bu h e is) =
        let far = emptied s.homes t u (Package p) h in
        let old = was.lock i l (packed u) b (lock_in_package u p bu far.1 e refl) in
        shows_lock o o' moved.alike i l y (stays i (λ z. far.0 (same_packed (o.lies i) u t old.lies z)) ∙ (old.lies ∙ sym is)) old.lock
    claim_lock i l y b (lock_with_pass j x h has' is) = ⊎_elim
        (λ (z : (j ≡ id) × (w ≡ x)). let mine : HasLock w i l = ap (λ (y : Knows). get_elem? y.locks i) z.1 ∙ has' in
        let worker : in_hand v.worker ≡ y = ap (λ (y : Knows). in_hand y.worker) z.1 ∙ sym is in ⊎_elim
        (λ (c : (m : LockView) × (locked_in q i ≡ Some m)). let old = was.lock i c.0 (packed t) b (lock_in_package t q below slot c.1 refl) in
        let same : kept c.0 ≡ l = same_at (get_elem? w.locks i) (kept c.0) l (has_locks i c.0 c.1) mine in
        shows_lock o o' moved.alike i l y (comes i old.lies ∙ worker) (old.lock ∙ ap lock_of same))
        (λ (c : locked_in q i ≡ None). let old = was.lock i l (in_hand v.worker) b (lock_with_pass id v at (sym (add_all-else v.locks q.context.locks i c) ∙ mine) refl) in
        shows_lock o o' moved.alike i l y (stays i (hand_packed (o.lies i) v.worker t old.lies) ∙ (old.lies ∙ worker)) old.lock)
        (some_or_none (locked_in q i)))
        (λ (z : (j ≢ id) × (get_elem? s.views j ≡ some x)). let old = was.lock i l (in_hand x.worker) b (lock_with_pass j x z.1 has' refl) in
        shows_lock o o' moved.alike i l y (stays i (hand_packed (o.lies i) x.worker t old.lies) ∙ (old.lies ∙ sym is)) old.lock) (at_set s.views id j w x h)

    pub claim_shown : IsShown k s' o'
    claim_shown = record { place = claim_place; thread = λ u p b a. shows_thread o o' moved.alike u p (claim_thread u p b a); lock = claim_lock }

  -- ---- the package q goes home
  module _ (q : PackageView) (place : Place) (below : q.context.thread < threads k) (low : code_of place < 512) (long : slot_word q.context.thread < length s.words) (has : Has v q.context.thread (bare q))
      (has_locks : (i : ℕ) (l : LockView) → locked_in q i ≡ Some l → HasLock v i (kept l)) (apart : (j i : ℕ) (x : Knows) (l : LockView) → j ≢ id → get_elem? s.views j ≡ some x → HasLock x i l → locked_in q i ≡ None)
      (moved : IsMoved o o' q.context.thread (as_place place)) (goes : (i : ℕ) (l : LockView) → i < locks k → locked_in q i ≡ Some l → o'.lies i ≡ packed q.context.thread) (stays : (i : ℕ) → i < locks k → locked_in q i ≡ None → o'.lies i ≡ o.lies i) where
    abbrev put_view : Knows
    put_view = record (after_put v q place) { open_slot = None }

    abbrev put_hall : Hall
    put_hall = after s id (put_effect v q place)

    put_place : (u : ℕ) → u < threads k → o'.place u ≡ place_shown (slice_index put_hall.words (slot_word u))
    put_place u b = dite (ℕ_discrete u q.context.thread)
        (λ (is : u ≡ q.context.thread). subst (λ (z : ℕ). o'.place z ≡ place_shown (slice_index put_hall.words (slot_word z))) (sym is) (moved.here ∙ (sym (shown_code place low) ∙ ap place_shown (sym (get_or-set_same s.words (slot_word q.context.thread) (code_of place) 0 long)))))
        (λ (ne : u ≢ q.context.thread). places_else (slot_word q.context.thread) (code_of place) q.context.thread u b ne refl (moved.others u ne))

    put_package : (p : PackageView) → some (Some (Package q)) ≡ some (Some (Package p)) → q ≡ p
    put_package p e = same_package (some (some (Some (Package p)))) q p (ap (λ (z : maybe.Option (Option Cargo)). some z) (sym e)) refl

    put_thread : (u : ℕ) (p : PackageView) → u < threads k → PackageAt put_hall u p → ShowsThread o u p
    put_thread u p b (in_slot h) = ⊎_elim
        (λ (z : (u ≡ q.context.thread) × (some (Some (Package q)) ≡ some (Some (Package p)))). let old = was.thread q.context.thread (bare q) below (with_pass id v at has) in
        subst (λ (y : ℕ). ShowsThread o y p) (sym z.0) (subst (ShowsThread o q.context.thread) (put_package p z.1) record { thread = old.thread; last = old.last }))
        (λ (z : (u ≢ q.context.thread) × (get_elem? s.homes u ≡ some (some (Some (Package p))))). was.thread u p b (in_slot z.1)) (at_set s.homes q.context.thread u (some (Some (Package q))) (some (Some (Package p))) h)
    put_thread u p b (with_pass j x h has') = ⊎_elim
        (λ (z : (j ≡ id) × (put_view ≡ x)). let mine : Has put_view u p = ap (λ (y : Knows). get_elem? y.packages u) z.1 ∙ has' in ⊎_elim
        (λ (c : (u ≡ q.context.thread) × (None ≡ Some p)). absurd (clash None p refl c.1))
        (λ (c : (u ≢ q.context.thread) × (get_elem? v.packages u ≡ some (Some p))). was.thread u p b (with_pass id v at c.1)) (at_set v.packages q.context.thread u None (Some p) mine))
        (λ (z : (j ≢ id) × (get_elem? s.views j ≡ some x)). was.thread u p b (with_pass j x z.1 has')) (at_set s.views id j put_view x h)

    -- a lock that lies elsewhere than in the hand is none of the package
    not_inside : (i : ℕ) → i < locks k → ((w : ℕ) → o.lies i ≡ in_hand w → ⊥) → locked_in q i ≡ None
    not_inside i b never = none_of (locked_in q i) (λ m e. never v.worker (was.lock i (kept m) (in_hand v.worker) b (lock_with_pass id v at (has_locks i m e) refl)).lies)

    put_lock : (i : ℕ) (l : LockView) (y : Lying) → i < locks k → LockAt k put_hall i l y → ShowsLock o' i l y
    put_lock i l y b (lock_in_slot h is) =
        let old = was.lock i l at_home b (lock_in_slot (sym (set_else s.homes q.context.thread (threads k + i) (some (Some (Package q))) (λ z. omega arith)) ∙ h) refl) in
        shows_lock o o' moved.alike i l y (stays i b (not_inside i b (λ w z. home_hand (o.lies i) w old.lies z)) ∙ (old.lies ∙ sym is)) old.lock
    put_lock i l y b (lock_in_package u p bu h e is) = ⊎_elim
        (λ (z : (u ≡ q.context.thread) × (some (Some (Package q)) ≡ some (Some (Package p)))). let e' : locked_in q i ≡ Some l = ap (λ (x : PackageView). locked_in x i) (put_package p z.1) ∙ e in
        shows_lock o o' moved.alike i l y (goes i l b e' ∙ (ap (λ (x : ℕ). packed x) (sym z.0) ∙ sym is)) (was.lock i (kept l) (in_hand v.worker) b (lock_with_pass id v at (has_locks i l e') refl)).lock)
        (λ (z : (u ≢ q.context.thread) × (get_elem? s.homes u ≡ some (some (Some (Package p))))). let old = was.lock i l (packed u) b (lock_in_package u p bu z.1 e refl) in
        shows_lock o o' moved.alike i l y (stays i b (not_inside i b (λ w x. hand_packed (o.lies i) w u x old.lies)) ∙ (old.lies ∙ sym is)) old.lock) (at_set s.homes q.context.thread u (some (Some (Package q))) (some (Some (Package p))) h)
    put_lock i l y b (lock_with_pass j x h has' is) = ⊎_elim
        (λ (z : (j ≡ id) × (put_view ≡ x)). let mine = remove_all-at v.locks q.context.locks i l (ap (λ (y : Knows). get_elem? y.locks i) z.1 ∙ has') in
        let old = was.lock i l (in_hand v.worker) b (lock_with_pass id v at mine.1 refl) in
        shows_lock o o' moved.alike i l y (stays i b mine.0 ∙ (old.lies ∙ (ap (λ (y : Knows). in_hand y.worker) z.1 ∙ sym is))) old.lock)
        (λ (z : (j ≢ id) × (get_elem? s.views j ≡ some x)). let old = was.lock i l (in_hand x.worker) b (lock_with_pass j x z.1 has' refl) in
        shows_lock o o' moved.alike i l y (stays i b (apart j i x l z.0 z.1 has') ∙ (old.lies ∙ sym is)) old.lock) (at_set s.views id j put_view x h)

    pub put_shown : IsShown k put_hall o'
    put_shown = record { place = put_place; thread = λ u p b a. shows_thread o o' moved.alike u p (put_thread u p b a); lock = put_lock }

  -- ---- the state l of the lock i comes to the pass
  module _ (i : ℕ) (l : LockView) (below_lock : i < locks k) (number : l.number ≡ i) (slot : get_elem? s.homes (threads k + i) ≡ some (some (Some (Lock l)))) (has : HasLock (after_take v l) i (kept l))
      (alike : IsAlike o o') (place : (u : ℕ) → o'.place u ≡ o.place u) (here : o'.lies i ≡ in_hand v.worker) (else' : (j : ℕ) → j ≢ i → o'.lies j ≡ o.lies j) where
    abbrev take_view : Knows
    take_view = record (after_take v l) { open_slot = Some (threads k + i) }

    abbrev take_hall : Hall
    take_hall = after s id (take_effect (threads k) v i l)

    take_thread : (u : ℕ) (p : PackageView) → u < threads k → PackageAt take_hall u p → ShowsThread o u p
    take_thread u p b (in_slot h) = was.thread u p b (in_slot (emptied s.homes (threads k + i) u (Package p) h).1)
    take_thread u p b (with_pass j x h has') = ⊎_elim
        (λ (z : (j ≡ id) × (take_view ≡ x)). was.thread u p b (with_pass id v at (ap (λ (y : Knows). get_elem? y.packages u) z.1 ∙ has')))
        (λ (z : (j ≢ id) × (get_elem? s.views j ≡ some x)). was.thread u p b (with_pass j x z.1 has')) (at_set s.views id j take_view x h)

    home_now : o.lies i ≡ at_home
    home_now = (was.lock i l at_home below_lock (lock_in_slot slot refl)).lies

    -- another lock lies as it did
    take_else : (e : ℕ) (m : LockView) (y y' : Lying) → e ≢ i → ShowsLock o e m y → y ≡ y' → ShowsLock o' e m y'
    take_else e m y y' ne old is = shows_lock o o' alike e m y' (else' e ne ∙ (old.lies ∙ is)) old.lock

    take_lock : (e : ℕ) (m : LockView) (y : Lying) → e < locks k → LockAt k take_hall e m y → ShowsLock o' e m y
    take_lock e m y b (lock_in_slot h is) =
        let far = emptied s.homes (threads k + i) (threads k + e) (Lock m) h in
        take_else e m at_home y (λ z. far.0 (ap (λ (x : ℕ). threads k + x) z)) (was.lock e m at_home b (lock_in_slot far.1 refl)) (sym is)
    take_lock e m y b (lock_in_package u p bu h has' is) =
        let old = was.lock e m (packed u) b (lock_in_package u p bu (emptied s.homes (threads k + i) u (Package p) h).1 has' refl) in
        take_else e m (packed u) y (λ z. home_packed (o.lies e) u (ap o.lies z ∙ home_now) old.lies) old (sym is)
    take_lock e m y b (lock_with_pass j x h has' is) = ⊎_elim
        (λ (z : (j ≡ id) × (take_view ≡ x)). let mine : HasLock take_view e m = ap (λ (y : Knows). get_elem? y.locks e) z.1 ∙ has' in
        let worker : in_hand v.worker ≡ y = ap (λ (y : Knows). in_hand y.worker) z.1 ∙ sym is in dite (ℕ_discrete e i)
        (λ (same : e ≡ i). let lock : kept l ≡ m = same_at (get_elem? take_view.locks i) (kept l) m has (ap (get_elem? take_view.locks) (sym same) ∙ mine) in
        subst (λ (x : ℕ). ShowsLock o' x m y) (sym same) (shows_lock o o' alike i m y (here ∙ worker) ((was.lock i l at_home below_lock (lock_in_slot slot refl)).lock ∙ ap lock_of lock)))
        (λ (ne : e ≢ i). take_else e m (in_hand v.worker) y ne (was.lock e m (in_hand v.worker) b (lock_with_pass id v at (sym (set_else v.locks l.number e (Some (kept l)) (λ x. ne (x ∙ number))) ∙ mine) refl)) worker))
        (λ (z : (j ≢ id) × (get_elem? s.views j ≡ some x)). let old = was.lock e m (in_hand x.worker) b (lock_with_pass j x z.1 has' refl) in
        take_else e m (in_hand x.worker) y (λ c. home_hand (o.lies e) x.worker (ap o.lies c ∙ home_now) old.lies) old (sym is)) (at_set s.views id j take_view x h)

    pub take_shown : IsShown k take_hall o'
    take_shown = record {
      place = λ u b. place u ∙ (was.place u b ∙ ap place_shown (sym (get_or-set_other s.words (slot_word (threads k + i)) (slot_word u) 1 0 (λ z. omega arith))));
      thread = λ u p b a. shows_thread o o' alike u p (take_thread u p b a);
      lock = take_lock;
    }

  -- ---- the state l of a lock goes home
  module _ (l : LockView) (below_lock : l.number < locks k) (has : HasLock v l.number (kept l)) (apart : (j : ℕ) (x : Knows) (m : LockView) → j ≢ id → get_elem? s.views j ≡ some x → HasLock x l.number m → ⊥)
      (alike : IsAlike o o') (place : (u : ℕ) → o'.place u ≡ o.place u) (here : o'.lies l.number ≡ at_home) (else' : (j : ℕ) → j ≢ l.number → o'.lies j ≡ o.lies j) where
    abbrev free_view : Knows
    free_view = record (after_free v l) { open_slot = None }

    abbrev free_hall : Hall
    free_hall = after s id (free_effect (threads k) v l)

    free_slot : (u : ℕ) (c : Cargo) → get_elem? free_hall.homes u ≡ some (some (Some c)) → ((u ≡ threads k + l.number) × (Lock l ≡ c)) ⊎ ((u ≢ threads k + l.number) × (get_elem? s.homes u ≡ some (some (Some c))))
    free_slot u c h = ⊎_elim
        (λ (z : (u ≡ threads k + l.number) × (some (Some (Lock l)) ≡ some (Some c))). inl (z.0, same_some (Some c) c (Lock l) refl (sym (some-injective (Some (Lock l)) (Some c) z.1))))
        (λ (z : (u ≢ threads k + l.number) × (get_elem? s.homes u ≡ some (some (Some c)))). inr z) (at_set s.homes (threads k + l.number) u (some (Some (Lock l))) (some (Some c)) h)

    free_thread : (u : ℕ) (p : PackageView) → u < threads k → PackageAt free_hall u p → ShowsThread o u p
    free_thread u p b (in_slot h) = ⊎_elim
        (λ (z : (u ≡ threads k + l.number) × (Lock l ≡ Package p)). absurd (let e = z.0 in omega arith))
        (λ (z : (u ≢ threads k + l.number) × (get_elem? s.homes u ≡ some (some (Some (Package p))))). was.thread u p b (in_slot z.1)) (free_slot u (Package p) h)
    free_thread u p b (with_pass j x h has') = ⊎_elim
        (λ (z : (j ≡ id) × (free_view ≡ x)). was.thread u p b (with_pass id v at (ap (λ (y : Knows). get_elem? y.packages u) z.1 ∙ has')))
        (λ (z : (j ≢ id) × (get_elem? s.views j ≡ some x)). was.thread u p b (with_pass j x z.1 has')) (at_set s.views id j free_view x h)

    hand_now : o.lies l.number ≡ in_hand v.worker
    hand_now = (was.lock l.number (kept l) (in_hand v.worker) below_lock (lock_with_pass id v at has refl)).lies

    free_else : (e : ℕ) (m : LockView) (y y' : Lying) → e ≢ l.number → ShowsLock o e m y → y ≡ y' → ShowsLock o' e m y'
    free_else e m y y' ne old is = shows_lock o o' alike e m y' (else' e ne ∙ (old.lies ∙ is)) old.lock

    free_lock : (e : ℕ) (m : LockView) (y : Lying) → e < locks k → LockAt k free_hall e m y → ShowsLock o' e m y
    free_lock e m y b (lock_in_slot h is) = ⊎_elim
        (λ (z : (threads k + e ≡ threads k + l.number) × (Lock l ≡ Lock m)). let same : e ≡ l.number = (let c = z.0 in omega arith) in
        subst (λ (x : ℕ). ShowsLock o' x m y) (sym same) (shows_lock o o' alike l.number m y (here ∙ sym is) ((was.lock l.number (kept l) (in_hand v.worker) below_lock (lock_with_pass id v at has refl)).lock ∙ ap lock_of (lock_is m z.1))))
        (λ (z : (threads k + e ≢ threads k + l.number) × (get_elem? s.homes (threads k + e) ≡ some (some (Some (Lock m))))). free_else e m at_home y (λ c. z.0 (ap (λ (x : ℕ). threads k + x) c)) (was.lock e m at_home b (lock_in_slot z.1 refl)) (sym is)) (free_slot (threads k + e) (Lock m) h)
      where
        lock_is : (m : LockView) → Lock l ≡ Lock m → l ≡ m
        lock_is m e = cc e
    free_lock e m y b (lock_in_package u p bu h has' is) = ⊎_elim
        (λ (z : (u ≡ threads k + l.number) × (Lock l ≡ Package p)). absurd (let e = z.0 in omega arith))
        (λ (z : (u ≢ threads k + l.number) × (get_elem? s.homes u ≡ some (some (Some (Package p))))). let old = was.lock e m (packed u) b (lock_in_package u p bu z.1 has' refl) in
        free_else e m (packed u) y (λ c. hand_packed (o.lies e) v.worker u (ap o.lies c ∙ hand_now) old.lies) old (sym is)) (free_slot u (Package p) h)
    free_lock e m y b (lock_with_pass j x h has' is) = ⊎_elim
        (λ (z : (j ≡ id) × (free_view ≡ x)). let mine : HasLock free_view e m = ap (λ (y : Knows). get_elem? y.locks e) z.1 ∙ has' in ⊎_elim
        (λ (c : (e ≡ l.number) × (None ≡ Some m)). absurd (clash None m refl c.1))
        (λ (c : (e ≢ l.number) × (get_elem? v.locks e ≡ some (Some m))). free_else e m (in_hand v.worker) y c.0 (was.lock e m (in_hand v.worker) b (lock_with_pass id v at c.1 refl)) (ap (λ (y : Knows). in_hand y.worker) z.1 ∙ sym is)) (at_set v.locks l.number e None (Some m) mine))
        (λ (z : (j ≢ id) × (get_elem? s.views j ≡ some x)). free_else e m (in_hand x.worker) y (λ c. apart j x m z.0 z.1 (ap (get_elem? x.locks) (sym c) ∙ has')) (was.lock e m (in_hand x.worker) b (lock_with_pass j x z.1 has' refl)) (sym is)) (at_set s.views id j free_view x h)

    pub free_shown : IsShown k free_hall o'
    free_shown = record {
      place = λ u b. place u ∙ (was.place u b ∙ ap place_shown (sym (get_or-set_other s.words (slot_word (threads k + l.number)) (slot_word u) 0 0 (λ z. omega arith))));
      thread = λ u p b a. shows_thread o o' alike u p (free_thread u p b a);
      lock = free_lock;
    }

-- ---- a step that moves nothing: what each view has out, a view of the same worker had
pub record HadOut (vs vs' : List Knows) : Type 0 where
  pub packages : (j u : ℕ) (x : Knows) (p : PackageView) → get_elem? vs' j ≡ some x → Has x u p → (i : ℕ) × (z : Knows) × (get_elem? vs i ≡ some z) × Has z u p
  pub locks : (j e : ℕ) (x : Knows) (l : LockView) → get_elem? vs' j ≡ some x → HasLock x e l → (i : ℕ) × (z : Knows) × (get_elem? vs i ≡ some z) × HasLock z e l × (z.worker ≡ x.worker)

-- what lies in a slot afterwards lay there before
abbrev pub Empties : Homes → Homes → Type 0
Empties hs hs' = (u : ℕ) (x : Cargo) → get_elem? hs' u ≡ some (some (Some x)) → get_elem? hs u ≡ some (some (Some x))

module _ (k : HallTerms) (ws ws' : List ℕ) (hs hs' : Homes) (vs vs' : List Knows) (words : (u : ℕ) → u < threads k → slice_index ws' (slot_word u) ≡ slice_index ws (slot_word u)) (lay : Empties hs hs') (had : HadOut vs vs') (o : Outline) (was : IsShown k record { words = ws; homes = hs; views = vs } o) where
  still_thread : (u : ℕ) (p : PackageView) → u < threads k → PackageAt record { words = ws'; homes = hs'; views = vs' } u p → ShowsThread o u p
  still_thread u p b (in_slot h) = was.thread u p b (in_slot (lay u (Package p) h))
  still_thread u p b (with_pass j x h has) = let z = had.packages j u x p h has in was.thread u p b (with_pass z.0 z.1 z.2 z.3)

  still_lock : (i : ℕ) (l : LockView) (y : Lying) → i < locks k → LockAt k record { words = ws'; homes = hs'; views = vs' } i l y → ShowsLock o i l y
  still_lock i l y b (lock_in_slot h is) = was.lock i l y b (lock_in_slot (lay (threads k + i) (Lock l) h) is)
  still_lock i l y b (lock_in_package u p bu h has is) = was.lock i l y b (lock_in_package u p bu (lay u (Package p) h) has is)
  still_lock i l y b (lock_with_pass j x h has is) = let z = had.locks j i x l h has in was.lock i l y b (lock_with_pass z.0 z.1 z.2 z.3 (is ∙ ap (λ (c : ℕ). in_hand c) (sym z.4)))

  pub still_shown : IsShown k record { words = ws'; homes = hs'; views = vs' } o
  still_shown = record { place = λ u b. was.place u b ∙ ap place_shown (sym (words u b)); thread = still_thread; lock = still_lock }

-- one view changes, but has the same out
pub had_same : (vs : List Knows) (id : ℕ) (v w : Knows) → get_elem? vs id ≡ some v → w.packages ≡ v.packages → w.locks ≡ v.locks → w.worker ≡ v.worker → HadOut vs (set vs id w)
had_same vs id v w at packages locks worker = record {
  packages = λ j u x p h has. ⊎_elim
      (λ (z : (j ≡ id) × (w ≡ x)). (id, v, at, ap (λ (l : List (Option PackageView)). get_elem? l u) (sym packages ∙ ap (λ (y : Knows). y.packages) z.1) ∙ has))
      (λ (z : (j ≢ id) × (get_elem? vs j ≡ some x)). (j, x, z.1, has)) (at_set vs id j w x h);
  locks = λ j e x l h has. ⊎_elim
      (λ (z : (j ≡ id) × (w ≡ x)). (id, v, at, ap (λ (y : List (Option LockView)). get_elem? y e) (sym locks ∙ ap (λ (y : Knows). y.locks) z.1) ∙ has, sym worker ∙ ap (λ (y : Knows). y.worker) z.1))
      (λ (z : (j ≢ id) × (get_elem? vs j ≡ some x)). (j, x, z.1, has, refl)) (at_set vs id j w x h);
}

-- one pass more, which has nothing out
pub had_more : (vs vs' : List Knows) (w : Knows) → HadOut vs vs' → IsFree w → HadOut vs (vs' ++ w ∷ [])
had_more vs vs' w had free = record {
  packages = λ j u x p h has. ⊎_elim
      (λ (z : get_elem? vs' j ≡ some x). had.packages j u x p z has)
      (λ (z : w ≡ x). absurd (free.packages u p (ap (λ (y : Knows). get_elem? y.packages u) z ∙ has))) (at_snoc vs' w x j h);
  locks = λ j e x l h has. ⊎_elim
      (λ (z : get_elem? vs' j ≡ some x). had.locks j e x l z has)
      (λ (z : w ≡ x). absurd (free.locks e l (ap (λ (y : Knows). get_elem? y.locks e) z ∙ has))) (at_snoc vs' w x j h);
}

-- one pass comes to have nothing out
pub had_less : (vs vs' : List Knows) (id : ℕ) (w : Knows) → HadOut vs vs' → IsFree w → HadOut vs (set vs' id w)
had_less vs vs' id w had free = record {
  packages = λ j u x p h has. ⊎_elim
      (λ (z : (j ≡ id) × (w ≡ x)). absurd (free.packages u p (ap (λ (y : Knows). get_elem? y.packages u) z.1 ∙ has)))
      (λ (z : (j ≢ id) × (get_elem? vs' j ≡ some x)). had.packages j u x p z.1 has) (at_set vs' id j w x h);
  locks = λ j e x l h has. ⊎_elim
      (λ (z : (j ≡ id) × (w ≡ x)). absurd (free.locks e l (ap (λ (y : Knows). get_elem? y.locks e) z.1 ∙ has)))
      (λ (z : (j ≢ id) × (get_elem? vs' j ≡ some x)). had.locks j e x l z.1 has) (at_set vs' id j w x h);
}
