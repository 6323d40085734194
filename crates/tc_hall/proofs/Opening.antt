-- How a hall opens, and how its passes are dealt.
use Rattle.std.proofs.Common.{◌≡◌, ◌≢◌, ℕ, zero, suc, ◌+◌, ◌-◌, ◌*◌, ◌<◌, ◌≤◌, ◌||◌, true, false, List, [], ◌∷◌, ◌++◌, length, map, replicate, sym, refl, ap, ◌∙◌, subst, ⊎_elim, arith, Option, Some, None, slice_index, length-append}
use Rattle.tc_hall.proofs.Vocabulary.{AreDealt, AreStocked, Block, Cargo, IsInLimits, IsMaker, IsPackageAfter, IsPass, KeptHall, Knows, Lawful, Lock, LockView, Package, PackageView, PassView, STOP, Shown, HallTerms, Thread, bare, clean, dealt, fits_granted, fresh, get_elem?, grants_adopted, home, is_pinned, is_running, kept, last_by, last_of, length-map, length-replicate}
use Rattle.tc_hall.proofs.Vocabulary.{locked_in, locks, none, opening, slot_word, some, some-injective, some-ne-none, thread_in, threads, was_cut, words_of}
use Rattle.std.specs.List.{fold}
use Rattle.std.proofs.lemmas.List.{get_or-replicate, map-append}
use mathlib.Core.Logic.{dite}
use native.Mathlib.Decide.{ℕ_discrete}
use Rattle.atomic_table.specs.Seated.{TableId}
use Rattle.atomic_table.specs.declared.shared.Seat.{Seat}
use Rattle.atomic_table.proofs.Lists.{at_longer, at_last, at_map}
use Rattle.tc_segment.specs.View.{IsStrict, fresh_state, EndsSection}
use Rattle.tc_context.specs.View.{IsFresh}
use Rattle.tc_law.specs.Lawful.{blocks_left}
use Rattle.tc_law.proofs.Lawful.{fresh_lawful}
use Rattle.tc_hall.specs.Rule.{starting as first_view}
use Rattle.tc_hall.specs.Steps.{IsNew}
use Rattle.tc_hall.proofs.Making.{clean_free, clean_pass}
use Rattle.tc_hall.proofs.Cases.{apart, clash, same_package}
use Rattle.tc_lemmas.proofs.Lists.{at_end, from_map}

module _ {A : Type 0} where
  -- the list of a function's values below n
  abbrev pub tabled : (ℕ → A) → ℕ → List A
  tabled f zero = []
  tabled f (suc n) = tabled f n ++ f n ∷ []

  pub tabled-length : (f : ℕ → A) (n : ℕ) → length (tabled f n) ≡ n
  tabled-length f zero = refl
  tabled-length f (suc n) = let l = length-append (tabled f n) (f n ∷ []) in let e = tabled-length f n in omega arith

  pub tabled-at : (f : ℕ → A) (n i : ℕ) (a : A) → get_elem? (tabled f n) i ≡ some a → (i < n) × (f i ≡ a)
  tabled-at f zero i a e = absurd (some-ne-none a (sym e))
  tabled-at f (suc n) i a e = ⊎_elim (λ (o : get_elem? (tabled f n) i ≡ some a). let r = tabled-at f n i a o in ((let b = r.0 in omega arith), r.1))
      (λ (o : (i ≡ length (tabled f n)) × (f n ≡ a)). let is : i ≡ n = o.0 ∙ tabled-length f n in ((omega arith), ap f is ∙ o.1)) (at_end (tabled f n) (f n) a i e)

pub below_more : (t n : ℕ) → t < n → t < suc n
below_more t n h = omega (arith, h)

pub top : (n : ℕ) → n < suc n
top n = omega arith

module _ {A : Type 0} where
  -- the list of the values of a function of the numbers below n
  abbrev pub gathered : (n : ℕ) → ((t : ℕ) → t < n → A) → List A
  gathered zero f = []
  gathered (suc n) f = gathered n (λ t h. f t (below_more t n h)) ++ f n (top n) ∷ []

  gathered-length : (n : ℕ) (f : (t : ℕ) → t < n → A) → length (gathered n f) ≡ n
  gathered-length zero f = refl
  gathered-length (suc n) f = (let l = length-append (gathered n (λ t h. f t (below_more t n h))) (f n (top n) ∷ []) in let e = gathered-length n (λ t h. f t (below_more t n h)) in omega (arith, l, e))

  gathered-at : (n : ℕ) (f : (t : ℕ) → t < n → A) (i : ℕ) (a : A) → get_elem? (gathered n f) i ≡ some a → (h : i < n) × (f i h ≡ a)
  gathered-at zero f i a e = absurd (some-ne-none a (sym e))
  gathered-at (suc n) f i a e =
      let less : (t : ℕ) → t < n → A = λ t h. f t (below_more t n h) in
      ⊎_elim (λ (o : get_elem? (gathered n less) i ≡ some a). let r = gathered-at n less i a o in (below_more i n r.0, r.1))
      (λ (o : (i ≡ length (gathered n less)) × (f n (top n) ≡ a)). let is : n ≡ i = sym (o.0 ∙ gathered-length n less) in subst (λ j. (h : j < suc n) × (f j h ≡ a)) is (top n, o.1))
      (at_end (gathered n less) (f n (top n)) a i e)

gathered-map : {A B : Type 0} (g : A → B) (n : ℕ) (f : (t : ℕ) → t < n → A) → map g (gathered n f) ≡ gathered n (λ t h. g (f t h))
gathered-map g zero f = refl
gathered-map g (suc n) f =
    map-append g (gathered n (λ t h. f t (below_more t n h))) (f n (top n) ∷ []) ∙ ap (λ l. l ++ g (f n (top n)) ∷ []) (gathered-map g n (λ t h. f t (below_more t n h)))

bare_left : (ps : List PackageView) (n : ℕ) → fold (λ a p. a + blocks_left (thread_in p.context)) n (map bare ps) ≡ fold (λ a p. a + blocks_left (thread_in p.context)) n ps
bare_left [] n = refl
bare_left (p ∷ ps) n = bare_left ps (n + blocks_left (thread_in p.context))

-- the law doesn't see what `bare` takes from packages
bare_lawful : (image : Shown) (fuel limit : ℕ) (h : List Block) (ps : List PackageView) (ls : List LockView) → Lawful image fuel limit h ps ls → Lawful image fuel limit h (map bare ps) ls
bare_lawful image fuel limit h ps ls law = record {
  history = law.history;
  tells = law.tells;
  obeys = law.obeys;
  all_packages = length-map ps bare ∙ law.all_packages;
  all_states = law.all_states;
  packages_after = λ t p e. (let r = from_map bare ps t p e in
      let a = law.packages_after t r.0 r.1 in
      let f = a.follows in
      subst (IsPackageAfter image fuel h t) r.2 (record { follows = record { of = f.of; number = f.number; thread = f.thread; log = f.log }; settled = a.settled }));
  states_after = law.states_after;
  bound = subst (λ n. length h + n ≤ length image.entries * (fuel + 1)) (sym (bare_left ps 0)) law.bound;
}

module _ (k : HallTerms) where
  first_is : (id : ℕ) (v : Knows) → get_elem? (first_view k ∷ []) id ≡ some v → (id ≡ 0) × (first_view k ≡ v)
  first_is zero v e = (refl, some-injective (first_view k) v e)
  first_is (suc id) v e = absurd (some-ne-none v (sym e))

  pub opens : (ws : List ℕ) (slots : List (Option Cargo)) → IsInLimits k → AreStocked k.image.value (threads k) (locks k) k.fuel k.limit slots → ws ≡ replicate (words_of k) 0 → KeptHall k (opening ws slots (first_view k))
  opens ws slots limits ready zeros =
      let n : ℕ = threads k in
      let m : ℕ = locks k in
      let whole : (t : ℕ) → t < n → PackageView = λ t h. (ready.packages t h).0 in
      let first : (t : ℕ) → t < n → PackageView = λ t h. bare (whole t h) in
      let places : List PackageView = gathered n first in
      let segments : List LockView = tabled (λ i. fresh_state k.image.value i k.limit) m in
      let zero_at : (i : ℕ) → i < words_of k → slice_index ws i ≡ 0 = λ i h. ap (λ (l : List ℕ). slice_index l i) zeros ∙ get_or-replicate (words_of k) i 0 0 h in
      let long : length places ≡ n = gathered-length n first in
      record {
        told = record {
          history = [];
          places = places;
          segments = segments;
          limits = limits;
          law = subst (λ ps. Lawful k.image.value k.fuel k.limit [] ps segments) (gathered-map bare n whole) (bare_lawful k.image.value k.fuel k.limit [] (gathered n whole) segments (fresh_lawful k.image.value k.fuel k.limit (gathered n whole) segments (record {
            all_packages = gathered-length n whole;
            all_states = tabled-length (λ i. fresh_state k.image.value i k.limit) m;
            packages_fresh = λ t p e. (let r = gathered-at n whole t p e in subst (IsFresh k.image.value t k.fuel) r.1 (ready.packages t r.0).2);
            states_fresh = λ i l e. sym (tabled-at (λ i. fresh_state k.image.value i k.limit) m i l e).1;
          })));
          strict = λ i l e. subst (λ (x : LockView). IsStrict x) (tabled-at (λ i. fresh_state k.image.value i k.limit) m i l e).1 refl;
          workers = λ i b e. absurd (some-ne-none b (sym e));
          delegates = record { handed = λ w. tt; runs_on = λ w. tt; stays = λ t. tt };
        };
        words = ap (λ (l : List ℕ). length l) zeros ∙ length-replicate (words_of k) 0;
        slots = length-map slots some ∙ ready.count;
        clock = zero_at 0 (omega arith);
        placed = record {
          holder = λ _. none;
          each = λ t p e. let r = gathered-at n first t p e in
              let q = ready.packages t r.0 in
              let word : slice_index ws (slot_word t) ≡ 0 = zero_at (slot_word t) (let b = r.0 in omega arith) in
              let same : bare q.0 ≡ p = r.1 in record {
                context = q.0;
                slot = at_map some slots t (Some (Package q.0)) q.1;
                same = same;
                word = omega arith;
                order = record {
                  ended = λ z. absurd (omega arith);
                  runs = λ _. ap (λ (z : Thread). is_running z.status) q.2.thread;
                  own = λ i l z. absurd (clash (locked_in q.0 i) l (q.2.locks i) z);
                  waits = λ i z. absurd (omega arith);
                  ready = λ g z. word;
                };
                fits = let none' : q.0.granted ≡ None = q.2.granted in
                    record { stop = λ z. absurd (apart (is_pinned q.0) (λ i. grants_adopted (none' i) || was_cut (last_of (q.2.log i))) z); fits = λ _ u. ap (λ o. fits_granted q.0.context o u) none' };
              };
          sized = λ id v e live. ap (λ (z : Knows). length z.packages) (sym (first_is id v e).1) ∙ length-replicate n None;
          owned = λ id v t p e has. absurd ((clean_free k.image.value n m (k.workers - 1) true).packages t p (ap (λ (z : Knows). get_elem? z.packages t) (first_is id v e).1 ∙ has));
        };
        locks_placed = record {
          spot = λ _. home;
          each = λ i l e. let r = tabled-at (λ i. fresh_state k.image.value i k.limit) m i l e in
              let q = ready.locks i r.0 in record {
                segment = q.0;
                slot = at_map some slots (n + i) (Some (Lock q.0)) q.1;
                same = ap kept q.2 ∙ r.1;
                word = zero_at (slot_word (n + i)) (let b = r.0 in omega arith);
                rests = subst (EndsSection i) (sym q.2) tt;
              };
          sized = λ id v e live. ap (λ (z : Knows). length z.locks) (sym (first_is id v e).1) ∙ length-replicate m None;
          owned = λ id v i l e has. absurd ((clean_free k.image.value n m (k.workers - 1) true).locks i l (ap (λ (z : Knows). get_elem? z.locks i) (first_is id v e).1 ∙ has));
          packed = λ t q i l b e has. let r = ready.packages t b in
              let same : q ≡ r.0 = same_package (get_elem? (map some slots) t) q r.0 e (at_map some slots t (Some (Package r.0)) r.1) in
              absurd (clash (locked_in q i) l (ap (λ (x : PackageView). locked_in x i) same ∙ r.2.locks i) has);
        };
        passes = λ id v e. let some' = limits.workers.0 in subst (IsPass k.image.value k.workers [] ws) (first_is id v e).1 (clean_pass k.image.value k.image.value k.workers [] ws n m (k.workers - 1) true refl (omega arith) refl);
        stop = λ e. let z = zero_at STOP (omega arith) in absurd (omega arith);
        apart = record {
          apart = λ i j v w ev ew lv lw e. (first_is i v ev).0 ∙ sym (first_is j w ew).0;
          joined = λ i j e v w ev ew lw h. some-ne-none w.worker (sym (ap (λ (z : Knows). get_elem? z.joined e) (first_is i v ev).1 ∙ h));
          maker = λ i j v w ev ew mv lw ne. absurd (ne ((first_is i v ev).0 ∙ sym (first_is j w ew).0));
          fresh = λ i j e u v w ev mv ew h. absurd (some-ne-none u (sym (ap (λ (z : Knows). get_elem? z.joined e) (first_is j w ew).1 ∙ h)));
          sole = λ i j v w ev ew mv mw. (first_is i v ev).0 ∙ sym (first_is j w ew).0;
          spent = λ i v e s. absurd (apart v.spent (ap (λ (z : Knows). z.spent) (sym (first_is i v e).1)) s);
        };
        listed = record {
          newest = λ i v e live. ap (λ (z : Knows). last_by z) (first_is i v e).1;
          owned = λ i j v b e f. absurd (some-ne-none b (sym (ap (λ (z : Knows). get_elem? z.sealed j) (first_is i v e).1 ∙ f)));
          made = λ i j v b e m f. absurd (some-ne-none b (sym f));
        };
      }

pub none_stocked : (image : Shown) (fuel limit : ℕ) (xs : List (Option Cargo)) → xs ≡ [] → AreStocked image 0 0 fuel limit xs
none_stocked image fuel limit xs e = record { count = ap (λ (l : List (Option Cargo)). length l) e; packages = λ t h. absurd (omega arith); locks = λ t h. absurd (omega arith) }

pub package_stocked : (image : Shown) (n fuel limit : ℕ) (xs ys : List (Option Cargo)) (q : PackageView) → AreStocked image n 0 fuel limit xs → IsFresh image n fuel q → ys ≡ xs ++ Some (Package q) ∷ [] → AreStocked image (n + 1) 0 fuel limit ys
package_stocked image n fuel limit xs ys q all new is = subst (AreStocked image (n + 1) 0 fuel limit) (sym is) record {
  count = let l = length-append xs (Some (Package q) ∷ []) in let c = all.count in omega arith;
  packages = λ t h. dite (ℕ_discrete t n)
      (λ (e : t ≡ n). (q, at_last xs (Some (Package q)) t (let c = all.count in omega arith), subst (λ (z : ℕ). IsFresh image z fuel q) (sym e) new))
      (λ (ne : t ≢ n). let old = all.packages t (omega arith) in (old.0, at_longer xs (Some (Package q) ∷ []) t (Some (Package old.0)) old.1, old.2));
  locks = λ i h. absurd (omega arith);
}

pub lock_stocked : (image : Shown) (n m fuel limit : ℕ) (xs ys : List (Option Cargo)) (q : LockView) → AreStocked image n m fuel limit xs → q ≡ fresh_state image m limit → ys ≡ xs ++ Some (Lock q) ∷ [] → AreStocked image n (m + 1) fuel limit ys
lock_stocked image n m fuel limit xs ys q all new is = subst (AreStocked image n (m + 1) fuel limit) (sym is) record {
  count = let l = length-append xs (Some (Lock q) ∷ []) in let c = all.count in omega arith;
  packages = λ t h. let old = all.packages t h in (old.0, at_longer xs (Some (Lock q) ∷ []) t (Some (Package old.0)) old.1, old.2);
  locks = λ i h. dite (ℕ_discrete i m)
      (λ (e : i ≡ m). (q, at_last xs (Some (Lock q)) (n + i) (let c = all.count in omega arith), subst (λ (z : ℕ). q ≡ fresh_state image z limit) (sym e) new))
      (λ (ne : i ≢ m). let old = all.locks i (omega arith) in (old.0, at_longer xs (Some (Lock q) ∷ []) (n + i) (Some (Lock old.0)) old.1, old.2));
}

one_made : (image : Shown) (n m made : ℕ) (z : TableId) (ps qs : List PassView) (p : PassView) → AreDealt image n m made z ps → qs ≡ ps ++ p ∷ [] → p.table ≡ z → IsNew image n m made p.knows → AreDealt image n m (made + 1) z qs
one_made image n m made z ps qs p all is table new = subst (AreDealt image n m (made + 1) z) (sym is) record {
  count = let l = length-append ps (p ∷ []) in let c = all.count in omega arith;
  each = λ i q e. ⊎_elim (λ (o : get_elem? ps i ≡ some q). all.each i q o)
      (λ (o : (i ≡ length ps) × (p ≡ q)). subst (λ (x : ℕ × PassView). (x.1.table ≡ z) × IsNew image n m x.0 x.1.knows) (λ j. (sym (o.0 ∙ all.count) j, o.1 j)) (table, new)) (at_end ps p q i e);
}

abbrev Place : Type 0
Place = Seat (Option Cargo) Knows

pub maker_first : (k : HallTerms) (x : Shown) (z : TableId) (seat : Place) → k.image.value ≡ x → seat.table_id ≡ z → seat.me ≡ (first_view k, []) → IsMaker x (length x.entries) (length x.guards) k.workers 0 z seat
maker_first k x z seat image table me = record {
  table = table;
  free = ap (λ (m : Knows × List (ℕ × Option Cargo)). m.1) me;
  view = ap (λ (m : Knows × List (ℕ × Option Cargo)). m.0) me ∙ ap (λ (y : Shown). clean y (length y.entries) (length y.guards) (k.workers - 1) true) image;
}

module _ (image : Shown) (n m workers made : ℕ) (z : TableId) (seat : Place) (mk : IsMaker image n m workers made z seat) where
  pub maker_next : (next : Place) → next.table_id ≡ seat.table_id → next.me ≡ (dealt seat.me.0, seat.me.1) → IsMaker image n m workers (made + 1) z next
  maker_next next table me = record {
    table = table ∙ mk.table;
    free = ap (λ (p : Knows × List (ℕ × Option Cargo)). p.1) me ∙ mk.free;
    view = ap (λ (p : Knows × List (ℕ × Option Cargo)). p.0) me ∙ ap dealt mk.view;
  }

  fresh_is : fresh seat.me.0 ≡ clean image n m made false
  fresh_is = ap fresh mk.view ∙ ap (λ (l : ℕ × ℕ). clean image l.0 l.1 made false) (λ i. (length-replicate {A = Option PackageView} n None i, length-replicate {A = Option LockView} m None i))

  -- the seat that was made
  module _ (new : Place) (table : new.table_id ≡ seat.table_id) (me : new.me ≡ (fresh seat.me.0, [])) where
    new_view : new.me.0 ≡ clean image n m made false
    new_view = ap (λ (p : Knows × List (ℕ × Option Cargo)). p.0) me ∙ fresh_is

    pub new_pass : (new.me.1 ≡ []) × (new.me.0.open_slot ≡ None) × (made ≡ new.me.0.worker) × (new.me.0.spent ≡ false)
    new_pass = (ap (λ (p : Knows × List (ℕ × Option Cargo)). p.1) me, ap (λ (v : Knows). v.open_slot) new_view, sym (ap (λ (v : Knows). v.worker) new_view), ap (λ (v : Knows). v.spent) new_view)

    pub new_made : (ps qs : List PassView) → AreDealt image n m made z ps → qs ≡ ps ++ record { table = new.table_id; seat = new.id; knows = new.me.0 } ∷ [] → AreDealt image n m (made + 1) z qs
    new_made ps qs all is = one_made image n m made z ps qs record { table = new.table_id; seat = new.id; knows = new.me.0 } all is (table ∙ mk.table)
        record { of = ap (λ (v : Knows). v.image) new_view; now = new_view ∙ ap (λ (v : Knows). record (clean v.image n m made v.maker) { made = v.made }) (sym new_view) }

  -- the seat that makes the others is the last
  pub last_pass : (seat.me.1 ≡ []) × (seat.me.0.open_slot ≡ None) × (workers - 1 ≡ seat.me.0.worker) × (seat.me.0.spent ≡ false)
  last_pass = (mk.free, ap (λ (v : Knows). v.open_slot) mk.view, sym (ap (λ (v : Knows). v.worker) mk.view), ap (λ (v : Knows). v.spent) mk.view)

  pub last_made : (ps qs : List PassView) → made + 1 ≡ workers → AreDealt image n m made z ps → qs ≡ ps ++ record { table = seat.table_id; seat = seat.id; knows = seat.me.0 } ∷ [] → AreDealt image n m workers z qs
  last_made ps qs last all is =
      let w : workers - 1 ≡ made = omega arith in
      subst (λ (x : ℕ). AreDealt image n m x z qs) last (one_made image n m made z ps qs record { table = seat.table_id; seat = seat.id; knows = seat.me.0 } all is mk.table
      record { of = ap (λ (v : Knows). v.image) mk.view; now = mk.view ∙ (ap (λ (x : ℕ). record (clean image n m x true) { made = made }) w ∙ ap (λ (v : Knows). record (clean v.image n m made v.maker) { made = v.made }) (sym mk.view)) })

pub none_made : (image : Shown) (n m : ℕ) (z : TableId) (ps : List PassView) → ps ≡ [] → AreDealt image n m 0 z ps
none_made image n m z ps e = record { count = ap (λ (l : List PassView). length l) e; each = λ i p h. absurd (some-ne-none p (sym (ap (λ (l : List PassView). get_elem? l i) (sym e) ∙ h))) }
