-- What a checker has before its first block.
use Rattle.std.proofs.Common.{◌≡◌, ◌⊎◌, ℕ, zero, suc, ◌+◌, ◌*◌, ◌<◌, ◌≤◌, ◌==◌, Bool, true, false, List, [], ◌∷◌, ◌++◌, map, length, refl, sym, ap, subst, ◌∙◌, arith, inl, inr, ⊎_elim, length-append}
use Rattle.std.specs.Prelude.{Option, Some, None, is_some, nat_lt, if◌then◌else◌}
use Rattle.std.specs.List.{range_with_len}
use Rattle.std.proofs.lemmas.Bool.Decides.{eqb_tells, nat_tests}
use Rattle.std.proofs.lemmas.List.{length-map}
use Rattle.std.proofs.lemmas.List.Folds.{fold-map}
use Rattle.std.proofs.lemmas.List.FromFn.{length-map-range_with_len, get_or-map-range_with_len}
use mathlib.Core.Option.{some, some-injective, some-ne-none}
use Rattle.tc_isa.specs.declared.options.Options.{Options as Terms}
use Rattle.tc_elf.specs.Shown.{Shown}
use Rattle.tc_mutex_spec.proofs.ListLaws.{there}
use Rattle.tc_segment.specs.View.{LockView, fresh_state}
use Rattle.tc_context.specs.Locks.{lock_in, IsPlaced}
use Rattle.tc_context.specs.Whole.{thread_in}
use Rattle.tc_context.specs.View.{PackageView, IsFresh, bare}
use Rattle.tc_law.specs.Lawful.{Lawful, StandsAt, IsStateAfter, IsLimited, IsPackageAfter, blocks_left}
use Rattle.tc_law.proofs.Lawful.{fresh_lawful}
use Rattle.tc_replay.specs.Taken.{AreFreshPackages, AreTaken, IsHome, lenient_state}
use Rattle.tc_replay.proofs.Keeping.{at_map}
use Rattle.tc_lemmas.proofs.Lists.{something_at}

-- a list that is made by number
made_at : {A : Type 0} (f : ℕ → A) (n k : ℕ) (a : A) → StandsAt (map f (range_with_len 0 n)) k a → (k < n) × (a ≡ f k)
made_at f n k a e =
    let known = there (map f (range_with_len 0 n)) k a a e in
    let lt : k < n = (let count = length-map-range_with_len f 0 n in omega (arith, known.0, count)) in
    (lt, sym known.1 ∙ get_or-map-range_with_len f 0 n k k a lt (let z : 0 + k ≡ k = omega arith in z))

made_there : {A : Type 0} (f : ℕ → A) (n k : ℕ) → k < n → StandsAt (map f (range_with_len 0 n)) k (f k)
made_there f n k lt =
    let x = something_at (map f (range_with_len 0 n)) k (let count = length-map-range_with_len f 0 n in omega (arith, lt, count)) in
    x.1 ∙ ap (λ y. some y) (made_at f n k x.0 x.1).1

-- what stands in a list at whose places something was done
pub was_at : {A B : Type 0} (f : A → B) (l : List A) (i : ℕ) (b : B) → StandsAt (map f l) i b → (a : A) × StandsAt l i a × (f a ≡ b)
was_at f l i b e =
    let lt : i < length l = (let known = (there (map f l) i b b e).0 in let count = length-map l f in omega (arith, known, count)) in
    let x = something_at l i lt in
    (x.0, x.1, some-injective (f x.0) b (sym (at_map f l i x.0 x.1) ∙ e))

-- what stands in a list to which one thing was added
pub pushed_at : {A : Type 0} (l : List A) (a x : A) (i : ℕ) → StandsAt (l ++ a ∷ []) i x → ((i ≡ length l) × (a ≡ x)) ⊎ StandsAt l i x
pushed_at [] a x zero e = inl (refl, some-injective a x e)
pushed_at [] a x (suc i) e = absurd (some-ne-none x (sym e))
pushed_at (y ∷ l) a x zero e = inr e
pushed_at (y ∷ l) a x (suc i) e = ⊎_elim (λ o. inl (ap suc o.0, o.1)) (λ was. inr was) (pushed_at l a x i e)

-- ---- what the loops make

pub package_more : (image : Shown) (fuel t : ℕ) (old new : List PackageView) (p : PackageView) → length old ≡ t → ((u : ℕ) (x : PackageView) → StandsAt old u x → IsFresh image u fuel x) → IsFresh image t fuel p → new ≡ old ++ p ∷ []
    → (u : ℕ) (x : PackageView) → StandsAt new u x → IsFresh image u fuel x
package_more image fuel t old new p count so_far fresh is u x e = ⊎_elim
    (λ o. subst (λ (y : ℕ × PackageView). IsFresh image y.0 fuel y.1) (λ i. (sym (o.0 ∙ count) i, o.1 i)) fresh)
    (λ was. so_far u x was)
    (pushed_at old p x u (subst (λ l. StandsAt l u x) is e))

pub count_more : {A : Type 0} (t : ℕ) (old new : List A) (a : A) → length old ≡ t → new ≡ old ++ a ∷ [] → length new ≡ t + 1
count_more {A = A} t old new a count is = (let e = ap (λ (l : List A). length l) is in let n = length-append old (a ∷ []) in omega (arith, e, n, count))

pub locks_more : (image : Shown) (limit n : ℕ) (old new : List (Option LockView)) (l : LockView) → ((k : ℕ) → lock_in old k ≡ (if nat_lt k n then Some (lenient_state image limit k) else None)) → l ≡ lenient_state image limit n
    → IsPlaced l.number (Some l) old new → (k : ℕ) → lock_in new k ≡ (if nat_lt k (n + 1) then Some (lenient_state image limit k) else None)
locks_more image limit n old new l so_far fresh put k =
    let at : lock_in new k ≡ (if k == n then Some l else lock_in old k) = put k ∙ ap (λ (x : LockView). if k == x.number then Some l else lock_in old k) fresh in
    elim (eqb_tells k n) [
      | inl x ↦ at ∙ ap (λ v. if v then Some l else lock_in old k) x.0 ∙ ap Some fresh ∙ ap (λ j. Some (lenient_state image limit j)) (sym x.1)
          ∙ sym (ap (λ v. if v then Some (lenient_state image limit k) else None) (let same = x.1 in let below : nat_lt k (n + 1) ≡ true = grind (arith, nat_tests, same) in below))
      | inr x ↦ at ∙ ap (λ v. if v then Some l else lock_in old k) x.0 ∙ so_far k
          ∙ ap (λ v. if v then Some (lenient_state image limit k) else None) (let ne = x.1 in let same : nat_lt k n ≡ nat_lt k (n + 1) = grind (arith, nat_tests) in same)
    ]

module _ (image : Shown) (terms : Terms) (packages : List PackageView) (home : List (Option LockView)) (limits : IsLimited image terms.fuel) (fresh : AreFreshPackages image terms.fuel packages)
    (locks : (k : ℕ) → lock_in home k ≡ (if nat_lt k (length image.guards) then Some (lenient_state image terms.limit k) else None)) where
  abbrev lenient : ℕ → LockView
  lenient k = lenient_state image terms.limit k

  abbrev states : List LockView
  states = map lenient (range_with_len 0 (length image.guards))

  abbrev strict : ℕ → LockView
  strict k = fresh_state image k terms.limit

  -- the law doesn't see whether lock states are strict, nor what `bare` takes from packages
  law_strict : Lawful image terms.fuel terms.limit [] packages (map strict (range_with_len 0 (length image.guards)))
  law_strict = fresh_lawful image terms.fuel terms.limit packages (map strict (range_with_len 0 (length image.guards))) (record {
    all_packages = fresh.all;
    all_states = length-map-range_with_len strict 0 (length image.guards);
    packages_fresh = fresh.fresh;
    states_fresh = λ k l e. (made_at strict (length image.guards) k l e).1;
  })

  law : Lawful image terms.fuel terms.limit [] (map bare packages) states
  law = record {
    history = law_strict.history;
    tells = law_strict.tells;
    obeys = law_strict.obeys;
    all_packages = length-map packages bare ∙ law_strict.all_packages;
    all_states = length-map-range_with_len lenient 0 (length image.guards);
    packages_after = λ t p e. (let x = was_at bare packages t p e in
        let after = law_strict.packages_after t x.0 x.1 in
        subst (IsPackageAfter image terms.fuel [] t) x.2 (record { follows = record { of = after.follows.of; number = after.follows.number; thread = after.follows.thread; log = after.follows.log }; settled = after.settled }));
    states_after = λ k l e. subst (IsStateAfter image terms.fuel terms.limit [] k) (sym (made_at lenient (length image.guards) k l e).1) (record {
      follows = record { of = refl; number = refl; lock = refl; entries = refl; bound = refl };
      opened = refl;
      closed = refl;
    });
    bound = subst (λ n. 0 + n ≤ length image.entries * (terms.fuel + 1)) (sym (fold-map (λ a (p : PackageView). a + blocks_left (thread_in p.context)) bare 0 packages)) law_strict.bound;
  }

  home_there : (k : ℕ) (l : LockView) → lock_in home k ≡ Some l → IsHome image states k l
  home_there k l e = by (nat_lt k (length image.guards)) refl
    where
      by : (v : Bool) → nat_lt k (length image.guards) ≡ v → IsHome image states k l
      by false out = absurd (let f : None ≡ Some l = sym (ap (λ v. if v then Some (lenient k) else None) out) ∙ sym (locks k) ∙ e in cc)
      by true in_it =
          let f : Some (lenient k) ≡ Some l = sym (ap (λ v. if v then Some (lenient k) else None) in_it) ∙ sym (locks k) ∙ e in
          let is : lenient k ≡ l = cc in
          let lt : k < length image.guards = grind (arith, nat_tests, in_it) in
          subst (IsHome image states k) is (record {
            rest = record { number = refl; of = refl; opened = refl; closed = refl; ended = tt };
            place = made_there lenient (length image.guards) k lt;
          })

  -- so no block was taken
  pub fresh_taken : AreTaken image terms [] packages home
  fresh_taken = (
    states,
    record {
      limits = limits;
      law = law;
      right = tt;
      lenient = λ k l e. ap (λ (x : LockView). x.journal.strict) (made_at lenient (length image.guards) k l e).1;
      among = λ u x e. (let new = fresh.fresh u x e in (
        record {
          place = subst (λ n. StandsAt (map bare packages) n (bare x)) (sym new.number) (at_map bare packages u x e);
          locks = λ k l f. absurd (let g : None ≡ Some l = sym (new.locks k) ∙ f in cc);
        },
        record {
          pending = new.pending;
          granted = new.granted;
          held = λ k f. absurd (let g : false ≡ true = sym (ap is_some (new.locks k)) ∙ f in cc);
        },
      ));
      home_is = home_there;
      owned = λ k lt none. absurd (let in_it : nat_lt k (length image.guards) ≡ true = grind (arith, nat_tests, lt) in
          let f : Some (lenient k) ≡ None = sym (ap (λ v. if v then Some (lenient k) else None) in_it) ∙ sym (locks k) ∙ none in cc);
    },
  )
