-- What is out, split among those who have it in hand.
use Rattle.std.proofs.Common.{◌≡◌, ◌≢◌, ℕ, ◌==◌, Bool, true, false, if◌then◌else◌, List, [], ◌∷◌, ◌++◌, refl, sym, ap, ◌∙◌, subst, arith, Option, Some, None}
use Rattle.tc_combiner.proofs.Vocabulary.{DidGrant, DidTakeOut, IsOut, IsPlaced, Item, Kind, Knows, LockView, Loose, Moves, Outs, Owned, Owns, Pack, PackageView, Within, bare, erase, keep, kept, locked_in, minus, nat_tests, outs, part, unless, with_turns}

module _ {A : Type 0} where
  -- a, or else d
  abbrev pub either : Option A → Option A → Option A
  either (Some a) d = Some a
  either None d = d

  unless_some : (a x : Option A) (c : A) → unless a x ≡ Some c → (a ≡ None) × (x ≡ Some c)
  unless_some None x c e = (refl, e)
  unless_some (Some a) x c e = let n : ⊥ = cc in absurd n

  unless_free : (a x : Option A) → a ≡ None → unless a x ≡ x
  unless_free a x e = ap (λ (z : Option A). unless z x) e

  unless_twice : (a d x : Option A) → unless d (unless a x) ≡ unless (either a d) x
  unless_twice None d x = refl
  unless_twice (Some a) None x = refl
  unless_twice (Some a) (Some d) x = refl

  unless_swap : (a d x : Option A) → unless d (unless a x) ≡ unless a (unless d x)
  unless_swap None d x = refl
  unless_swap (Some a) None x = refl
  unless_swap (Some a) (Some d) x = refl

  -- apart from a, if what d has is left where a is taken away
  apart_at : (a d x : Option A) (c : A) → ((e : A) → d ≡ Some e → unless a x ≡ Some e) → a ≡ Some c → d ≡ None
  apart_at a None x c h e = refl
  apart_at a (Some g) x c h e = let k = (unless_some a x g (h g refl)).0 in let n : ⊥ = cc in absurd n

  either_in : (a d x : Option A) (c : A) → ((e : A) → a ≡ Some e → x ≡ Some e) → ((e : A) → d ≡ Some e → unless a x ≡ Some e) → either a d ≡ Some c → x ≡ Some c
  either_in None d x c h k e = k c e
  either_in (Some a) d x c h k e = h c e

-- x is out beside y, as y is beside x
beside : (o f g : Outs) → Within f o → Within g (minus o f) → Within f (minus o g)
beside o f g a b = record {
  contexts = λ u c e. unless_free (g.context u) (o.context u) (apart_at (f.context u) (g.context u) (o.context u) c (b.contexts u) e) ∙ a.contexts u c e;
  locks = λ i c e. unless_free (g.lock i) (o.lock i) (apart_at (f.lock i) (g.lock i) (o.lock i) c (b.locks i) e) ∙ a.locks i c e;
}

weaken : (o f g : Outs) → Within g (minus o f) → Within g o
weaken o f g b = record {
  contexts = λ u c e. (unless_some (f.context u) (o.context u) c (b.contexts u c e)).1;
  locks = λ i c e. (unless_some (f.lock i) (o.lock i) c (b.locks i c e)).1;
}

minus_swap : (o f g : Outs) → minus (minus o f) g ≡ minus (minus o g) f
minus_swap o f g = λ j. record { context = λ u. unless_swap (f.context u) (g.context u) (o.context u) j; lock = λ i. unless_swap (f.lock i) (g.lock i) (o.lock i) j }

pub swap : (b o : Outs) (x y : Item) (zs : List Item) → Owns b o (x ∷ y ∷ zs) → Owns b o (y ∷ x ∷ zs)
swap b o x y zs h = (weaken o (part x) (part y) h.1.0, (beside o (part x) (part y) h.0 h.1.0, subst (λ (z : Outs). Owns b z zs) (minus_swap o (part x) (part y)) h.1.1))

-- f is a and d together
pub record Joins (a d f : Outs) : Type 0 where
  pub contexts : (u : ℕ) → f.context u ≡ either (a.context u) (d.context u)
  pub locks : (i : ℕ) → f.lock i ≡ either (a.lock i) (d.lock i)

minus_join : (o a d f : Outs) → Joins a d f → minus (minus o a) d ≡ minus o f
minus_join o a d f j = λ k. record {
  context = λ u. (unless_twice (a.context u) (d.context u) (o.context u) ∙ ap (λ (z : Option PackageView). unless z (o.context u)) (sym (j.contexts u))) k;
  lock = λ i. (unless_twice (a.lock i) (d.lock i) (o.lock i) ∙ ap (λ (z : Option LockView). unless z (o.lock i)) (sym (j.locks i))) k;
}

pub joined : (b o : Outs) (x y z : Item) (zs : List Item) → Joins (part x) (part y) (part z) → Owns b o (x ∷ y ∷ zs) → Owns b o (z ∷ zs)
joined b o x y z zs j h = (
  record {
    contexts = λ u c e. either_in ((part x).context u) ((part y).context u) (o.context u) c (h.0.contexts u) (h.1.0.contexts u) (sym (j.contexts u) ∙ e);
    locks = λ i c e. either_in ((part x).lock i) ((part y).lock i) (o.lock i) c (h.0.locks i) (h.1.0.locks i) (sym (j.locks i) ∙ e);
  },
  subst (λ (w : Outs). Owns b w zs) (minus_join o (part x) (part y) (part z) j) h.1.1,
)

-- a and d have nothing in common
pub record AreApart (a d : Outs) : Type 0 where
  pub contexts : (u : ℕ) (c : PackageView) → d.context u ≡ Some c → a.context u ≡ None
  pub locks : (i : ℕ) (l : LockView) → d.lock i ≡ Some l → a.lock i ≡ None

either_at : {A : Type 0} (a b d : Option A) → a ≡ b → either a d ≡ either b d
either_at a b d e = ap (λ (z : Option _). either z d) e

pub parted : (b o : Outs) (x y z : Item) (zs : List Item) → Joins (part x) (part y) (part z) → AreApart (part x) (part y) → Owns b o (z ∷ zs) → Owns b o (x ∷ y ∷ zs)
parted b o x y z zs j p h =
    let fx = part x in
    let fy = part y in (
      record {
        contexts = λ u c e. h.0.contexts u c (j.contexts u ∙ either_at (fx.context u) (Some c) (fy.context u) e);
        locks = λ i c e. h.0.locks i c (j.locks i ∙ either_at (fx.lock i) (Some c) (fy.lock i) e);
      },
      (
        record {
          contexts = λ u c e. unless_free (fx.context u) (o.context u) (p.contexts u c e) ∙ h.0.contexts u c (j.contexts u ∙ (either_at (fx.context u) None (fy.context u) (p.contexts u c e) ∙ e));
          locks = λ i c e. unless_free (fx.lock i) (o.lock i) (p.locks i c e) ∙ h.0.locks i c (j.locks i ∙ (either_at (fx.lock i) None (fy.lock i) (p.locks i c e) ∙ e));
        },
        subst (λ (w : Outs). Owns b w zs) (sym (minus_join o (part x) (part y) (part z) j)) h.1,
      ),
    )

-- what a call of the hall moves
pub moves_none : (v w : Knows) → outs w ≡ outs v → Moves v w [] []
moves_none v w e b zs h = subst (λ (o : Outs). Owns b o zs) (sym e) h

pub moves_in : (v w : Knows) (x : Item) → outs w ≡ erase (outs v) x → Moves v w (x ∷ []) []
moves_in v w x e b zs h = subst (λ (o : Outs). Owns b o zs) (sym e) h.1

pub moves_out : (v w : Knows) (x : Item) → IsOut (outs w) x → erase (outs w) x ≡ outs v → Moves v w [] (x ∷ [])
moves_out v w x out e b zs h = (out, subst (λ (o : Outs). Owns b o zs) (sym e) h)

-- q is p with the lock state l in it besides
pub record IsWith (l : LockView) (p q : PackageView) : Type 0 where
  pub same : bare q ≡ bare p
  pub here : locked_in q l.number ≡ Some l
  pub free : locked_in p l.number ≡ None
  pub others : (i : ℕ) → i ≢ l.number → locked_in q i ≡ locked_in p i

either_none : {A : Type 0} (a : Option A) → either a None ≡ a
either_none None = refl
either_none (Some a) = refl

abbrev at_thread : PackageView → ℕ → Option PackageView
at_thread c u = if u == c.context.thread then Some c else None

lock_joins : (l : LockView) (p q : PackageView) → IsWith l p q → (i : ℕ) → keep (locked_in q i) ≡ either (keep (locked_in p i)) ((if i == l.number then Some (kept l) else None))
lock_joins l p q h i = elim (i == l.number) as (λ (b : Bool). (i == l.number) ≡ b → keep (locked_in q i) ≡ either (keep (locked_in p i)) (if b then Some (kept l) else None)) [
  | true ↦ λ r. let e : i ≡ l.number = grind (arith, nat_tests) in
      ap (λ (k : ℕ). keep (locked_in q k)) e ∙ (ap keep h.here ∙ sym (ap (λ (z : Option LockView). either (keep z) (Some (kept l))) (ap (locked_in p) e ∙ h.free)))
  | false ↦ λ r. let ne : i ≢ l.number = grind (arith, nat_tests) in ap keep (h.others i ne) ∙ sym (either_none (keep (locked_in p i)))
] refl

pub with_joins : (l : LockView) (p q : PackageView) → IsWith l p q → Joins (part (Pack p)) (part (Loose l)) (part (Pack q))
with_joins l p q h = record {
  contexts = λ u. ap (λ (c : PackageView). at_thread c u) h.same ∙ sym (either_none (at_thread (bare p) u));
  locks = lock_joins l p q h;
}

pub with_apart : (l : LockView) (p q : PackageView) → IsWith l p q → AreApart (part (Pack p)) (part (Loose l))
with_apart l p q h = record {
  contexts = λ u c e. let n : ⊥ = cc in absurd n;
  locks = λ i k e. elim (i == l.number) as (λ (b : Bool). (i == l.number) ≡ b → (if b then Some (kept l) else None) ≡ Some k → keep (locked_in p i) ≡ None) [
    | true ↦ λ r f. let g : i ≡ l.number = grind (arith, nat_tests) in ap keep (ap (locked_in p) g ∙ h.free)
    | false ↦ λ r f. let n : ⊥ = cc in absurd n
  ] refl e;
}

-- a lock state goes into a package, and comes out of it
pub goes_in : (v : Knows) (l : LockView) (p q : PackageView) → IsWith l p q → Moves v v (Pack p ∷ Loose l ∷ []) (Pack q ∷ [])
goes_in v l p q h b zs o = joined b (outs v) (Pack p) (Loose l) (Pack q) zs (with_joins l p q h) o

pub comes_out : (v : Knows) (l : LockView) (p q : PackageView) → IsWith l q p → Moves v v (Pack p ∷ []) (Pack q ∷ Loose l ∷ [])
comes_out v l p q h b zs o = parted b (outs v) (Pack q) (Loose l) (Pack p) zs (with_joins l q p h) (with_apart l q p h) o

pub place_here : (n : ℕ) (o : Option LockView) (p q : PackageView) → IsPlaced n o p.context.locks q.context.locks → locked_in q n ≡ o
place_here n o p q h = h n ∙ ap (λ (b : Bool). if b then o else locked_in p n) (let e : (n == n) ≡ true = grind (arith, nat_tests) in e)

pub place_other : (n : ℕ) (o : Option LockView) (p q : PackageView) → IsPlaced n o p.context.locks q.context.locks → (i : ℕ) → i ≢ n → locked_in q i ≡ locked_in p i
place_other n o p q h i ne = h i ∙ ap (λ (b : Bool). if b then o else locked_in p i) (let e : (i == n) ≡ false = grind (arith, nat_tests) in e)

pub granted_with : (l : LockView) (k : Kind) (n : ℕ) (p q : PackageView) → DidGrant l k n p q → locked_in p l.number ≡ None → IsWith l p q
granted_with l k n p q d free = record {
  same = ap bare d.is;
  here = place_here l.number (Some l) p q d.locks;
  free = free;
  others = place_other l.number (Some l) p q d.locks;
}

pub taken_with : (i : ℕ) (l : LockView) (p q : PackageView) → DidTakeOut i l p q → IsWith l q p
taken_with i l p q d = record {
  same = sym (ap bare d.is);
  here = ap (locked_in p) d.rest.number ∙ d.was;
  free = ap (locked_in q) d.rest.number ∙ place_here i None p q d.locks;
  others = λ j ne. sym (place_other i None p q d.locks j (λ e. ne (e ∙ sym d.rest.number)));
}

-- the count of a package's turns is no part of what is out
pub counts_in : (v : Knows) (p q : PackageView) (n : ℕ) (xs : List Item) → q ≡ with_turns n p → Moves v v (Pack p ∷ xs) (Pack q ∷ xs)
counts_in v p q n xs e b zs o = subst (λ (z : PackageView). Owns b (outs v) (Pack z ∷ (xs ++ zs))) (sym e) (record { contexts = o.0.contexts; locks = o.0.locks }, o.1)

pub takes_in : (v w : Knows) (l : LockView) (p q : PackageView) → Moves v w [] (Loose l ∷ []) → IsWith l p q → Moves v w (Pack p ∷ []) (Pack q ∷ [])
takes_in v w l p q m h b zs o = goes_in w l p q h b zs (swap b (outs w) (Loose l) (Pack p) zs (m b (Pack p ∷ zs) o))

pub granted_moves : (v : Knows) (l : LockView) (k : Kind) (n : ℕ) (p q : PackageView) → DidGrant l k n p q → locked_in p l.number ≡ None → Moves v v (Pack p ∷ Loose l ∷ []) (Pack q ∷ [])
granted_moves v l k n p q d free = goes_in v l p q (granted_with l k n p q d free)

-- one of these that stood last comes first, and one that stood first comes last
pub rotate : (b o : Outs) (x : Item) (ys zs : List Item) → Owns b o (ys ++ (x ∷ zs)) → Owns b o (x ∷ (ys ++ zs))
rotate b o x [] zs h = h
rotate b o x (y ∷ ys) zs h = swap b o y x (ys ++ zs) (h.0, rotate b (erase o y) x ys zs h.1)

pub unrotate : (b o : Outs) (x : Item) (ys zs : List Item) → Owns b o (x ∷ (ys ++ zs)) → Owns b o (ys ++ (x ∷ zs))
unrotate b o x [] zs h = h
unrotate b o x (y ∷ ys) zs h = let k = swap b o x y (ys ++ zs) h in (k.0, unrotate b (erase o y) x ys zs k.1)

-- the first may count as what is out besides
without : (b o : Outs) (x : Item) (xs : List Item) → Owns b o (x ∷ xs) → (c : Outs) × Owns c o xs
without b o x [] h = (o, refl)
without b o x (y ∷ ys) h = let k = swap b o x y ys h in let r = without b (erase o y) x ys k.1 in (r.0, (k.0, r.1))

pub without_first : (w : Knows) (x : Item) (xs : List Item) → Owned w (x ∷ xs) → Owned w xs
without_first w x xs o = without o.0 (outs w) x xs o.1
