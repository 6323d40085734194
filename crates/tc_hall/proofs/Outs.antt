-- How the effects on the view change what is out.
use Rattle.std.proofs.Common.{◌≡◌, ℕ, zero, suc, ◌==◌, if◌then◌else◌, List, [], ◌∷◌, set, get_or, Option, Some, None, refl, sym, ap, ◌∙◌, ⊎_elim, get_or-set_other, Bool}
use Rattle.tc_hall.proofs.Vocabulary.{Take, Block, Called, Has, HasLock, Knows, LockView, PackageView, Place, add_all, after_claim, after_free, after_put, after_seal, after_take, bare, claim_call, get_elem?, kept, lock_in, locked_in, option_map, outs, remove_all, sealed_as, some, some-injective, some-ne-none, with_journal, with_seal}
use Rattle.std.proofs.lemmas.Bool.Decides.{eqb_tells}
use Rattle.tc_context.proofs.Running.{sealed_at}
use Rattle.tc_hall.specs.Outs.{Outs, erase, keep, unless, Pack, Loose, IsOut, CameOut}
use Rattle.tc_hall.proofs.Cases.{clash, none_of}
use Rattle.tc_lemmas.proofs.Tests.{eq_self}

-- two functions that agree everywhere are the same outs
pub same_outs : (o p : Outs) → ((u : ℕ) → o.context u ≡ p.context u) → ((i : ℕ) → o.lock i ≡ p.lock i) → o ≡ p
same_outs o p e f = λ j. record { context = λ u. e u j; lock = λ i. f i j }

-- a place that was emptied, and the others
emptied : {A : Type 0} (xs : List (Option A)) (t u : ℕ) (a : A) → get_or (set xs t None) u None ≡ unless (if u == t then Some a else None) (get_or xs u None)
emptied {A} xs t u a = ⊎_elim
    (λ e. blank xs t u e.1 ∙ sym (ap (λ b. unless (if b then Some a else None) (get_or xs u None)) e.0))
    (λ e. get_or-set_other xs t u None None e.1 ∙ sym (ap (λ b. unless (if b then Some a else None) (get_or xs u None)) e.0))
    (eqb_tells u t)
  where
    blank : (xs : List (Option A)) (t u : ℕ) → u ≡ t → get_or (set xs t None) u None ≡ None
    blank [] t u e = refl
    blank (x ∷ xs) zero u e = ap (λ z. get_or (None ∷ xs) z None) e
    blank (x ∷ xs) (suc t) u e = ap (λ z. get_or (x ∷ set xs t None) z None) e ∙ blank xs t t refl

-- places that were emptied where there is one of these
removed : (xs slots : List (Option LockView)) (i : ℕ) → get_or (remove_all xs slots) i None ≡ unless (keep (lock_in slots i)) (get_or xs i None)
removed [] slots i = none (lock_in slots i)
  where
    none : (o : Option LockView) → None ≡ unless (keep o) None
    none None = refl
    none (Some l) = refl
removed (x ∷ xs) [] i = refl
removed (x ∷ xs) (None ∷ slots) zero = refl
removed (x ∷ xs) (Some l ∷ slots) zero = refl
removed (x ∷ xs) (o ∷ slots) (suc i) = removed xs slots i

pub put_outs : (v : Knows) (q : PackageView) (place : Place) → outs (after_put v q place) ≡ erase (outs v) (Pack q)
put_outs v q place = same_outs (outs (after_put v q place)) (erase (outs v) (Pack q)) (λ u. emptied v.packages q.context.thread u (bare q)) (λ i. removed v.locks q.context.locks i)

pub free_outs : (v : Knows) (l : LockView) → outs (after_free v l) ≡ erase (outs v) (Loose l)
free_outs v l = same_outs (outs (after_free v l)) (erase (outs v) (Loose l)) (λ u. refl) (λ i. emptied v.locks l.number i (kept l))

none_some : {A : Type 0} (a : A) → None ≡ Some a → ⊥
none_some a e = cc e

-- what is there, is found there
pub found : {A : Type 0} (xs : List A) (i : ℕ) (a d : A) → get_elem? xs i ≡ some a → get_or xs i d ≡ a
found [] i a d e = absurd (some-ne-none a (sym e))
found (x ∷ xs) zero a d e = some-injective x a e
found (x ∷ xs) (suc i) a d e = found xs i a d e

-- and what is found there, is there
pub is_there : {A : Type 0} (xs : List (Option A)) (i : ℕ) (a : A) → get_or xs i None ≡ Some a → get_elem? xs i ≡ some (Some a)
is_there [] i a e = absurd (none_some a e)
is_there (x ∷ xs) zero a e = ap some e
is_there (x ∷ xs) (suc i) a e = is_there xs i a e

none_there : {A : Type 0} (xs : List (Option A)) (i : ℕ) → ((a : A) → get_elem? xs i ≡ some (Some a) → ⊥) → get_or xs i None ≡ None
none_there xs i never = none_of (get_or xs i None) (λ a e. never a (is_there xs i a e))

-- a place that was filled, where nothing was before
filled : {A : Type 0} (xs : List (Option A)) (t u : ℕ) (a b : A) → get_or xs t None ≡ None → unless (if u == t then Some b else None) (get_or (set xs t (Some a)) u None) ≡ get_or xs u None
filled {A} xs t u a b empty = ⊎_elim
    (λ e. ap (λ z. unless (if z then Some b else None) (get_or (set xs t (Some a)) u None)) e.0 ∙ sym (ap (λ z. get_or xs z None) e.1 ∙ empty))
    (λ e. ap (λ z. unless (if z then Some b else None) (get_or (set xs t (Some a)) u None)) e.0 ∙ get_or-set_other xs t u (Some a) None e.1)
    (eqb_tells u t)

-- it has what it was filled with
fills : {A : Type 0} (xs : List (Option A)) (t u : ℕ) (a c : A) → get_elem? xs t ≡ some (Some a) → (if u == t then Some a else None) ≡ Some c → get_or xs u None ≡ Some c
fills {A} xs t u a c has is = ⊎_elim
    (λ e. ap (λ z. get_or xs z None) e.1 ∙ (found xs t (Some a) None has ∙ (sym (ap (λ z. if z then Some a else None) e.0) ∙ is)))
    (λ e. absurd (none_some c (sym (ap (λ z. if z then Some a else None) e.0) ∙ is)))
    (eqb_tells u t)

-- places that were filled where there is one of these, and nothing was before
added : (xs slots : List (Option LockView)) (i : ℕ) → ((l : LockView) → lock_in slots i ≡ Some l → get_or xs i None ≡ None) → unless (keep (lock_in slots i)) (get_or (add_all xs slots) i None) ≡ get_or xs i None
added [] slots i empty = none (lock_in slots i)
  where
    none : (o : Option LockView) → unless (keep o) None ≡ None
    none None = refl
    none (Some l) = refl
added (x ∷ xs) [] i empty = refl
added (x ∷ xs) (None ∷ slots) zero empty = refl
added (x ∷ xs) (Some l ∷ slots) zero empty = sym (empty l refl)
added (x ∷ xs) (o ∷ slots) (suc i) empty = added xs slots i empty

kept_there : (xs : List (Option LockView)) (o : Option LockView) (i : ℕ) (l : LockView) → ((k : LockView) → o ≡ Some k → get_elem? xs i ≡ some (Some (kept k))) → keep o ≡ Some l → get_or xs i None ≡ Some l
kept_there xs None i l has e = absurd (none_some l e)
kept_there xs (Some k) i l has e = found xs i (Some (kept k)) None (has k refl) ∙ e

-- a package is out where it and its locks are as the pass keeps them
pub package_out : (v : Knows) (q : PackageView) → Has v q.context.thread (bare q) → ((i : ℕ) (l : LockView) → locked_in q i ≡ Some l → HasLock v i (kept l)) → IsOut (outs v) (Pack q)
package_out v q has has_locks = record {
  contexts = λ u c e. fills v.packages q.context.thread u (bare q) c has e;
  locks = λ i l e. kept_there v.locks (locked_in q i) i l (has_locks i) e;
}

pub package_came : (v : Knows) (word : ℕ) (q : PackageView) → Has (after_claim v word q) q.context.thread (bare q) → ((i : ℕ) (l : LockView) → locked_in q i ≡ Some l → HasLock (after_claim v word q) i (kept l))
    → ((p : PackageView) → Has v q.context.thread p → ⊥) → ((i : ℕ) (l : LockView) → locked_in q i ≡ Some l → (k : LockView) → HasLock v i k → ⊥) → CameOut (Pack q) v (after_claim v word q)
package_came v word q has has_locks new new_locks = record {
  out = package_out (after_claim v word q) q has has_locks;
  before = same_outs (erase (outs (after_claim v word q)) (Pack q)) (outs v)
      (λ u. filled v.packages q.context.thread u (bare q) (bare q) (none_there v.packages q.context.thread new))
      (λ i. added v.locks q.context.locks i (λ l e. none_there v.locks i (new_locks i l e)));
}

-- ---- what is out, as the pass's lists have it

pub has_out : (v : Knows) (q : PackageView) → IsOut (outs v) (Pack q) → Has v q.context.thread (bare q)
has_out v q out = is_there v.packages q.context.thread (bare q) (out.contexts q.context.thread (bare q) (ap (λ (b : Bool). if b then Some (bare q) else None) (eq_self q.context.thread)))

pub lock_out : (v : Knows) (q : PackageView) → IsOut (outs v) (Pack q) → (i : ℕ) (l : LockView) → locked_in q i ≡ Some l → HasLock v i (kept l)
lock_out v q out i l e = is_there v.locks i (kept l) (out.locks i (kept l) (ap keep e))

pub loose_out : (v : Knows) (l : LockView) → IsOut (outs v) (Loose l) → HasLock v l.number (kept l)
loose_out v l out = is_there v.locks l.number (kept l) (out.locks l.number (kept l) (ap (λ (b : Bool). if b then Some (kept l) else None) (eq_self l.number)))

lock_is_out : (v : Knows) (l : LockView) → HasLock v l.number (kept l) → IsOut (outs v) (Loose l)
lock_is_out v l has = record {
  contexts = λ u c e. absurd (none_some c e);
  locks = λ i k e. fills v.locks l.number i (kept l) k has e;
}

pub lock_came : (v : Knows) (l : LockView) → HasLock (after_take v l) l.number (kept l) → ((k : LockView) → HasLock v l.number k → ⊥) → CameOut (Loose l) v (after_take v l)
lock_came v l has new = record {
  out = lock_is_out (after_take v l) l has;
  before = same_outs (erase (outs (after_take v l)) (Loose l)) (outs v) (λ u. refl)
      (λ i. filled v.locks l.number i (kept l) (kept l) (none_there v.locks l.number new));
}

-- the package was sealed where it is, and its locks with it
pub seal_outs : (v : Knows) (b : Block) (n : ℕ) (q : PackageView) → erase (outs (after_seal v b (with_seal n v.worker q))) (Pack (with_seal n v.worker q)) ≡ erase (outs v) (Pack q)
seal_outs v b n q =
    let now : PackageView = with_seal n v.worker q in
    same_outs (erase (outs (after_seal v b now)) (Pack now)) (erase (outs v) (Pack q))
    (λ u. again v.packages q.context.thread u (bare now) (bare q))
    (λ i. locks v.locks now.context.locks i (lock_in q.context.locks i) (with_journal (sealed_as n v.worker)) (sealed_at n v.worker q.context.locks i))
  where
    again : {A : Type 0} (xs : List (Option A)) (t u : ℕ) (a b : A) → unless (if u == t then Some a else None) (get_or (set xs t (Some a)) u None) ≡ unless (if u == t then Some b else None) (get_or xs u None)
    again {A} xs t u a b = ⊎_elim
        (λ e. ap (λ z. unless (if z then Some a else None) (get_or (set xs t (Some a)) u None)) e.0 ∙ sym (ap (λ z. unless (if z then Some b else None) (get_or xs u None)) e.0))
        (λ e. ap (λ z. unless (if z then Some a else None) (get_or (set xs t (Some a)) u None)) e.0 ∙ (get_or-set_other xs t u (Some a) None e.1 ∙ sym (ap (λ z. unless (if z then Some b else None) (get_or xs u None)) e.0)))
        (eqb_tells u t)

    locks : (xs slots : List (Option LockView)) (i : ℕ) (o : Option LockView) (f : LockView → LockView) → lock_in slots i ≡ option_map f o → unless (keep (lock_in slots i)) (get_or (add_all xs slots) i None) ≡ unless (keep o) (get_or xs i None)
    locks xs slots i None f e = added xs slots i (λ l is. absurd (clash (lock_in slots i) l e is))
    locks xs slots i (Some l) f e = ap (λ z. unless (keep z) (get_or (add_all xs slots) i None)) e

pub called_claimed : (v : Knows) (word : ℕ) (q : PackageView) → Called (claim_call v q word ∷ []) v (after_claim v word q)
called_claimed v word q = record { image = refl; worker = refl; sealed = refl; joined = refl; calls = refl }

pub called_taken : (v : Knows) (l : LockView) → Called (Take l.number ∷ []) v (after_take v l)
called_taken v l = record { image = refl; worker = refl; sealed = refl; joined = refl; calls = refl }
