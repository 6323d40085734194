-- What the events make of the outline of a core.
use Rattle.std.proofs.Common.{◌≡◌, ◌≢◌, ℕ, ◌==◌, Bool, true, false, sym, refl, ap, ◌∙◌, subst, ⊎_elim, None, ne_eqb, eqb-true}
use Rattle.tc_hall.proofs.Vocabulary.{At, Core, Course, Custody, Granted, IsBetween, LockPlace, Loose, State, ThreadPlace, With, at_home, in_hand, is_loose, lies_at, lies_with, outline, packed, unowned, with_custody, with_place}
use Rattle.std.specs.Prelude.{if◌then◌else◌}
use mathlib.Core.Logic.{dite}
use native.Mathlib.Decide.{ℕ_discrete}
use Rattle.tc_core.specs.Core.{is_at}
use Rattle.tc_core.specs.declared.place.ThreadPlace.TheVariants.{Ready, Waiting, Parked, Done}
use Rattle.tc_core.specs.declared.place.LockPlace.TheVariants as place
use Rattle.tc_hall.specs.Ties.{is_with}
use Rattle.tc_hall.proofs.Shows.{IsMoved, home_packed, home_hand, hand_packed, same_packed}
use Rattle.tc_lemmas.proofs.Tests.{true_or_false, eq_self}

-- one of two by number
pub if_here : {A : Type 0} (x y : A) (u t : ℕ) → u ≡ t → (if u == t then x else y) ≡ x
if_here x y u t is = ap (λ (b : Bool). if b then x else y) (ap (λ (z : ℕ). z == t) is ∙ eq_self t)

pub if_else : {A : Type 0} (x y : A) (u t : ℕ) → u ≢ t → (if u == t then x else y) ≡ y
if_else x y u t ne = ap (λ (b : Bool). if b then x else y) (ne_eqb u t ne)

pub at_self : (p : ThreadPlace) (w : ℕ) → p ≡ At w → is_at p w ≡ true
at_self p w e = ap (λ (z : ThreadPlace). is_at z w) e ∙ eq_self w

pub loose_self : (p : LockPlace) (u w : ℕ) → is_loose p u ≡ true → (p ≡ Loose u)
loose_self (Loose v) u w e = ap (λ (z : ℕ). Loose z) (eqb-true v u e)
loose_self place.Free u w e = absurd cc
loose_self (With t) u w e = absurd cc
loose_self (Granted t) u w e = absurd cc

-- ---- where locks lie when one thread moves

packed_thread : (p : ThreadPlace) (u t : ℕ) → lies_with p u ≡ packed t → u ≡ t
packed_thread (At w) u t e = absurd (hand_packed (in_hand w) w t refl e)
packed_thread Ready u t e = same_packed (packed u) u t refl e
packed_thread (Waiting lock) u t e = same_packed (packed u) u t refl e
packed_thread Parked u t e = same_packed (packed u) u t refl e
packed_thread Done u t e = same_packed (packed u) u t refl e

-- what lies in a thread's package is with the thread or granted to it
pub packed_with : (f : ℕ → Course) (p : LockPlace) (t : ℕ) → lies_at f p ≡ packed t → is_with p t ≡ true
packed_with f place.Free t e = absurd (home_packed at_home t refl e)
packed_with f (Loose w) t e = absurd (hand_packed (in_hand w) w t refl e)
packed_with f (With u) t e = ap (λ (z : ℕ). z == t) (packed_thread (f u).place u t e) ∙ eq_self t
packed_with f (Granted u) t e = ap (λ (z : ℕ). z == t) (packed_thread (f u).place u t e) ∙ eq_self t

-- and lies where its thread is
pub with_lies : (f : ℕ → Course) (p : LockPlace) (t : ℕ) → is_with p t ≡ true → lies_at f p ≡ lies_with (f t).place t
with_lies f place.Free t e = absurd cc
with_lies f (Loose w) t e = absurd cc
with_lies f (With u) t e = ap (λ (z : ℕ). lies_with (f z).place z) (eqb-true u t e)
with_lies f (Granted u) t e = ap (λ (z : ℕ). lies_with (f z).place z) (eqb-true u t e)

not_with : (u t : ℕ) → u ≡ t → (u == t) ≡ false → ⊥
not_with u t is e = (let f = ap (λ (z : ℕ). z == t) is ∙ eq_self t in cc)

-- another lies as it did
pub else_lies : (f g : ℕ → Course) (p : LockPlace) (t : ℕ) → ((u : ℕ) → u ≢ t → (g u).place ≡ (f u).place) → is_with p t ≡ false → lies_at g p ≡ lies_at f p
else_lies f g place.Free t same e = refl
else_lies f g (Loose w) t same e = refl
else_lies f g (With u) t same e = ap (λ (z : ThreadPlace). lies_with z u) (same u (λ is. not_with u t is e))
else_lies f g (Granted u) t same e = ap (λ (z : ThreadPlace). lies_with z u) (same u (λ is. not_with u t is e))

not_home : (p : ThreadPlace) (t : ℕ) → lies_with p t ≡ at_home → ⊥
not_home (At w) t e = home_hand (in_hand w) w e refl
not_home Ready t e = home_packed (packed t) t e refl
not_home (Waiting lock) t e = home_packed (packed t) t e refl
not_home Parked t e = home_packed (packed t) t e refl
not_home Done t e = home_packed (packed t) t e refl

-- a lock in its slot is free
pub home_free : (f : ℕ → Course) (p : LockPlace) → lies_at f p ≡ at_home → p ≡ place.Free
home_free f place.Free e = refl
home_free f (Loose w) e = absurd (home_hand (in_hand w) w e refl)
home_free f (With t) e = absurd (not_home (f t).place t e)
home_free f (Granted t) e = absurd (not_home (f t).place t e)

-- ---- one thread comes to another place

pub record Arrives (c c' : Core) (t : ℕ) (at : ThreadPlace) : Type 0 where
  pub machine : c'.machine ≡ c.machine
  pub here : (c'.course t).place ≡ at
  pub others : (u : ℕ) → u ≢ t → (c'.course u).place ≡ (c.course u).place
  pub last : (u : ℕ) → (c'.course u).last ≡ (c.course u).last
  pub between : IsBetween c → IsBetween c'

pub arrives : (c : Core) (t : ℕ) (at : ThreadPlace) → Arrives c (with_place c t at) t at
arrives c t at = record {
  machine = refl;
  here = ap (λ (x : Course). x.place) (here t refl);
  others = λ u ne. ap (λ (x : Course). x.place) (else' u ne);
  last = λ u. by u (λ (x : Course) (y : Course). x.last ≡ y.last) refl refl;
  between = λ b u. by u (λ (x : Course) (y : Course). (x.turns ≡ 0) × (x.ended ≡ None)) (b t) (b u);
}
  where
    here : (u : ℕ) → u ≡ t → (with_place c t at).course u ≡ record (c.course t) { place = at }
    here u is = if_here (record (c.course t) { place = at }) (c.course u) u t is

    else' : (u : ℕ) → u ≢ t → (with_place c t at).course u ≡ c.course u
    else' u ne = if_else (record (c.course t) { place = at }) (c.course u) u t ne

    by : (u : ℕ) (P : Course → Course → Type 0) → P (record (c.course t) { place = at }) (c.course t) → P (c.course u) (c.course u) → P ((with_place c t at).course u) (c.course u)
    by u P x y = dite (ℕ_discrete u t)
        (λ (is : u ≡ t). subst (λ (z : Course). P z (c.course u)) (sym (here u is)) (subst (λ (z : ℕ). P (record (c.course t) { place = at }) (c.course z)) (sym is) x))
        (λ (ne : u ≢ t). subst (λ (z : Course). P z (c.course u)) (sym (else' u ne)) y)

pub arrives_then : (a b c : Core) (t : ℕ) (x y : ThreadPlace) → Arrives a b t x → Arrives b c t y → Arrives a c t y
arrives_then a b c t x y p q = record {
  machine = q.machine ∙ p.machine;
  here = q.here;
  others = λ u ne. q.others u ne ∙ p.others u ne;
  last = λ u. q.last u ∙ p.last u;
  between = λ z. q.between (p.between z);
}

-- a custody changed before it
pub arrives_with : (c : Core) (lock : ℕ) (x : Custody) (c' : Core) (t : ℕ) (at : ThreadPlace) → Arrives (with_custody c lock x) c' t at → Arrives c c' t at
arrives_with c lock x c' t at a = record { machine = a.machine; here = a.here; others = a.others; last = a.last; between = a.between }

pub is_moved : (c c' : Core) (t : ℕ) (at : ThreadPlace) → Arrives c c' t at → IsMoved (outline c) (outline c') t at
is_moved c c' t at a = record {
  alike = record {
    thread = λ u. ap (λ (m : State). m.threads u) a.machine;
    last = a.last;
    lock = λ i. ap (λ (m : State). unowned (m.locks i)) a.machine;
  };
  here = a.here;
  others = a.others;
}

-- ---- the custody of one lock changes

pub custody_here : (c : Core) (lock i : ℕ) (x : Custody) → i ≡ lock → (with_custody c lock x).custody i ≡ x
custody_here c lock i x is = if_here x (c.custody i) i lock is

pub custody_else : (c : Core) (lock i : ℕ) (x : Custody) → i ≢ lock → (with_custody c lock x).custody i ≡ c.custody i
custody_else c lock i x ne = if_else x (c.custody i) i lock ne

-- ---- locks when a thread comes to a worker

module _ (c c' : Core) (t w : ℕ) (a : Arrives c c' t (At w)) (rests : lies_with (c.course t).place t ≡ packed t) where
  come : (i : ℕ) → (c'.custody i).place ≡ (c.custody i).place → (outline c).lies i ≡ packed t → (outline c').lies i ≡ in_hand w
  come i same e =
      ap (lies_at c'.course) same
      ∙ (with_lies c'.course (c.custody i).place t (packed_with c.course (c.custody i).place t e)
      ∙ ap (λ (z : ThreadPlace). lies_with z t) a.here)

  stay : (i : ℕ) → (c'.custody i).place ≡ (c.custody i).place → (outline c).lies i ≢ packed t → (outline c').lies i ≡ (outline c).lies i
  stay i same never = ap (lies_at c'.course) same ∙ ⊎_elim
      (λ (z : is_with (c.custody i).place t ≡ true). absurd (never (with_lies c.course (c.custody i).place t z ∙ rests)))
      (λ (z : is_with (c.custody i).place t ≡ false). else_lies c.course c'.course (c.custody i).place t a.others z) (true_or_false (is_with (c.custody i).place t))

  -- all custodies are as they were
  pub all_come : ((i : ℕ) → (c'.custody i).place ≡ (c.custody i).place) → ((i : ℕ) → (outline c).lies i ≡ packed t → (outline c').lies i ≡ in_hand w) × ((i : ℕ) → (outline c).lies i ≢ packed t → (outline c').lies i ≡ (outline c).lies i)
  all_come same = ((λ i e. come i (same i) e), (λ i e. stay i (same i) e))

  -- but for one lock, which was loose at the worker and is granted to the thread
  pub others_come : (lock : ℕ) → (c.custody lock).place ≡ Loose w → (c'.custody lock).place ≡ Granted t → ((i : ℕ) → i ≢ lock → (c'.custody i).place ≡ (c.custody i).place)
      → ((i : ℕ) → (outline c).lies i ≡ packed t → (outline c').lies i ≡ in_hand w) × ((i : ℕ) → (outline c).lies i ≢ packed t → (outline c').lies i ≡ (outline c).lies i)
  others_come lock loose granted same = (
    (λ i e. dite (ℕ_discrete i lock)
        (λ (is : i ≡ lock). absurd (hand_packed ((outline c).lies lock) w t (ap (lies_at c.course) loose) (ap (outline c).lies (sym is) ∙ e)))
        (λ (ne : i ≢ lock). come i (same i ne) e)),
    (λ i e. dite (ℕ_discrete i lock)
        (λ (is : i ≡ lock). ap (outline c').lies is ∙ (ap (lies_at c'.course) granted ∙ (ap (λ (z : ThreadPlace). lies_with z t) a.here ∙ (sym (ap (lies_at c.course) loose) ∙ ap (outline c).lies (sym is)))))
        (λ (ne : i ≢ lock). stay i (same i ne) e)),
  )
