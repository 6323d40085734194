-- What the turns of a block and its Commit make of a core.
use Rattle.std.proofs.Common.{◌≡◌, ◌≢◌, ℕ, zero, suc, ◌+◌, ◌==◌, ◌&&◌, Bool, true, false, not, [], ◌∷◌, ◌++◌, replicate, sym, refl, ap, ◌∙◌, subst, add-one, Option, Some, None, eqb-true, List}
use Rattle.tc_hall.proofs.Vocabulary.{AreEnabled, At, Commit, Core, Course, Custody, End, Event, Granted, IsBetween, LockPlace, Loose, Shown, State, ThreadPlace, With, end_at, end_rule, lies_at, lies_with, next_lock, outcome_of, runs}
use Rattle.std.specs.Prelude.{if◌then◌else◌, is_some}
use Rattle.std.proofs.lemmas.Bool.{and_parts}
use mathlib.Core.Logic.{dite}
use native.Mathlib.Decide.{ℕ_discrete}
use Rattle.tc_turn.specs.Turn.{next_act}
use Rattle.tc_mutex_spec.specs.Machine.{after}
use Rattle.tc_mutex_spec.specs.Blocks.{reach}
use Rattle.tc_core.specs.Core.{Limits, is_granted, is_number, with_of}
use Rattle.tc_core.specs.Events.{is_enabled, effect, may_take, is_between, course_on, course_past, custody_on, custody_past, end_here, release_of, has_thread}
use Rattle.tc_core.specs.Stories.{after_all}
use Rattle.tc_core.specs.declared.event.Event.TheVariants.{Turn}
use Rattle.tc_core.specs.declared.place.Release.{Release}
use Rattle.tc_core.specs.declared.place.LockPlace.TheVariants as place
use Rattle.tc_hall.proofs.Outlines.{if_here, if_else}
use Rattle.tc_core.proofs.Standing.{with_is}

-- one event more at the end
pub last_event : (image : Shown) (e : Event) (n : ℕ) (c : Core) → after_all image c (replicate (suc n) e) ≡ effect image (after_all image c (replicate n e)) e
last_event image e zero c = refl
last_event image e (suc n) c = last_event image e n (effect image c e)

pub then_event : (image : Shown) (e x : Event) (n : ℕ) (c : Core) → after_all image c (replicate n e ++ x ∷ []) ≡ effect image (after_all image c (replicate n e)) x
then_event image e x zero c = refl
then_event image e x (suc n) c = then_event image e x n (effect image c e)

pub after_more : (image : Shown) (c : Core) (xs ys : List Event) → after_all image c (xs ++ ys) ≡ after_all image (after_all image c xs) ys
after_more image c [] ys = refl
after_more image c (x ∷ xs) ys = after_more image (effect image c x) xs ys

-- how the block ends, if it ends with its turn number j
abbrev pub ended_by : Shown → State → ℕ → ℕ → Option End
ended_by image m t zero = None
ended_by image m t (suc j) = end_at image m t j

-- the core after j turns of t from `from`, where no thread was inside a block
pub record IsPartway (image : Shown) (from : Core) (t j : ℕ) (c : Core) : Type 0 where
  pub machine : c.machine ≡ reach image from.machine t j
  pub place : (u : ℕ) → (c.course u).place ≡ (from.course u).place
  pub last : (u : ℕ) → (c.course u).last ≡ (from.course u).last
  pub turns : (c.course t).turns ≡ j
  pub ended : (c.course t).ended ≡ ended_by image from.machine t j
  pub others : (u : ℕ) → u ≢ t → ((c.course u).turns ≡ 0) × ((c.course u).ended ≡ None)

-- what holds of the courses of all threads, by the course that is t's
by_course : (P : ℕ → Course → Type 0) (x y : Course) (u t : ℕ) → P t x → (u ≢ t → P u y) → P u (if u == t then x else y)
by_course P x y u t here else' = dite (ℕ_discrete u t)
    (λ (is : u ≡ t). subst (P u) (sym (if_here x y u t is)) (subst (λ (z : ℕ). P z x) (sym is) here))
    (λ (ne : u ≢ t). subst (P u) (sym (if_else x y u t ne)) (else' ne))

module _ (image : Shown) (from : Core) (t w : ℕ) where
  further : (j : ℕ) (c : Core) → IsPartway image from t j c → IsPartway image from t (suc j) (effect image c (Turn w t))
  unfolding effect
  further j c p =
      let x : Course = course_on (c.course t) (next_lock image (c.machine.threads t)) (end_here image c t) in
      record {
        machine = ap (λ (m : State). after image m t) p.machine;
        place = λ u. by_course (λ z y. y.place ≡ (from.course z).place) x (c.course u) u t (p.place t) (λ ne. p.place u);
        last = λ u. by_course (λ z y. y.last ≡ (from.course z).last) x (c.course u) u t (p.last t) (λ ne. p.last u);
        turns = ap (λ (y : Course). y.turns) (if_here x (c.course t) t t refl) ∙ (ap (λ (z : ℕ). z + 1) p.turns ∙ add-one j);
        ended = ap (λ (y : Course). y.ended) (if_here x (c.course t) t t refl)
            ∙ (λ i. end_rule (outcome_of (next_act image ((p.machine i).threads t) (p.machine i).locks)) (p.turns i + 1) (next_lock image ((after image (p.machine i) t).threads t)));
        others = λ u ne. subst (λ (y : Course). (y.turns ≡ 0) × (y.ended ≡ None)) (sym (if_else x (c.course u) u t ne)) (p.others u ne);
      }

  pub partway : IsBetween from → (j : ℕ) → IsPartway image from t j (after_all image from (replicate j (Turn w t)))
  partway between zero = record { machine = refl; place = λ u. refl; last = λ u. refl; turns = (between t).0; ended = (between t).1; others = λ u ne. between u }
  partway between (suc j) = subst (IsPartway image from t (suc j)) (sym (last_event image (Turn w t) j from)) (further j (after_all image from (replicate j (Turn w t))) (partway between j))

-- ---- locks lie as they lay

third : (a b c d : Bool) → (a && (b && (c && d))) ≡ true → d ≡ true
third a b c d e = (and_parts c d ((and_parts b (c && d) ((and_parts a (b && (c && d)) e).1)).1)).1

granted_to : (p : LockPlace) (t : ℕ) → is_granted p t ≡ true → p ≡ Granted t
granted_to (Granted u) t e = ap (λ (z : ℕ). Granted z) (eqb-true u t e)
granted_to place.Free t e = absurd cc
granted_to (With u) t e = absurd cc
granted_to (Loose u) t e = absurd cc

-- a lock that a turn takes was granted to its thread
taken_lies : (o : Option ℕ) (t : ℕ) (c : Core) → may_take o t c ≡ true → (f : ℕ → Course) (i : ℕ) → lies_at f (custody_on o t i (c.custody i)).place ≡ lies_at f (c.custody i).place
taken_lies None t c may f i = refl
taken_lies (Some lock) t c may f i =
    let granted = granted_to (c.custody lock).place t ((and_parts (is_between c t) (is_granted (c.custody lock).place t) may).1) in
    dite (ℕ_discrete i lock)
    (λ (is : i ≡ lock). ap (λ (x : Custody). lies_at f x.place) (if_here (record (c.custody i) { place = With t }) (c.custody i) i lock is) ∙ (sym (ap (lies_at f) granted) ∙ ap (λ (z : ℕ). lies_at f (c.custody z).place) (sym is)))
    (λ (ne : i ≢ lock). ap (λ (x : Custody). lies_at f x.place) (if_else (record (c.custody i) { place = With t }) (c.custody i) i lock ne))

-- a lock that the block released is loose where its thread is
past_lies : (b : Bool) (w t : ℕ) (held : Bool) (release : Option Release) (x : Custody) (f : ℕ → Course) → (f t).place ≡ At w → (is_number (with_of x.place) t && not held) ≡ b
    → lies_at f (if b then record x { place = Loose w; last = release } else x).place ≡ lies_at f x.place
past_lies false w t held release x f here e = refl
past_lies true w t held release x f here e =
    sym (ap (lies_at f) (with_is x.place t ((and_parts (is_number (with_of x.place) t) (not held) e).0)) ∙ ap (λ (z : ThreadPlace). lies_with z t) here)

-- the turns, if they may come
pub turns_lie : (image : Shown) (limits : Limits) (w t n : ℕ) (e : Event) (c : Core) → AreEnabled image limits c (replicate n (Turn w t) ++ e ∷ []) → (f : ℕ → Course) (i : ℕ)
    → lies_at f ((after_all image c (replicate n (Turn w t))).custody i).place ≡ lies_at f (c.custody i).place
unfolding effect is_enabled
turns_lie image limits w t zero e c enabled f i = refl
turns_lie image limits w t (suc n) e c enabled f i =
    turns_lie image limits w t n e (effect image c (Turn w t)) enabled.1 f i
    ∙ taken_lies (next_lock image (c.machine.threads t)) t c (third (has_thread image limits c w t) (runs c t) (not (is_some (c.course t).ended)) (may_take (next_lock image (c.machine.threads t)) t c) enabled.0) f i

-- where a core is after its Commit
pub record IsCommitted (image : Shown) (from : Core) (t n : ℕ) (end : End) (c : Core) : Type 0 where
  pub machine : c.machine ≡ reach image from.machine t n
  pub place : (u : ℕ) → (c.course u).place ≡ (from.course u).place
  pub last : (c.course t).last ≡ Some end
  pub last_else : (u : ℕ) → u ≢ t → (c.course u).last ≡ (from.course u).last
  pub between : IsBetween c
  pub lies : (i : ℕ) → lies_at c.course (c.custody i).place ≡ lies_at from.course (from.custody i).place

places_lie : (f g : ℕ → Course) → ((u : ℕ) → (g u).place ≡ (f u).place) → (p : LockPlace) → lies_at g p ≡ lies_at f p
places_lie f g same place.Free = refl
places_lie f g same (Loose w) = refl
places_lie f g same (With u) = ap (λ (z : ThreadPlace). lies_with z u) (same u)
places_lie f g same (Granted u) = ap (λ (z : ThreadPlace). lies_with z u) (same u)

-- the Commit after n turns, of which the last ended the block
past : (image : Shown) (from : Core) (t w n : ℕ) (end : End) (c : Core) → IsPartway image from t n c → (from.course t).place ≡ At w → ended_by image from.machine t n ≡ Some end
    → ((i : ℕ) → lies_at from.course (c.custody i).place ≡ lies_at from.course (from.custody i).place) → IsCommitted image from t n end (effect image c (Commit w t))
unfolding effect
past image from t w n end c p here ends lies =
    let x : Course = course_past (c.course t) in
    let places : (u : ℕ) → ((effect image c (Commit w t)).course u).place ≡ (from.course u).place = λ u. by_course (λ z y. y.place ≡ (from.course z).place) x (c.course u) u t (p.place t) (λ ne. p.place u) in
    record {
      machine = p.machine;
      place = places;
      last = ap (λ (y : Course). y.last) (if_here x (c.course t) t t refl) ∙ (p.ended ∙ ends);
      last_else = λ u ne. ap (λ (y : Course). y.last) (if_else x (c.course u) u t ne) ∙ p.last u;
      between = λ u. by_course (λ z y. (y.turns ≡ 0) × (y.ended ≡ None)) x (c.course u) u t (refl, refl) (λ ne. p.others u ne);
      lies = λ i. places_lie from.course (effect image c (Commit w t)).course places (custody_past w t ((c.machine.threads t).held i) (release_of (c.course t)) (c.custody i)).place
          ∙ (past_lies (is_number (with_of (c.custody i).place) t && not ((c.machine.threads t).held i)) w t ((c.machine.threads t).held i) (release_of (c.course t)) (c.custody i) from.course here refl
          ∙ lies i);
    }

pub committed : (image : Shown) (limits : Limits) (from : Core) (t w n : ℕ) (end : End) → IsBetween from → (from.course t).place ≡ At w → ended_by image from.machine t n ≡ Some end
    → AreEnabled image limits from (replicate n (Turn w t) ++ Commit w t ∷ []) → IsCommitted image from t n end (after_all image from (replicate n (Turn w t) ++ Commit w t ∷ []))
committed image limits from t w n end between here ends enabled =
    subst (IsCommitted image from t n end) (sym (then_event image (Turn w t) (Commit w t) n from))
    (past image from t w n end (after_all image from (replicate n (Turn w t))) (partway image from t w between n) here ends (turns_lie image limits w t n (Commit w t) from enabled from.course))
