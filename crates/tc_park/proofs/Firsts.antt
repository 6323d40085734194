-- The first of those that sleep.
use Rattle.std.proofs.Common.{◌≡◌, ◌⊎◌, ℕ, ◌+◌, ◌<◌, List, length, sym, refl, ap, subst, ◌≢◌, ◌∙◌, ⊎_elim, inl, inr, arith, Option, Some, None, slice_index_or, lt_of_not-le}
use Rattle.std.specs.Prelude.{Bool, true, false, slice_set, is_some}
use Rattle.std.proofs.lemmas.List.{get_or_past, get_or-set_same, get_or-set_other, length-set}
use Rattle.std.proofs.lemmas.Option.{none-some, same_Some}
use mathlib.Core.Logic.{dite}
use native.Mathlib.Decide.{ℕ_discrete, dec_le}
use Rattle.tc_park.specs.declared.sleepers.Sleeper.{Sleeper}
use Rattle.tc_park.specs.Order.{Sleeps, ComesFirst, IsFirst, IsFirstOf, IsEarlier, IsKept, NoneSleeps, NoneIsDue, IsLeast}

-- those that sleep below n
abbrev pub SleepsBelow : ℕ → List (Option ℕ) → ℕ → ℕ → Type 0
SleepsBelow n s thread due = (thread < n) × Sleeps s thread due

-- the same ones have the same first
pub same_first : (A B : ℕ → ℕ → Type 0) (f : Option Sleeper) → ((t d : ℕ) → A t d → B t d) → ((t d : ℕ) → B t d → A t d) → IsFirstOf A f → IsFirstOf B f
same_first A B None to from none = λ t d b. none t d (from t d b)
same_first A B (Some z) to from is = (to z.thread z.due is.0, λ t d b. is.1 t d (from t d b))

-- who comes first before one that comes first before a third comes first before that
before : (a ad b bd c cd : ℕ) → ComesFirst a ad b bd → ComesFirst b bd c cd → ComesFirst a ad c cd
before a ad b bd c cd (inl l) (inl m) = inl (omega arith)
before a ad b bd c cd (inl l) (inr m) = inl (let e = m.0 in omega arith)
before a ad b bd c cd (inr l) (inl m) = inl (let e = l.0 in omega arith)
before a ad b bd c cd (inr l) (inr m) = inr (l.0 ∙ m.0, let x = l.1 in let y = m.1 in omega arith)

there : (a ad b bd c cd : ℕ) → ComesFirst a ad b bd → c ≡ b → cd ≡ bd → ComesFirst a ad c cd
there a ad b bd c cd (inl l) e f = inl (omega arith)
there a ad b bd c cd (inr l) e f = inr (l.0 ∙ sym f, let x = l.1 in omega arith)

-- with one more, the first is the earlier of the first and of that one
pub one_more : (A B : ℕ → ℕ → Type 0) (f : Option Sleeper) (n due : ℕ) (z : Sleeper) → ((t d : ℕ) → A t d → B t d) → B n due → ((t d : ℕ) → B t d → A t d ⊎ ((t ≡ n) × (d ≡ due))) → IsFirstOf A f → IsEarlier f n due z → IsFirstOf B (Some z)
one_more A B None n due z to here from none is = (
  ⊎_elim (λ e. absurd (none-some z e)) (λ e. subst (λ (y : Sleeper). B y.thread y.due) (sym e) here) is.one,
  λ t d b. ⊎_elim (λ a. absurd (none t d a)) (λ e. there z.thread z.due n due t d is.before_thread e.0 e.1) (from t d b),
)
one_more A B (Some f) n due z to here from first is = (
  ⊎_elim (λ e. subst (λ (y : Sleeper). B y.thread y.due) (same_Some f z e) (to f.thread f.due first.0))
      (λ e. subst (λ (y : Sleeper). B y.thread y.due) (sym e) here) is.one,
  λ t d b. ⊎_elim (λ a. before z.thread z.due f.thread f.due t d is.before_first (first.1 t d a))
      (λ e. there z.thread z.due n due t d is.before_thread e.0 e.1) (from t d b),
)

-- below n + 1 is below n, or n
below_next : (n other : ℕ) → other < n + 1 → (other < n) ⊎ (other ≡ n)
below_next n other h = dite (ℕ_discrete other n) (λ e. inr e) (λ ne. inl (omega arith))

-- two turns at which one thread is due
due_once : (s : List (Option ℕ)) (n other due later : ℕ) → other ≡ n → slice_index_or s n None ≡ Some due → Sleeps s other later → later ≡ due
due_once s n other due later same at e = sym (same_Some due later (sym at ∙ (ap (λ (k : ℕ). slice_index_or s k None) (sym same) ∙ e)))

pub next_asleep : (n due : ℕ) (s : List (Option ℕ)) (f : Option Sleeper) (z : Sleeper) → Sleeps s n due → IsFirstOf (SleepsBelow n s) f → IsEarlier f n due z → IsFirstOf (SleepsBelow (n + 1) s) (Some z)
next_asleep n due s f z at far is = one_more (SleepsBelow n s) (SleepsBelow (n + 1) s) f n due z (λ t d a. (let l = a.0 in omega arith, a.1)) (omega arith, at)
    (λ t d b. ⊎_elim (λ low. inl (low, b.1)) (λ e. inr (e, due_once s n t due d e at b.1)) (below_next n t b.0)) far is

pub next_awake : (n : ℕ) (s : List (Option ℕ)) (f : Option Sleeper) → slice_index_or s n None ≡ None → IsFirstOf (SleepsBelow n s) f → IsFirstOf (SleepsBelow (n + 1) s) f
next_awake n s f at far = same_first (SleepsBelow n s) (SleepsBelow (n + 1) s) f (λ t d a. (let l = a.0 in omega arith, a.1))
    (λ t d b. ⊎_elim (λ low. (low, b.1)) (λ e. absurd (none-some d (sym (ap (λ (k : ℕ). slice_index_or s k None) e ∙ at) ∙ b.1))) (below_next n t b.0)) far

-- who sleeps has a place
has_place : (s : List (Option ℕ)) (thread due : ℕ) → Sleeps s thread due → thread < length s
has_place s thread due e = dite (dec_le (length s) thread) (λ past. absurd (none-some due (sym (get_or_past s thread None past) ∙ e))) (λ low. lt_of_not-le low)

pub all_below : (n : ℕ) (s : List (Option ℕ)) (f : Option Sleeper) → length s ≡ n → IsFirstOf (SleepsBelow n s) f → IsFirstOf (Sleeps s) f
all_below n s f long far = same_first (SleepsBelow n s) (Sleeps s) f (λ t d a. a.1) (λ t d b. (let l = has_place s t d b in omega arith, b)) far

none_of : (s : List (Option ℕ)) (t : ℕ) (o : Option ℕ) → slice_index_or s t None ≡ o → ((d : ℕ) → Sleeps s t d → ⊥) → slice_index_or s t None ≡ None
none_of s t None e none = e
none_of s t (Some d) e none = absurd (none d e)

pub none_sleeps : (s : List (Option ℕ)) → ((t d : ℕ) → Sleeps s t d → ⊥) → NoneSleeps s
none_sleeps s none = λ t. none_of s t (slice_index_or s t None) refl (none t)

pub first_of : (s : List (Option ℕ)) (z : Sleeper) → IsFirstOf (Sleeps s) (Some z) → IsFirst s z.thread z.due
first_of s z is = record { place = has_place s z.thread z.due is.0; sleeps = is.0; first = is.1 }

pub none_due : (s : List (Option ℕ)) (now : ℕ) → ((t d : ℕ) → Sleeps s t d → ⊥) → NoneIsDue now s
none_due s now none thread due e = absurd (none thread due e)

pub too_early : (s : List (Option ℕ)) (now : ℕ) (z : Sleeper) → IsFirstOf (Sleeps s) (Some z) → now < z.due → NoneIsDue now s
too_early s now z is early other later e = ⊎_elim (λ l. omega arith) (λ q. let k = q.0 in omega arith) (is.1 other later e)

pub least_is : (s : List (Option ℕ)) (z : Sleeper) → IsFirstOf (Sleeps s) (Some z) → IsLeast s z.due
least_is s z is = record { thread = z.thread; sleeps = is.0; least = λ other later e. ⊎_elim (λ l. omega arith) (λ q. let k = q.0 in omega arith) (is.1 other later e) }

-- a place is set
pub set_here : (s : List (Option ℕ)) (n : ℕ) (x : Option ℕ) → n < length s → slice_index_or (slice_set s n x) n None ≡ x
set_here s n x low = get_or-set_same s n x None low

pub set_other : (s : List (Option ℕ)) (n t : ℕ) (x : Option ℕ) → t ≢ n → slice_index_or (slice_set s n x) t None ≡ slice_index_or s t None
set_other s n t x ne = get_or-set_other s n t x None ne

-- a thread that was awake sleeps
pub more_asleep : (n due : ℕ) (s : List (Option ℕ)) (f : Option Sleeper) (z : Sleeper) → n < length s → slice_index_or s n None ≡ None → IsFirstOf (Sleeps s) f → IsEarlier f n due z → IsFirstOf (Sleeps (slice_set s n (Some due))) (Some z)
more_asleep n due s f z low awake first is = one_more (Sleeps s) (Sleeps (slice_set s n (Some due))) f n due z
    (λ t d a. dite (ℕ_discrete t n) (λ e. absurd (none-some d (sym (ap (λ (k : ℕ). slice_index_or s k None) e ∙ awake) ∙ a))) (λ ne. set_other s n t (Some due) ne ∙ a))
    (set_here s n (Some due) low)
    (λ t d b. dite (ℕ_discrete t n) (λ e. inr (e, due_once (slice_set s n (Some due)) n t due d e (set_here s n (Some due) low) b)) (λ ne. inl (sym (set_other s n t (Some due) ne) ∙ b)))
    first is

-- the only one that may sleep is taken out
pub none_left : (s : List (Option ℕ)) (n : ℕ) → n < length s → ((t d : ℕ) → Sleeps s t d → t ≡ n) → (t d : ℕ) → Sleeps (slice_set s n None) t d → ⊥
none_left s n low alone t d e = dite (ℕ_discrete t n) (λ same. none-some d (sym (ap (λ (k : ℕ). slice_index_or (slice_set s n None) k None) same ∙ set_here s n None low) ∙ e)) (λ ne. ne (alone t d (sym (set_other s n t None ne) ∙ e)))

-- the first was looked for anew
pub searched : (room : ℕ) (s : List (Option ℕ)) (f : Option Sleeper) (others : Bool) → length s ≡ room → others ≡ true → IsFirstOf (Sleeps s) f → IsKept room s f others
searched room s f others long some first = record { places = long; first_is = first; alone = λ none. absurd (cc (none, some)) }

-- the only one that may sleep was taken out
pub none_kept : (room : ℕ) (s : List (Option ℕ)) (z : Sleeper) (others : Bool) → IsKept room s (Some z) others → others ≡ false → IsKept room (slice_set s z.thread None) None others
none_kept room s z others kept only =
    let none = none_left s z.thread (has_place s z.thread z.due kept.first_is.0) (kept.alone only) in
    record { places = length-set s z.thread None ∙ kept.places; first_is = none; alone = λ o t d e. tt }

-- a thread that was awake was added
pub added : (room : ℕ) (s : List (Option ℕ)) (f : Option Sleeper) (others : Bool) (n due : ℕ) (z : Sleeper) → IsKept room s f others → n < length s → slice_index_or s n None ≡ None → IsEarlier f n due z → IsKept room (slice_set s n (Some due)) (Some z) (is_some f)
added room s None others n due z kept low awake is = record {
  places = length-set s n (Some due) ∙ kept.places;
  first_is = more_asleep n due s None z low awake kept.first_is is;
  alone = λ o t d e. dite (ℕ_discrete t n) (λ same. ⊎_elim (λ w. absurd (none-some z w)) (λ w. same ∙ ap (λ (y : Sleeper). y.thread) (sym w)) is.one) (λ ne. absurd (kept.first_is t d (sym (set_other s n t (Some due) ne) ∙ e)));
}
added room s (Some f) others n due z kept low awake is = record {
  places = length-set s n (Some due) ∙ kept.places;
  first_is = more_asleep n due s (Some f) z low awake kept.first_is is;
  alone = λ o. absurd (cc o);
}
