-- Who wakes first. Sleepers are a list with an entry for each thread: the turn when it is due, or None if it is awake.
use Rattle.std.specs.Prelude.{◌≡◌, ◌⊎◌, ℕ, ◌<◌, ◌≤◌, List, length, slice_index_or, slice_set, Bool, false, Option, Some, None, IfSome}
use Rattle.tc_park.specs.declared.sleepers.Sleeper.{Sleeper}

-- this thread sleeps until this turn
abbrev pub Sleeps : List (Option ℕ) → ℕ → ℕ → Type 0
Sleeps s thread due = slice_index_or s thread None ≡ Some due

-- the lesser due turn first; of equal due turns the lesser number
abbrev pub ComesFirst : ℕ → ℕ → ℕ → ℕ → Type 0
ComesFirst thread due other later = (due < later) ⊎ ((due ≡ later) × (thread ≤ other))

-- this sleeper comes first
pub record IsFirst (s : List (Option ℕ)) (thread due : ℕ) : Type 0 where
  pub place : thread < length s
  pub sleeps : Sleeps s thread due
  pub first : (other later : ℕ) → Sleeps s other later → ComesFirst thread due other later

-- this thread is the first sleeper, and due by now
pub record IsFirstDue (now : ℕ) (s : List (Option ℕ)) (thread : ℕ) : Type 0 where
  pub due : ℕ
  pub by_now : due ≤ now
  pub first : IsFirst s thread due

abbrev pub NoneIsDue : ℕ → List (Option ℕ) → Type 0
NoneIsDue now s = (thread due : ℕ) → Sleeps s thread due → now < due

abbrev pub NoneSleeps : List (Option ℕ) → Type 0
NoneSleeps s = (thread : ℕ) → slice_index_or s thread None ≡ None

-- some sleeper is due at this turn, and none is before
pub record IsLeast (s : List (Option ℕ)) (due : ℕ) : Type 0 where
  pub thread : ℕ
  pub sleeps : Sleeps s thread due
  pub least : (other later : ℕ) → Sleeps s other later → due ≤ later

-- the first of those for which `In` gives a due turn, or there are none
abbrev pub IsFirstOf : (ℕ → ℕ → Type 0) → Option Sleeper → Type 0
IsFirstOf In None = (other later : ℕ) → In other later → ⊥
IsFirstOf In (Some z) = In z.thread z.due × ((other later : ℕ) → In other later → ComesFirst z.thread z.due other later)

-- the earlier of two: a sleeper, if there is one, and this thread until this turn
pub record IsEarlier (first : Option Sleeper) (thread due : ℕ) (z : Sleeper) : Type 0 where
  pub one : (first ≡ Some z) ⊎ (z ≡ record { thread = thread; due = due })
  pub before_first : IfSome first (λ s. ComesFirst z.thread z.due s.thread s.due)
  pub before_thread : ComesFirst z.thread z.due thread due

-- the invariant of sleepers: how many entries there are, the first sleeper, and whether others may sleep too
pub record IsKept (room : ℕ) (s : List (Option ℕ)) (first : Option Sleeper) (others : Bool) : Type 0 where
  pub places : length s ≡ room
  pub first_is : IsFirstOf (Sleeps s) first
  pub alone : others ≡ false → (thread due : ℕ) → Sleeps s thread due → IfSome first (λ z. thread ≡ z.thread)

-- the sleepers without this one, or as they are
abbrev pub without : Option ℕ → List (Option ℕ) → List (Option ℕ)
without None s = s
without (Some thread) s = slice_set s thread None
