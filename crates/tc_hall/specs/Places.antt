-- The words of the table, and what they say of a thread.
use Rattle.std.specs.Prelude.{ℕ, ◌+◌, ◌-◌, ◌*◌, ◌<◌, ◌==◌, if◌then◌else◌}
use Rattle.tc_hall.specs.declared.board.TheConstants.{LINE}
use Rattle.tc_hall.specs.declared.place.TheConstants.{READY, PARKED, DONE, WAITING}
use Rattle.tc_hall.specs.declared.place.Place.{Place}
use Rattle.tc_hall.specs.declared.place.Place.TheVariants.{Ready, Parked, Done, Waiting}
use Rattle.tc_hall.specs.declared.place.Origin.{Origin}
use Rattle.tc_hall.specs.declared.place.Origin.TheVariants as origin

-- the word of a slot, after those of the clock and the stop flag, each at the start of two pairs of
-- cache lines; that of the slot after the last is the number of words
abbrev pub slot_word : ℕ → ℕ
slot_word slot = LINE * (slot + 2)

abbrev pub code_of : Place → ℕ
code_of Ready = READY
code_of Parked = PARKED
code_of Done = DONE
code_of (Waiting lock) = WAITING + lock

-- the place that a word below OUT stands for
unfoldable pub place_of : ℕ → Place
place_of word = if word == READY then Ready else (if word == PARKED then Parked else (if word == DONE then Done else Waiting (word - WAITING)))

abbrev pub origin_code : Origin → ℕ
origin_code origin.Ready = READY
origin_code origin.Parked = PARKED

-- the lock that is named is one of m
abbrev pub IsInRange : ℕ → Place → Type 0
IsInRange m Ready = Unit {0}
IsInRange m Parked = Unit {0}
IsInRange m Done = Unit {0}
IsInRange m (Waiting lock) = lock < m
