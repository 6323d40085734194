-- What a step says to its seat.
use Rattle.std.specs.Prelude.{◌≡◌, ℕ}
use Rattle.atomic_table.specs.Table.{Me, Step}
use Rattle.tc_queue.specs.declared.board.SeatLog.{SeatLog}
use Rattle.tc_queue.specs.Calls.{with_call}
use Rattle.tc_queue.specs.Asked.{Ask, IsFound, answered}

-- a seat's list and its slots, of which there are none
abbrev pub Sitting : Type 0
Sitting = Me ℕ SeatLog

-- the step of a call that was asked so: the call is the last of the list, with the answer by the word that was found
pub record Asks (ask : Ask) (step : Step ℕ) (m : Sitting) (word : ℕ) (m' : Sitting) : Type 0 where
  pub now : m' ≡ (with_call m.0 (answered ask word), m.1)
  pub found : IsFound m.0.threads ask word
