-- What contracts see of a queue and of its seats.
use Rattle.std.specs.Prelude.{◌≡◌, ℕ, ◌+◌, ◌≤◌, List, All, length}
use Rattle.atomic_table.specs.Seated.{TableId}
use Rattle.tc_queue.specs.declared.board.SeatLog.{SeatLog}
use Rattle.tc_queue.specs.declared.turn.QueueCall.{QueueCall}
use Rattle.tc_queue.specs.declared.turn.Turn.{Turn}
use Rattle.tc_queue.specs.Words.{IsTurn}
use Rattle.tc_queue.specs.Calls.{with_call, MayLink}
use Rattle.tc_queue.specs.Order.{first_log}

-- which queue it is, and for how many threads it was made
pub record QueueView : Type 0 where
  pub table : TableId
  pub threads : ℕ

-- which queue's seat it is, which of its seats, and the calls that it made
pub record OwnView : Type 0 where
  pub table : TableId
  pub id : ℕ
  pub log : SeatLog

abbrev pub IsOwnSeatOf : QueueView → OwnView → Type 0
IsOwnSeatOf q s = (s.table ≡ q.table) × (s.log.threads ≡ q.threads)

-- a turn may be linked behind one that `enter` answered with this seat of the queue
pub record MayLinkBehind (q : QueueView) (s : OwnView) (before u : Turn) : Type 0 where
  pub seat : IsOwnSeatOf q s
  pub turns : IsTurn q.threads before × IsTurn q.threads u
  pub entered : MayLink s.log.calls u before

-- the seat after one more call
abbrev pub seat_with : OwnView → QueueCall → OwnView
seat_with s c = record s { log = with_call s.log c }

-- a seat of this queue that has made no call
abbrev pub IsNewSeatOf : QueueView → OwnView → Type 0
IsNewSeatOf q s = (s.table ≡ q.table) × (s.log ≡ first_log q.threads)

-- a queue for so many threads that was just made, with so many seats
pub record IsOpened (threads many : ℕ) (q : QueueView) (made : List OwnView) : Type 0 where
  pub queue : q.threads ≡ threads
  pub count : length made ≡ many
  pub seats : All (IsNewSeatOf q) made

-- a table of this key and number of words is for so many threads
abbrev pub IsTableFor : ℕ → ℕ → ℕ → Type 0
IsTableFor threads key words = (threads ≡ key) × (words ≡ threads + 1) × (threads ≤ 64)
