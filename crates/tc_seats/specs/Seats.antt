-- What contracts know of a seat: the calls that were made with it.
use Rattle.std.specs.Prelude.{◌≡◌, ℕ, [], ◌∷◌, ◌++◌, None}
use Rattle.atomic_table.specs.Seated.{TableId}
use Rattle.atomic_table.specs.Table.{Me, State, Step}
use Rattle.tc_queue.specs.declared.turn.QueueCall.{QueueCall}
use Rattle.tc_queue.specs.declared.turn.QueueCall.TheVariants.{Next}
use Rattle.tc_queue.specs.View.{OwnView}
use Rattle.tc_queue.specs.Words.{no_turn}
use Rattle.tc_seats.specs.declared.seats.CallLog.{CallLog}

abbrev pub no_calls : ℕ → CallLog
no_calls threads = record { threads = threads; calls = [] }

abbrev pub log_beside : CallLog → CallLog
log_beside v = no_calls v.threads

abbrev pub with_call : CallLog → QueueCall → CallLog
with_call v c = record v { calls = v.calls ++ c ∷ [] }

-- no invariant
abbrev pub Anything : ℕ → State ℕ CallLog → Type 0
Anything threads s = Unit {0}

-- a step that appends a call to the list of its seat
abbrev pub Adds : QueueCall → Step ℕ → Me ℕ CallLog → ℕ → Me ℕ CallLog → Type 0
Adds c step m word m' = m' ≡ (with_call m.0 c, m.1)

-- what a step has that names no call
abbrev pub some_call : QueueCall
some_call = Next no_turn None

-- what contracts see of a seat
abbrev pub own_view : TableId → ℕ → CallLog → OwnView
own_view table id v = record { table = table; id = id; log = record { threads = v.threads; calls = v.calls } }
