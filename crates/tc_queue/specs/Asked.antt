-- The four calls of a queue before they are answered, and what the step of each finds and leaves. Whoever keeps the words of a queue,
-- in a table of its own or among other words, makes its calls by these.
use Rattle.std.specs.Prelude.{ℕ}
use Rattle.tc_queue.specs.declared.turn.Turn.{Turn}
use Rattle.tc_queue.specs.declared.turn.QueueCall.{QueueCall}
use Rattle.tc_queue.specs.declared.turn.QueueCall.TheVariants.{Enter, Link, Next, Leave}
use Rattle.tc_queue.specs.Words.{no_turn, turn_word, turn_at, link_word, link_at}
use Rattle.tc_queue.specs.Calls.{IsTail, IsLink, enter_call, next_call, leave_call, tail_without}
use Rattle.tc_queue.specs.Order.{tail_word}

pub data Ask : Type 0 where
  enter : Turn → Ask
  -- behind the first turn, the second
  link : Turn → Turn → Ask
  next : Turn → Ask
  leave : Turn → Ask

abbrev pub no_ask : Ask
no_ask = next no_turn

-- the call with its answer, by the word that was found
abbrev pub answered : Ask → ℕ → QueueCall
answered (enter u) found = enter_call u (turn_at found)
answered (link b u) found = Link b u
answered (next u) found = next_call u (link_at found)
answered (leave u) found = leave_call u (turn_at found)

-- the number that it leaves there, by the number that was found
abbrev pub left_by : QueueCall → ℕ → ℕ
left_by (Enter u a) found = turn_word u
left_by (Link b u) found = link_word (record { before = b.number; behind = u })
left_by (Next u a) found = found
left_by (Leave u a) found = tail_word (tail_without u (turn_at found))

-- what was found is of a queue for n threads
abbrev pub IsFound : ℕ → Ask → ℕ → Type 0
IsFound n (enter u) found = IsTail n (turn_at found)
IsFound n (link b u) found = Unit {0}
IsFound n (next u) found = IsLink n (link_at found)
IsFound n (leave u) found = IsTail n (turn_at found)
