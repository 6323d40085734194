-- How turns are packed into words. At most 64 threads wait at a queue, and the numbers of turns are below 2^24.
use Rattle.std.specs.Prelude.{◌≡◌, ℕ, ◌+◌, ◌*◌, ◌/◌, ◌%◌, ◌^◌, ◌<◌, ◌==◌, if◌then◌else◌, Option, Some, None}
use Rattle.tc_queue.specs.declared.turn.Turn.{Turn}
use Rattle.tc_queue.specs.declared.words.Linked.{Linked}

-- a turn of a queue for n threads
pub record IsTurn (n : ℕ) (u : Turn) : Type 0 where
  pub thread : u.thread < n
  pub numbered : 0 < u.number
  pub small : u.number < 2 ^ 24

-- a link of such a queue
pub record IsLinked (n : ℕ) (l : Linked) : Type 0 where
  pub numbered : 0 < l.before
  pub small : l.before < 2 ^ 24
  pub behind : IsTurn n l.behind

-- ---- the word of the tail: the number in the high bits, the thread in the low six bits; 0 if it is empty

abbrev pub turn_word : Turn → ℕ
turn_word u = 64 * u.number + u.thread

abbrev pub turn_at : ℕ → Option Turn
turn_at word = if word == 0 then None else Some (record { thread = word % 64; number = word / 64 })

-- ---- the link word of a thread: the number of one of its turns, and in the low 30 bits the turn behind it

abbrev pub link_word : Linked → ℕ
link_word l = 2 ^ 30 * l.before + turn_word l.behind

abbrev pub behind_number : ℕ → Option Turn → Option Linked
behind_number number None = None
behind_number number (Some u) = Some (record { before = number; behind = u })

abbrev pub link_at : ℕ → Option Linked
link_at word = if word == 0 then None else behind_number (word / 2 ^ 30) (turn_at (word % 2 ^ 30))

-- what a call has that names no turn
abbrev pub no_turn : Turn
no_turn = record { thread = 0; number = 0 }

-- ---- the lemmas of the packing

-- packing and unpacking are inverse
pub record PacksTurns : Type 0 where
  pub there : (u : Turn) → IsTurn 64 u → turn_at (turn_word u) ≡ Some u
  pub back : (word : ℕ) (u : Turn) → turn_at word ≡ Some u → turn_word u ≡ word

pub record PacksLinks : Type 0 where
  pub there : (l : Linked) → IsLinked 64 l → link_at (link_word l) ≡ Some l
  pub back : (word : ℕ) (l : Linked) → link_at word ≡ Some l → link_word l ≡ word
