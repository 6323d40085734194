-- The invariant of a queue: all calls have a total order that respects the order of each seat's calls, in
-- which a sequential queue answers each of them as it was answered, and whose final state the words represent.
use Rattle.std.specs.Prelude.{◌≡◌, ℕ, ◌+◌, ◌<◌, ◌≤◌, ◌==◌, if◌then◌else◌, List, [], ◌∷◌, ◌++◌, All, length, slice_index, Option, Some, None}
use mathlib.Core.Option.{some}
use lib.ListN.{get_elem?}
use Rattle.atomic_table.specs.Table.{State}
use Rattle.tc_queue.specs.declared.turn.Turn.{Turn}
use Rattle.tc_queue.specs.declared.turn.QueueCall.{QueueCall}
use Rattle.tc_queue.specs.declared.turn.QueueCall.TheVariants.{Enter, Link, Next, Leave}
use Rattle.tc_queue.specs.declared.words.Linked.{Linked}
use Rattle.tc_queue.specs.declared.board.SeatLog.{SeatLog}
use Rattle.tc_queue.specs.Words.{IsTurn, turn_word, link_word}
use Rattle.tc_queue.specs.Calls.{answer_to_enter, answer_to_next, answer_to_leave, tail_without, MayLink}

-- ---- a sequential queue

-- its tail, and for each thread the link behind one of its turns
pub record Plain : Type 0 where
  pub tail : Option Turn
  pub links : ℕ → Option Linked

abbrev pub empty_queue : Plain
empty_queue = record { tail = None; links = λ _. None }

-- its state after a call
abbrev pub plain_after : Plain → QueueCall → Plain
plain_after q (Enter u a) = record q { tail = Some u }
plain_after q (Link b u) = record q { links = λ t. if t == b.thread then Some (record { before = b.number; behind = u }) else q.links t }
plain_after q (Next u a) = q
plain_after q (Leave u a) = record q { tail = tail_without u q.tail }

-- a seat with this list may make the call, and the queue answers this
abbrev pub MayCome : ℕ → Plain → List QueueCall → QueueCall → Type 0
MayCome n q calls (Enter u a) = IsTurn n u × (a ≡ answer_to_enter q.tail)
MayCome n q calls (Link b u) = IsTurn n b × IsTurn n u × MayLink calls u b
MayCome n q calls (Next u a) = IsTurn n u × (a ≡ answer_to_next u (q.links u.thread))
MayCome n q calls (Leave u a) = IsTurn n u × (a ≡ answer_to_leave u q.tail)

-- ---- the order of all calls, the latest first

-- a call, and the number of the seat that made it
pub record Made : Type 0 where
  pub seat : ℕ
  pub call : QueueCall

-- the calls of one seat, in order
abbrev pub calls_of : ℕ → List Made → List QueueCall
calls_of id [] = []
calls_of id (m ∷ before) = if m.seat == id then calls_of id before ++ m.call ∷ [] else calls_of id before

abbrev pub queue_after : List Made → Plain
queue_after [] = empty_queue
queue_after (m ∷ before) = plain_after (queue_after before) m.call

abbrev pub IsLegal : ℕ → List Made → Type 0
IsLegal n [] = Unit {0}
IsLegal n (m ∷ before) = MayCome n (queue_after before) (calls_of m.seat before) m.call × IsLegal n before

-- ---- the words

abbrev pub tail_word : Option Turn → ℕ
tail_word None = 0
tail_word (Some u) = turn_word u

abbrev pub word_of_link : Option Linked → ℕ
word_of_link None = 0
word_of_link (Some l) = link_word l

-- the words of a queue for n threads: first the tail, then the links by thread
pub record AreWords (n : ℕ) (words : List ℕ) (q : Plain) : Type 0 where
  pub count : length words ≡ n + 1
  pub tail : slice_index words 0 ≡ tail_word q.tail
  pub links : (t : ℕ) → t < n → slice_index words (t + 1) ≡ word_of_link (q.links t)

abbrev pub first_log : ℕ → SeatLog
first_log n = record { threads = n; calls = [] }

-- a new seat beside a given one
abbrev pub log_beside : SeatLog → SeatLog
log_beside v = first_log v.threads

-- ---- the invariant

pub record IsOrdered (n : ℕ) (s : State ℕ SeatLog) : Type 0 where
  pub few : n ≤ 64
  pub order : List Made
  pub legal : IsLegal n order
  pub words : AreWords n s.words (queue_after order)
  pub seats : (id : ℕ) (v : SeatLog) → get_elem? s.views id ≡ some v → v ≡ record { threads = n; calls = calls_of id order }
  pub made : All (λ m. m.seat < length s.views) order
