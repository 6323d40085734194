-- The lines of the locks of a hall: who waits for each, by words of its table. Their steps are those of a queue of tc_queue.
use Rattle.std.specs.Prelude.{◌≡◌, ℕ, ◌+◌, ◌*◌, ◌<◌, ◌==◌, true, if◌then◌else◌, List, [], ◌∷◌, slice_index}
use Rattle.tc_queue.specs.declared.turn.Turn.{Turn}
use Rattle.tc_queue.specs.declared.turn.QueueCall.{QueueCall}
use Rattle.tc_queue.specs.declared.turn.QueueCall.TheVariants.{Enter, Link, Next, Leave}
use Rattle.tc_queue.specs.Words.{IsTurn, turn_at, link_at}
use Rattle.tc_queue.specs.Calls.{IsTail, IsLink, MayLink}
use Rattle.tc_queue.specs.Order.{Plain}
use Rattle.tc_queue.specs.Asked.{Ask}
use Rattle.tc_hall.specs.declared.board.Knows.{Knows}
use Rattle.tc_hall.specs.declared.board.HallTerms.{HallTerms}
use Rattle.tc_hall.specs.declared.board.PassCall.{PassCall}
use Rattle.tc_hall.specs.declared.board.PassCall.TheVariants.{Line}
use Rattle.tc_hall.specs.Places.{slot_word}
use Rattle.tc_hall.specs.Rule.{threads, locks}

-- ---- the words

-- behind the words of the slots each lock has two places: the first begins with the tail of its line
abbrev pub tail_word_of : HallTerms → ℕ → ℕ
tail_word_of k i = slot_word (threads k + locks k + 2 * i)

-- and the second with the links of the threads
abbrev pub link_word_of : HallTerms → ℕ → ℕ → ℕ
link_word_of k i t = slot_word (threads k + locks k + 2 * i + 1) + t

-- the word of a call on the line of lock i
abbrev pub line_word : HallTerms → ℕ → QueueCall → ℕ
line_word k i (Enter u a) = tail_word_of k i
line_word k i (Link b u) = link_word_of k i b.thread
line_word k i (Next u a) = link_word_of k i u.thread
line_word k i (Leave u a) = tail_word_of k i

-- the queue that its words represent
abbrev pub plain_at : HallTerms → ℕ → List ℕ → Plain
plain_at k i words = record { tail = turn_at (slice_index words (tail_word_of k i)); links = λ t. link_at (slice_index words (link_word_of k i t)) }

-- its tail and its links are of n threads
pub record AreInRange (n : ℕ) (q : Plain) : Type 0 where
  pub tail : IsTail n q.tail
  pub links : (t : ℕ) → t < n → IsLink n (q.links t)

-- ---- the calls

-- those of a pass on the line of lock i
abbrev pub lines_of : ℕ → List PassCall → List QueueCall
lines_of i [] = []
lines_of i (Line j c ∷ cs) = if j == i then c ∷ lines_of i cs else lines_of i cs
lines_of i (c ∷ cs) = lines_of i cs

-- a call for this turn may be made on the line of lock i
pub record MayStand (k : HallTerms) (i : ℕ) (u : Turn) : Type 0 where
  pub lined : k.lined ≡ true
  pub lock : i < locks k
  pub turn : IsTurn (threads k) u

-- the turn may be linked there by this pass behind one that `enter` answered
pub record MayLinkAt (k : HallTerms) (v : Knows) (i : ℕ) (before u : Turn) : Type 0 where
  pub may : MayStand k i u
  pub behind : IsTurn (threads k) before
  pub entered : MayLink (lines_of i v.calls) u before

-- the call was asked so on the line of lock i in a hall of n threads
abbrev pub IsAsked : ℕ → ℕ → Ask → ℕ → ℕ → Ask → Type 0
IsAsked n i ask m j asked = (m ≡ n) × (j ≡ i) × (asked ≡ ask)
