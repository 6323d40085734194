-- The turns that a seat was told of, after one call more.
use Rattle.std.proofs.Common.{◌≡◌, ℕ, [], sym, ap, subst, ⊎_elim, Option, Some, None}
use mathlib.Core.Option.{some-ne-none}
use Rattle.atomic_table.proofs.Lists.{at_snoc}
use Rattle.tc_queue.specs.declared.turn.Turn.{Turn}
use Rattle.tc_queue.specs.declared.turn.QueueCall.{QueueCall}
use Rattle.tc_queue.specs.declared.turn.QueueCall.TheVariants.{Enter, Link, Next, Leave}
use Rattle.tc_queue.specs.declared.turn.Entered.{Entered}
use Rattle.tc_queue.specs.declared.turn.Entered.TheVariants.{Behind}
use Rattle.tc_queue.specs.declared.board.SeatLog.{SeatLog}
use Rattle.tc_queue.specs.Words.{IsTurn, turn_at, link_at}
use Rattle.tc_queue.specs.Calls.{answer_to_enter, answer_to_next, answer_to_leave, with_call, AreBehind}
use Rattle.tc_queue.specs.Asked.{Ask, IsFound, answered, enter, link, next, leave}

more : (v w : SeatLog) (c : QueueCall) → w ≡ with_call v c → ((u b : Turn) → c ≡ Enter u (Behind b) → IsTurn v.threads b) → AreBehind v.threads v.calls → AreBehind w.threads w.calls
more v w c is new all = subst (λ (z : SeatLog). AreBehind z.threads z.calls) (sym is) (λ u b has. ⊎_elim (λ g. all u b (has.0, g)) (new u b) (at_snoc v.calls c (Enter u (Behind b)) has.0 has.1))

same_answer : (u w : Turn) (a b : Entered) → Enter u a ≡ Enter w b → a ≡ b
same_answer u w a b e = cc e

found_behind : (found : Option Turn) (b : Turn) → answer_to_enter found ≡ Behind b → found ≡ Some b
found_behind None b e = absurd (cc e)
found_behind (Some last) b e = ap Some (cc e)

-- a call that was asked so
pub behind_asked : (ask : Ask) (word : ℕ) (v w : SeatLog) → w ≡ with_call v (answered ask word) → IsFound v.threads ask word → AreBehind v.threads v.calls → AreBehind w.threads w.calls
behind_asked (enter u) word v w is tail = more v w (Enter u (answer_to_enter (turn_at word))) is (λ x b e. tail b (found_behind (turn_at word) b (same_answer u x (answer_to_enter (turn_at word)) (Behind b) e)))
behind_asked (link b u) word v w is found = more v w (Link b u) is (λ x y e. absurd (cc e))
behind_asked (next u) word v w is found = more v w (Next u (answer_to_next u (link_at word))) is (λ x y e. absurd (cc e))
behind_asked (leave u) word v w is found = more v w (Leave u (answer_to_leave u (turn_at word))) is (λ x y e. absurd (cc e))

pub behind_none : (n : ℕ) → AreBehind n []
behind_none n u b has = absurd (some-ne-none (Enter u (Behind b)) (sym has.1))
