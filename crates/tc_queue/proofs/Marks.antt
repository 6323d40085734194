-- What the list of any order of waiters says of a queue's own.
use Rattle.std.proofs.Common.{◌≡◌, ◌≢◌, ℕ, ◌^◌, ◌<◌, ◌≤◌, List, [], ◌∷◌, ◌++◌, length, length-append, map, refl, sym, ap, ◌∙◌, subst, arith}
use Rattle.std.proofs.lemmas.List.{map_push}
use mathlib.Core.Option.{some}
use lib.ListN.{get_elem?}
use Rattle.atomic_table.proofs.Lists.{at_last, at_map}
use Rattle.tc_queue.specs.declared.turn.Turn.{Turn}
use Rattle.tc_queue.specs.declared.turn.QueueCall.{QueueCall}
use Rattle.tc_queue.specs.declared.turn.QueueCall.TheVariants.{Enter, Link, Next, Leave}
use Rattle.tc_queue.specs.declared.turn.Entered.{Entered}
use Rattle.tc_queue.specs.declared.turn.Entered.TheVariants.{First, Behind}
use Rattle.tc_queue.specs.declared.board.SeatLog.{SeatLog}
use Rattle.tc_queue.specs.Words.{IsTurn}
use Rattle.tc_queue.specs.Calls.{MayLink, AreBehind, with_call}
use Rattle.tc_queue.specs.Lines as line
use Rattle.tc_queue.specs.Lines.{MayLinkTo, call_as, entered_as, mark_of}
use Rattle.tc_lemmas.proofs.Lists.{in_range, from_map}

same_mark : (a b : Turn) → a.thread < 2 ^ 32 → b.thread < 2 ^ 32 → mark_of a ≡ mark_of b → a ≡ b
same_mark a b low low' e =
    let number : a.number ≡ b.number = omega arith in
    let thread : a.thread ≡ b.thread = omega arith in
    λ i. record { thread = thread i; number = number i }

same_call : (u w : Turn) (a b : line.Entered) → line.Enter u a ≡ line.Enter w b → (u ≡ w) × (a ≡ b)
same_call u w a b e = (cc e, cc e)

same_number : (a b : ℕ) → line.Behind a ≡ line.Behind b → a ≡ b
same_number a b e = cc e

was_behind : (a : Entered) (mark : ℕ) → entered_as a ≡ line.Behind mark → (b : Turn) × (a ≡ Behind b) × (mark_of b ≡ mark)
was_behind First mark e = absurd (cc e)
was_behind (Behind b) mark e = (b, refl, same_number (mark_of b) mark e)

did_enter : (c : QueueCall) (u : Turn) (mark : ℕ) → call_as c ≡ line.Enter u (line.Behind mark) → (b : Turn) × (c ≡ Enter u (Behind b)) × (mark_of b ≡ mark)
did_enter (Enter w a) u mark e =
    let same = same_call w u (entered_as a) (line.Behind mark) e in
    let b = was_behind a mark same.1 in
    (b.0, (λ i. Enter (same.0 i) (b.1 i)), b.2)
did_enter (Link b w) u mark e = absurd (cc e)
did_enter (Next w a) u mark e = absurd (cc e)
did_enter (Leave w a) u mark e = absurd (cc e)

-- a place that may be linked in the one list may be linked in the other, and is a turn of the queue
pub may_link : (n : ℕ) (calls : List QueueCall) (u place : Turn) → n ≤ 64 → place.thread < 2 ^ 32 → AreBehind n calls → MayLinkTo (map call_as calls) u (mark_of place) → IsTurn n place × MayLink calls u place
may_link n calls u place few low all may =
    let at = from_map call_as calls may.0 _ may.1 in
    let did = did_enter at.0 u (mark_of place) at.2 in
    let there : get_elem? calls may.0 ≡ some (Enter u (Behind did.0)) = at.1 ∙ ap some did.1 in
    let turn : IsTurn n did.0 = all u did.0 (may.0, there) in
    let low' = turn.thread in
    let same : did.0 ≡ place = same_mark did.0 place (omega arith) low did.2 in (
      subst (IsTurn n) same turn,
      (may.0, there ∙ ap (λ (b : Turn). some (Enter u (Behind b))) same, λ j x later e. may.2 j (mark_of x) later (at_map call_as calls j (Link x u) e)),
    )

-- a list that was made longer by one call has it at its end
at_its_end : {C : Type 0} (calls before : List C) (c : C) → calls ≡ before ++ c ∷ [] → (i : ℕ) × (get_elem? calls i ≡ some c) × ((j : ℕ) (d : C) → i < j → get_elem? calls j ≢ some d)
at_its_end {C} calls before c is = subst (λ (l : List C). (i : ℕ) × (get_elem? l i ≡ some c) × ((j : ℕ) (d : C) → i < j → get_elem? l j ≢ some d)) (sym is) (
  length before,
  at_last before c (length before) refl,
  λ j d later e.
      let deep = in_range (before ++ c ∷ []) j d e in
      let long = length-append before (c ∷ []) in
      let one : length (c ∷ []) ≡ 1 = refl in
      absurd (omega arith),
)

-- what was just answered may be linked
pub just_entered : (calls before : List QueueCall) (u b : Turn) → calls ≡ before ++ Enter u (Behind b) ∷ [] → MayLink calls u b
just_entered calls before u b is = let at = at_its_end calls before (Enter u (Behind b)) is in (at.0, at.1, λ j x later. at.2 j (Link x u) later)

just_entered_line : (calls before : List line.LineCall) (u : Turn) (mark : ℕ) → calls ≡ before ++ line.Enter u (line.Behind mark) ∷ [] → MayLinkTo calls u mark
just_entered_line calls before u mark is = let at = at_its_end calls before (line.Enter u (line.Behind mark)) is in (at.0, at.1, λ j other later. at.2 j (line.Link other u) later)

pub may_now : (v w : SeatLog) (u b place : Turn) (a : Entered) → w ≡ with_call v (Enter u a) → a ≡ Behind b → b ≡ place → MayLinkTo (map call_as w.calls) u (mark_of place)
may_now v w u b place a is behind same = just_entered_line (map call_as w.calls) (map call_as v.calls) u (mark_of place)
    (ap (λ (z : SeatLog). map call_as z.calls) is ∙ (map_push call_as v.calls (Enter u a) ∙ ap (λ (z : Entered). map call_as v.calls ++ call_as (Enter u z) ∷ []) (behind ∙ ap Behind same)))
