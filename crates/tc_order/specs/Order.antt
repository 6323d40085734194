-- What a call on an order of waiters says of the pass beside it.
use Rattle.std.specs.Prelude.{◌≡◌, ℕ, ◌<◌, Bool, true, false, List, [], ◌∷◌, ◌++◌, get_or, length}
use mathlib.Core.Path.{sym, subst}
use Rattle.tc_queue.specs.declared.turn.Turn.{Turn}
use Rattle.tc_queue.specs.declared.turn.Arrival.{Arrival}
use Rattle.tc_queue.specs.declared.turn.Arrival.TheVariants.{First, Behind}
use Rattle.tc_queue.specs.declared.turn.QueueCall.{QueueCall}
use Rattle.tc_queue.specs.Words.{IsTurn}
use Rattle.tc_queue.specs.Calls.{MayLink}
use Rattle.tc_queue.specs.Lines.{LineCall, call_as}
use Rattle.tc_hall.specs.declared.board.HallTerms.{HallTerms}
use Rattle.tc_hall.specs.declared.board.PassCall.{PassCall}
use Rattle.tc_hall.specs.declared.board.PassCall.TheVariants.{Line}
use Rattle.tc_hall.specs.Lines.{lines_of}
use Rattle.tc_hall.specs.PassView.{PassView}
use Rattle.tc_hall.specs.Rule.{threads, locks}
use Rattle.tc_hall.specs.Steps.{IsSamePass}

abbrev pub is_line : PassCall → Bool
is_line (Line i c) = true
is_line c = false

-- all of these calls are calls on lines
abbrev pub AreLines : List PassCall → Type 0
AreLines [] = Unit {0}
AreLines (c ∷ cs) = (is_line c ≡ true) × AreLines cs

-- the pass got these notes of a call, and nothing else of it changed
pub record Told (noted : List PassCall → Type 0) (p q : PassView) : Type 0 where
  pub own : IsSamePass p q
  pub calls : List PassCall
  pub now : q.knows ≡ record p.knows { calls = p.knows.calls ++ calls }
  pub lines : AreLines calls
  pub notes : noted calls

-- each of these orders is that of the lock of its number
abbrev pub AreInOrder : {X : Type 0} → (X → ℕ → Type 0) → List X → Type 0
AreInOrder {X} of qs = (i : ℕ) (q : X) → i < length qs → of (get_or qs i q) i

-- the place that was answered may be linked after one more call of this pass, which is none on a line
abbrev pub IsLinkableThen : {P : Type 0} → (PassView → P → Type 0) → Arrival P → PassView → Type 0
IsLinkableThen links First q = Unit {0}
IsLinkableThen links (Behind place) q = (p : PassView) (c : PassCall) → p.knows.calls ≡ q.knows.calls ++ c ∷ [] → is_line c ≡ false → links p place

-- ---- apart from the hall

abbrev pub no_notes : LineCall → List PassCall → Type 0
no_notes call cs = cs ≡ []

-- ---- in the hall

-- it is the line of this lock in a hall with lines, of so many threads
pub record IsLineOf (k : HallTerms) (lock n : ℕ) : Type 0 where
  pub lined : k.lined ≡ true
  pub below : lock < locks k
  pub all : n ≡ threads k

-- the pass's list has the call, on the line of this lock
abbrev pub hall_notes : ℕ → LineCall → List PassCall → Type 0
hall_notes lock call cs = (c : QueueCall) × (call_as c ≡ call) × (cs ≡ Line lock c ∷ [])

abbrev pub LinksInHall : ℕ → ℕ → PassView → Turn → Turn → Type 0
LinksInHall lock n p before u = IsTurn n before × MayLink (lines_of lock p.knows.calls) u before

pub noted_there : (lock i : ℕ) (c : LineCall) (cs : List PassCall) → lock ≡ i → hall_notes lock c cs → hall_notes i c cs
noted_there lock i c cs same notes = subst (λ (j : ℕ). hall_notes j c cs) same notes

pub same_lock : (lock i j : ℕ) → lock ≡ i → lock ≡ j → i ≡ j
same_lock lock i j one other = subst (λ (n : ℕ). n ≡ j) one other

-- ---- apart from a hall with lines

abbrev pub OnlyFalse : Bool → Type 0
OnlyFalse true = ⊥
OnlyFalse false = Unit {0}

pub never_both : (b : Bool) → b ≡ false → b ≡ true → ⊥
never_both b f t = subst OnlyFalse t (subst OnlyFalse (sym f) tt)
