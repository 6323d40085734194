-- The seat's own list of steps beside its list of calls.
use Rattle.std.proofs.Common.{◌≡◌, ◌≢◌, true, ℕ, zero, suc, ◌<◌, List, [], ◌∷◌, ◌++◌, length, length-append, refl, sym, ap, ◌∙◌, subst, inl, inr, arith, Option, Some}
use mathlib.Core.Option.{some, some-injective, some-ne-none}
use lib.ListN.{get_elem?}
use Rattle.atomic_table.proofs.Lists.{at_last}
use Rattle.tc_queue.specs.declared.turn.Turn.{Turn}
use Rattle.tc_queue.specs.declared.turn.Departure.{Departure}
use Rattle.tc_queue.specs.declared.turn.Departure.TheVariants.{Followed}
use Rattle.tc_queue.specs.Lines as line
use Rattle.tc_queue.specs.Lines.{MayLinkTo, with_line}
use Rattle.tc_nodes.specs.declared.step.Entered.{Entered}
use Rattle.tc_nodes.specs.declared.step.Entered.TheVariants.{First, Behind}
use Rattle.tc_nodes.specs.declared.step.LineStep.{LineStep}
use Rattle.tc_nodes.specs.declared.step.LineStep.TheVariants.{Enter, Link, Take, Read, Next, Stay, Leave, Back}
use Rattle.tc_nodes.specs.declared.board.Stand.{Stand}
use Rattle.tc_nodes.specs.Order.{MayLink, stand_after}
use Rattle.tc_nodes.specs.View.{NodeSeatView, AreMisses, AreTries, AreReads, with_calls, DidNext, DidLeave, DidLeaveBy, Stayed, Exchanged}
use Rattle.tc_nodes.specs.Lines.{entered_as, calls_as, seat_as}
use Rattle.tc_lemmas.proofs.Lists.{in_range}

pub calls_as-append : (xs ys : List LineStep) → calls_as (xs ++ ys) ≡ calls_as xs ++ calls_as ys
calls_as-append [] ys = refl
calls_as-append (Enter u a ∷ xs) ys = ap (λ (l : List line.LineCall). line.Enter u (entered_as a) ∷ l) (calls_as-append xs ys)
calls_as-append (Link place u node ∷ xs) ys = ap (λ (l : List line.LineCall). line.Link place u ∷ l) (calls_as-append xs ys)
calls_as-append (Take home ∷ xs) ys = calls_as-append xs ys
calls_as-append (Read number found took ∷ xs) ys = calls_as-append xs ys
calls_as-append (Next u node a ∷ xs) ys = ap (λ (l : List line.LineCall). line.Next u a ∷ l) (calls_as-append xs ys)
calls_as-append (Stay u ∷ xs) ys = ap (λ (l : List line.LineCall). line.Leave u Followed ∷ l) (calls_as-append xs ys)
calls_as-append (Leave u d ∷ xs) ys = ap (λ (l : List line.LineCall). line.Leave u d ∷ l) (calls_as-append xs ys)
calls_as-append (Back ∷ xs) ys = calls_as-append xs ys

-- ---- what is no call of its own

misses_as : (cs : List LineStep) → AreMisses cs → calls_as cs ≡ []
misses_as [] are = refl
misses_as (c ∷ cs) are = ap (λ (z : LineStep). calls_as (z ∷ cs)) are.0 ∙ misses_as cs are.1

tries_as : (cs : List LineStep) → AreTries cs → calls_as cs ≡ []
tries_as cs are = ap calls_as are.list ∙ (calls_as-append are.misses (Take true ∷ []) ∙ ap (λ (l : List line.LineCall). l ++ []) (misses_as are.misses are.missed))

reads_as : (h : Stand) (cs : List LineStep) (g : Stand) → AreReads h cs g → calls_as cs ≡ []
reads_as h [] g are = refl
reads_as h (c ∷ cs) g (inl z) = ap (λ (x : LineStep). calls_as (x ∷ cs)) z.0 ∙ ap calls_as z.1
reads_as h (c ∷ cs) g (inr z) = ap (λ (x : LineStep). calls_as (x ∷ cs)) z.1 ∙ reads_as (stand_after (Some z.0) h) cs g z.2

-- steps were added that show this one call
pub adds_line : (s t : NodeSeatView) (cs : List LineStep) (c : line.LineCall) → t ≡ with_calls cs s → calls_as cs ≡ c ∷ [] → seat_as t ≡ with_line (seat_as s) c
adds_line s t cs c e is = ap seat_as e ∙ (λ i. record { table = s.table; threads = s.threads; calls = (calls_as-append s.calls cs ∙ ap (λ (l : List line.LineCall). calls_as s.calls ++ l) is) i })

pub next_as : (u : Turn) (node : ℕ) (a : Option Turn) (s t : NodeSeatView) → DidNext u node a s t → seat_as t ≡ with_line (seat_as s) (line.Next u a)
next_as u node a s t d = adds_line s t (d.tries ++ (d.reads ++ Next u node a ∷ [])) (line.Next u a) d.list
    (calls_as-append d.tries (d.reads ++ Next u node a ∷ [])
    ∙ (λ i. tries_as d.tries d.tried i ++ (calls_as-append d.reads (Next u node a ∷ []) ∙ ap (λ (l : List line.LineCall). l ++ line.Next u a ∷ []) (reads_as d.found d.reads d.stand d.did_read)) i))

leave_by : (u : Turn) (a : Departure) (tries : List LineStep) (s t : NodeSeatView) → AreTries tries → DidLeaveBy u a tries s t → seat_as t ≡ with_line (seat_as s) (line.Leave u a)
leave_by u a tries s t tried (Stayed answer list) =
    adds_line s t (tries ++ Stay u ∷ []) (line.Leave u a) list
    (calls_as-append tries (Stay u ∷ []) ∙ (λ i. tries_as tries tried i ++ line.Leave u (sym answer i) ∷ []))
leave_by u a tries s t tried (Exchanged found stand none answer list) =
    adds_line s t (tries ++ Leave u a ∷ Back ∷ []) (line.Leave u a) list
    (calls_as-append tries (Leave u a ∷ Back ∷ []) ∙ ap (λ (l : List line.LineCall). l ++ line.Leave u a ∷ []) (tries_as tries tried))

pub leave_as : (u : Turn) (a : Departure) (s t : NodeSeatView) → DidLeave u a s t → seat_as t ≡ with_line (seat_as s) (line.Leave u a)
leave_as u a s t d = leave_by u a d.tries s t d.tried d.did

-- ---- a place that may be linked

-- a `link` in the seat's own list stands in its list of calls
link_there : (cs : List LineStep) (j other node : ℕ) (u : Turn) → get_elem? cs j ≡ some (Link other u node) → (i : ℕ) × (get_elem? (calls_as cs) i ≡ some (line.Link other u))
link_there [] j other node u e = absurd (some-ne-none (Link other u node) (sym e))
link_there (c ∷ cs) zero other node u e = by_call c (some-injective c (Link other u node) e)
  where
    by_call : (x : LineStep) → x ≡ Link other u node → (i : ℕ) × (get_elem? (calls_as (x ∷ cs)) i ≡ some (line.Link other u))
    by_call x is = subst (λ (z : LineStep). (i : ℕ) × (get_elem? (calls_as (z ∷ cs)) i ≡ some (line.Link other u))) (sym is) (0, refl)
link_there (c ∷ cs) (suc j) other node u e = by_call c (link_there cs j other node u e)
  where
    by_call : (x : LineStep) → (i : ℕ) × (get_elem? (calls_as cs) i ≡ some (line.Link other u)) → (i : ℕ) × (get_elem? (calls_as (x ∷ cs)) i ≡ some (line.Link other u))
    by_call (Enter w a) at = (suc at.0, at.1)
    by_call (Link place w n) at = (suc at.0, at.1)
    by_call (Take home) at = at
    by_call (Read number found took) at = at
    by_call (Next w n a) at = (suc at.0, at.1)
    by_call (Stay w) at = (suc at.0, at.1)
    by_call (Leave w d) at = (suc at.0, at.1)
    by_call Back at = at

-- one step before
later : (c : LineStep) (cs : List LineStep) (u : Turn) (place : ℕ) → MayLink cs u place → MayLink (c ∷ cs) u place
later c cs u place may = (suc may.0, may.1, by_index)
  where
    by_index : (j other node : ℕ) → suc may.0 < j → get_elem? (c ∷ cs) j ≢ some (Link other u node)
    by_index zero other node low = absurd (omega arith)
    by_index (suc j) other node low = may.2 j other node (omega arith)

-- in the list of calls without its first one
shorter : (x : line.LineCall) (ls : List line.LineCall) (u : Turn) (place i : ℕ) → get_elem? ls i ≡ some (line.Enter u (line.Behind place)) → ((j other : ℕ) → suc i < j → get_elem? (x ∷ ls) j ≢ some (line.Link other u)) → MayLinkTo ls u place
shorter x ls u place i at none = (i, at, λ j other low. none (suc j) other (omega arith))

same_enter : (a : Entered) (place : ℕ) (u w : Turn) → line.Enter w (entered_as a) ≡ line.Enter u (line.Behind place) → Enter w a ≡ Enter u (Behind place)
same_enter First place u w e = absurd (cc e)
same_enter (Behind b) place u w e = cc e

-- a step whose call is no such `enter` stands first
past_other : (c : LineStep) (x : line.LineCall) (cs : List LineStep) (u : Turn) (place : ℕ) → (x ≡ line.Enter u (line.Behind place) → ⊥) → MayLinkTo (x ∷ calls_as cs) u place → (MayLinkTo (calls_as cs) u place → MayLink cs u place) → MayLink (c ∷ cs) u place
past_other c x cs u place other (zero, at, none) rest = absurd (other (some-injective x (line.Enter u (line.Behind place)) at))
past_other c x cs u place other (suc i, at, none) rest = later c cs u place (rest (shorter x (calls_as cs) u place i at none))

past_enter : (w : Turn) (a : Entered) (cs : List LineStep) (u : Turn) (place : ℕ) → MayLinkTo (line.Enter w (entered_as a) ∷ calls_as cs) u place → (MayLinkTo (calls_as cs) u place → MayLink cs u place) → MayLink (Enter w a ∷ cs) u place
past_enter w a cs u place (zero, at, none) rest = (0, ap some (same_enter a place u w (some-injective (line.Enter w (entered_as a)) (line.Enter u (line.Behind place)) at)), after)
  where
    after : (j other node : ℕ) → 0 < j → get_elem? (Enter w a ∷ cs) j ≢ some (Link other u node)
    after zero other node low = absurd (omega arith)
    after (suc j) other node low = λ e. (let there = link_there cs j other node u e in none (suc there.0) other (omega arith) there.1)
past_enter w a cs u place (suc i, at, none) rest = later (Enter w a) cs u place (rest (shorter (line.Enter w (entered_as a)) (calls_as cs) u place i at none))

no_link : (other : ℕ) (w u : Turn) (place : ℕ) → line.Link other w ≡ line.Enter u (line.Behind place) → ⊥
no_link other w u place e = absurd (cc e)

no_next : (w : Turn) (a : Option Turn) (u : Turn) (place : ℕ) → line.Next w a ≡ line.Enter u (line.Behind place) → ⊥
no_next w a u place e = absurd (cc e)

no_leave : (w : Turn) (d : Departure) (u : Turn) (place : ℕ) → line.Leave w d ≡ line.Enter u (line.Behind place) → ⊥
no_leave w d u place e = absurd (cc e)

pub may_link : (cs : List LineStep) (u : Turn) (place : ℕ) → MayLinkTo (calls_as cs) u place → MayLink cs u place
may_link [] u place may = absurd (some-ne-none (line.Enter u (line.Behind place)) (sym may.1))
may_link (Enter w a ∷ cs) u place may = past_enter w a cs u place may (may_link cs u place)
may_link (Link other w node ∷ cs) u place may = past_other (Link other w node) (line.Link other w) cs u place (no_link other w u place) may (may_link cs u place)
may_link (Take home ∷ cs) u place may = later (Take home) cs u place (may_link cs u place may)
may_link (Read number found took ∷ cs) u place may = later (Read number found took) cs u place (may_link cs u place may)
may_link (Next w node a ∷ cs) u place may = past_other (Next w node a) (line.Next w a) cs u place (no_next w a u place) may (may_link cs u place)
may_link (Stay w ∷ cs) u place may = past_other (Stay w) (line.Leave w Followed) cs u place (no_leave w Followed u place) may (may_link cs u place)
may_link (Leave w d ∷ cs) u place may = past_other (Leave w d) (line.Leave w d) cs u place (no_leave w d u place) may (may_link cs u place)
may_link (Back ∷ cs) u place may = later Back cs u place (may_link cs u place may)

-- a list that was made longer by one has that one at its end
at_its_end : {C : Type 0} (before after : List C) (c : C) → after ≡ before ++ c ∷ [] → (i : ℕ) × (get_elem? after i ≡ some c) × ((j : ℕ) (d : C) → i < j → get_elem? after j ≢ some d)
at_its_end {C} before after c e = subst (λ (l : List C). (i : ℕ) × (get_elem? l i ≡ some c) × ((j : ℕ) (d : C) → i < j → get_elem? l j ≢ some d)) (sym e) (
  length before,
  at_last before c (length before) refl,
  λ j d low is.
      let r = in_range (before ++ c ∷ []) j d is in
      let n = length-append before (c ∷ []) in
      let one : length (c ∷ []) ≡ 1 = refl in
      absurd (omega arith),
)

-- what was just answered may be linked
pub just_entered : (before after : List line.LineCall) (u : Turn) (place : ℕ) → after ≡ before ++ line.Enter u (line.Behind place) ∷ [] → MayLinkTo after u place
just_entered before after u place e = let at = at_its_end before after (line.Enter u (line.Behind place)) e in (at.0, at.1, λ j other low. at.2 j (line.Link other u) low)

-- the same in the seat's own list
pub just_placed : (before after : List LineStep) (u : Turn) (place : ℕ) → after ≡ before ++ Enter u (Behind place) ∷ [] → MayLink after u place
just_placed before after u place e = let at = at_its_end before after (Enter u (Behind place)) e in (at.0, at.1, λ j other node low. at.2 j (Link other u node) low)
