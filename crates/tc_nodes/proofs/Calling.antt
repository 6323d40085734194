-- From the steps of a call to the call.
use Rattle.std.proofs.Common.{◌≡◌, ◌≢◌, ℕ, ◌==◌, cond, List, [], ◌∷◌, ◌++◌, Bool, true, false, is_some, append_assoc, append-nil, refl, sym, ap, ◌∙◌, subst, inl, inr, Option, Some, None}
use mathlib.Core.Option.{none}
use Rattle.atomic_table.specs.Seated.{TableId}
use Rattle.atomic_table.specs.declared.shared.Seat.{Seat}
use Rattle.atomic_table.specs.Table.{step, Allows}
use Rattle.tc_queue.specs.declared.turn.Turn.{Turn}
use Rattle.tc_queue.specs.declared.turn.Departure.{Departure}
use Rattle.tc_queue.specs.Words.{IsTurn}
use Rattle.tc_nodes.specs.declared.line.Waiter.{Waiter}
use Rattle.tc_nodes.specs.declared.board.NodeTerms.{NodeTerms}
use Rattle.tc_nodes.specs.Line.{first_of, or_else, picked}
use Rattle.tc_nodes.specs.declared.cells.Placed.{Placed}
use Rattle.tc_nodes.specs.declared.step.LineStep.{LineStep}
use Rattle.tc_nodes.specs.declared.step.LineStep.TheVariants.{Take, Read, Next, Leave, Back}
use Rattle.tc_nodes.specs.declared.board.Stand.{Stand}
use Rattle.tc_nodes.specs.declared.board.Known.{Known}
use Rattle.tc_nodes.specs.Order.{next_to, takes_in, stand_after, pick_of, without_pick, answer_to_leave, stand_left, IsOrdered}
use Rattle.tc_nodes.specs.Steps.{Sitting, AreTurns, IsLineFor, IsFound, Holds, Took, with_call, with_hand, took, missed, did_read, did_next, did_leave, did_put_back, Returns, Stays, PutsBack}
use Rattle.tc_nodes.specs.View.{NodeQueueView, NodeSeatView, seat_view, IsSamePlace, AreMisses, AreReads, with_all, IsTaken, DidRead, IsFilled, DidNext, DidExchange, DidLeave, Exchanged}
use Rattle.tc_nodes.proofs.Sound.{line_read}
use Rattle.tc_nodes.proofs.Stepping.{returns_line, stays_line, puts_back}

-- ---- the place of a seat, and the turn that a call picks

pub still_same : (p q r : Seat Stand Known) → IsSamePlace p q → IsSamePlace q r → IsSamePlace p r
still_same p q r a b = (b.0 ∙ a.0, b.1 ∙ a.1)

-- what a call did is said of the seat
pub of_seat : (Did : NodeSeatView → NodeSeatView → Type 0) (s : NodeSeatView) (p q : Seat Stand Known) (number : ℕ) → seat_view p.table_id p.id number p.me.0 ≡ s → IsSamePlace p q
    → Did (seat_view p.table_id p.id number p.me.0) (seat_view p.table_id p.id number q.me.0) → Did s (seat_view q.table_id q.id number q.me.0)
of_seat Did s p q number is same told =
    subst (λ (z : NodeSeatView). Did z (seat_view q.table_id q.id number q.me.0)) is
    (subst (λ (z : TableId × ℕ). Did (seat_view p.table_id p.id number p.me.0) (seat_view z.0 z.1 number q.me.0)) (λ i. (sym same.0 i, sym same.1 i)) told)

-- a turn of the queue is one of its table
pub turn_picked : (inside now : NodeQueueView) (k : NodeTerms) (u own : Turn) → inside ≡ now → inside.threads ≡ k.threads → u ≡ own → IsTurn now.threads u → IsTurn k.threads own
turn_picked inside now k u own is same picks turn = subst (IsTurn k.threads) picks (subst (λ (n : ℕ). IsTurn n u) (sym (ap (λ (q : NodeQueueView). q.threads) is) ∙ same) turn)

-- ---- taking the line

one_miss : (cs : List LineStep) → AreMisses cs → AreMisses (cs ++ Take false ∷ [])
one_miss [] are = (refl, tt)
one_miss (c ∷ cs) are = (are.0, one_miss cs are.1)

-- the line was found out so often
pub record HasMissed (m m' : Sitting) : Type 0 where
  pub misses : List LineStep
  pub missed : AreMisses misses
  pub now : m' ≡ (with_all misses m.0, [])

pub no_miss : (m : Sitting) → m.1 ≡ [] → HasMissed m m
no_miss m free = record { misses = []; missed = tt; now = λ i. (record m.0 { calls = sym (append-nil m.0.calls) i }, free i) }

pub missed_more : (m m1 m2 : Sitting) → HasMissed m m1 → m2 ≡ (missed m1.0, []) → HasMissed m m2
missed_more m m1 m2 h e = record {
  misses = h.misses ++ Take false ∷ [];
  missed = one_miss h.misses h.missed;
  now = e ∙ (ap (λ (z : Sitting). (missed z.0, [])) h.now ∙ (λ i. (record m.0 { calls = append_assoc m.0.calls h.misses (Take false ∷ []) i }, [])));
}

pub taken_now : (m m1 m2 : Sitting) → HasMissed m m1 → Took m1 m2 → IsTaken m m2
taken_now m m1 m2 h t = record {
  tries = h.misses ++ Take true ∷ [];
  tried = record { misses = h.misses; missed = h.missed; list = refl };
  stand = t.stand;
  line = subst (λ (z : Sitting). IsLineFor z.0.threads z.0.bound t.stand.line) h.now t.line;
  now = t.now ∙ (ap (λ (z : Sitting). (took t.stand z.0, (0, t.stand) ∷ z.1)) h.now ∙ (λ i. (record m.0 { calls = append_assoc m.0.calls h.misses (Take true ∷ []) i; hand = Some t.stand }, (0, t.stand) ∷ [])));
}

-- ---- reading

same_hand : (a b : Stand) → Some a ≡ Some b → a ≡ b
same_hand a b e = cc e

-- a seat has but one line in hand
pub one_hand : (g h : Stand) (m : Sitting) → Holds g m → Holds h m → g ≡ h
one_hand g h m a b = same_hand g h (sym a.hand ∙ b.hand)

-- cells were read, each of which had something
abbrev pub ArePut : Stand → List LineStep → Stand → Type 0
ArePut h [] g = g ≡ h
ArePut h (c ∷ cs) g = (p : Placed) × (c ≡ Read (next_to h.read) (Some p) (takes_in (Some p) h)) × ArePut (stand_after (Some p) h) cs g

put_more : (h g : Stand) (cs : List LineStep) (p : Placed) → ArePut h cs g → ArePut h (cs ++ Read (next_to g.read) (Some p) (takes_in (Some p) g) ∷ []) (stand_after (Some p) g)
put_more h g [] p are = (p, ap (λ (z : Stand). Read (next_to z.read) (Some p) (takes_in (Some p) z)) are, ap (stand_after (Some p)) are)
put_more h g (c ∷ cs) p are = (are.0, are.1, put_more (stand_after (Some are.0) h) g cs p are.2)

put_last : (h g : Stand) (cs : List LineStep) → ArePut h cs g → AreReads h (cs ++ Read (next_to g.read) None false ∷ []) g
put_last h g [] are = inl (ap (λ (z : Stand). Read (next_to z.read) None false) are, refl, are)
put_last h g (c ∷ cs) are = inr (are.0, are.1, put_last (stand_after (Some are.0) h) g cs are.2)

pub record HasPut (m m' : Sitting) : Type 0 where
  pub found : Stand
  pub was : Holds found m
  pub reads : List LineStep
  pub stand : Stand
  pub put : ArePut found reads stand
  pub line : IsLineFor m.0.threads m.0.bound stand.line
  pub now : m' ≡ (with_hand (Some stand) (with_all reads m.0), (0, stand) ∷ [])

pub none_put : (m : Sitting) (h : Stand) → Holds h m → IsLineFor m.0.threads m.0.bound h.line → HasPut m m
none_put m h is of = record {
  found = h;
  was = is;
  reads = [];
  stand = h;
  put = refl;
  line = of;
  now = λ i. (record m.0 { calls = sym (append-nil m.0.calls) i; hand = is.hand i }, is.slot i);
}

pub holds_put : (m m1 : Sitting) → (h : HasPut m m1) → Holds h.stand m1
holds_put m m1 h = record { slot = ap (λ (z : Sitting). z.1) h.now; hand = ap (λ (z : Sitting). z.0.hand) h.now }

was_found : (found : Option Placed) → true ≡ is_some found → (p : Placed) × (found ≡ Some p)
was_found None e = absurd (cc e)
was_found (Some p) e = (p, refl)

was_empty : (found : Option Placed) → false ≡ is_some found → found ≡ None
was_empty None e = refl
was_empty (Some p) e = absurd (cc e)

pub put_one : (m m1 m2 : Sitting) → HasPut m m1 → DidRead true m1 m2 → HasPut m m2
put_one m m1 m2 h d =
    let p = was_found d.found d.answer in
    let same : d.stand ≡ h.stand = one_hand d.stand h.stand m1 d.was (holds_put m m1 h) in
    let now : m2 ≡ (did_read (Some p.0) h.stand m1.0, (0, stand_after (Some p.0) h.stand) ∷ []) = d.now ∙ (λ i. (did_read (p.1 i) (same i) m1.0, (0, stand_after (p.1 i) (same i)) ∷ [])) in
    let threads : m1.0.threads ≡ m.0.threads = ap (λ (z : Sitting). z.0.threads) h.now in
    record {
      found = h.found;
      was = h.was;
      reads = h.reads ++ Read (next_to h.stand.read) (Some p.0) (takes_in (Some p.0) h.stand) ∷ [];
      stand = stand_after (Some p.0) h.stand;
      put = put_more h.found h.stand h.reads p.0 h.put;
      line = line_read m.0.threads m.0.bound (Some p.0) h.stand (subst (λ (z : ℕ). IsFound z (Some p.0)) threads (subst (IsFound m1.0.threads) p.1 d.in_range)) h.line;
      now = now ∙ (ap (λ (z : Sitting). (did_read (Some p.0) h.stand z.0, (0, stand_after (Some p.0) h.stand) ∷ [])) h.now
          ∙ (λ i. (record m.0 { calls = append_assoc m.0.calls h.reads (Read (next_to h.stand.read) (Some p.0) (takes_in (Some p.0) h.stand) ∷ []) i; hand = Some (stand_after (Some p.0) h.stand) }, (0, stand_after (Some p.0) h.stand) ∷ [])));
    }

pub put_all : (m m1 m2 : Sitting) → HasPut m m1 → DidRead false m1 m2 → IsFilled m m2
put_all m m1 m2 h d =
    let none = was_empty d.found d.answer in
    let same : d.stand ≡ h.stand = one_hand d.stand h.stand m1 d.was (holds_put m m1 h) in
    let now : m2 ≡ (did_read None h.stand m1.0, (0, h.stand) ∷ []) = d.now ∙ (λ i. (did_read (none i) (same i) m1.0, (0, stand_after (none i) (same i)) ∷ [])) in
    record {
      found = h.found;
      was = h.was;
      reads = h.reads ++ Read (next_to h.stand.read) None false ∷ [];
      stand = h.stand;
      did_read = put_last h.found h.stand h.reads h.put;
      line = h.line;
      now = now ∙ (ap (λ (z : Sitting). (did_read None h.stand z.0, (0, h.stand) ∷ [])) h.now
          ∙ (λ i. (record m.0 { calls = append_assoc m.0.calls h.reads (Read (next_to h.stand.read) None false ∷ []) i; hand = Some h.stand }, (0, h.stand) ∷ [])));
    }

-- ---- putting the line back

pub returns_from : (k : NodeTerms) (slots id : ℕ) (m m1 : Sitting) (h : Stand) (u : Turn) (node : ℕ) → Holds h m → m1.0 ≡ m.0 → m1.1 ≡ (0, without_pick node h) ∷ [] → IsTurn k.threads u
    → Allows (IsOrdered k) slots id m1 1 (λ _. 0) (λ _. Returns u node (step slots 1 0 0 none) m1 0)
returns_from k slots id m m1 h u node is view slot turn =
    let e : m1 ≡ (m.0, (0, without_pick node h) ∷ []) = λ i. (view i, slot i) in
    subst (λ (z : Sitting). Allows (IsOrdered k) slots id z 1 (λ _. 0) (λ _. Returns u node (step slots 1 0 0 none) z 0)) (sym e) (returns_line k slots id m.0 h is.hand u node (without_pick node h) turn refl)

pub holds_filled : (m m1 : Sitting) → (f : IsFilled m m1) → Holds f.stand m1
holds_filled m m1 f = record { slot = ap (λ (z : Sitting). z.1) f.now; hand = ap (λ (z : Sitting). z.0.hand) f.now }

-- ---- the whole of `next`

pub next_told : (table : TableId) (id number : ℕ) (m m1 m2 m3 : Sitting) (u : Turn) (node : ℕ) (a : Option Turn) (t : IsTaken m m1) (f : IsFilled m1 m2) → a ≡ pick_of node f.stand → m3 ≡ (did_next u node f.stand m2.0, [])
    → DidNext u node a (seat_view table id number m.0) (seat_view table id number m3.0)
next_told table id number m m1 m2 m3 u node a t f answer now =
    let call : List LineStep = Next u node a ∷ [] in
    let v2 : m2.0 ≡ with_hand (Some f.stand) (with_all f.reads (with_hand (Some t.stand) (with_all t.tries m.0))) =
    ap (λ (z : Sitting). z.0) f.now ∙ ap (λ (z : Sitting). with_hand (Some f.stand) (with_all f.reads z.0)) t.now in
    let v3 : m3.0 ≡ with_hand None (with_all call (with_all f.reads (with_all t.tries m.0))) =
    ap (λ (z : Sitting). z.0) now ∙ (λ i. with_hand None (with_call (v2 i) (Next u node (sym answer i)))) in
    let calls : ((m.0.calls ++ t.tries) ++ f.reads) ++ call ≡ m.0.calls ++ (t.tries ++ (f.reads ++ call)) = append_assoc (m.0.calls ++ t.tries) f.reads call ∙ append_assoc m.0.calls t.tries (f.reads ++ call) in
    record {
      tries = t.tries;
      found = f.found;
      reads = f.reads;
      stand = f.stand;
      tried = t.tried;
      did_read = f.did_read;
      own = subst (λ (z : Sitting). IsLineFor z.0.threads z.0.bound f.stand.line) t.now f.line;
      answered = answer;
      list = ap (λ (v : Known). seat_view table id number v) v3 ∙ (λ i. record { table = table; id = id; threads = m.0.threads; bound = m.0.bound; node = number; calls = calls i });
    }

first_turn : (n node : ℕ) (ws : List Waiter) (u : Turn) → AreTurns n ws → first_of node ws ≡ Some u → IsTurn n u
first_turn n node [] u are e = absurd (cc e)
first_turn n node (w ∷ ws) u are e = by_test (w.node == node) (first_turn n node ws u are.1) e
  where
    by_test : (b : Bool) → (first_of node ws ≡ Some u → IsTurn n u) → cond b (Some w.turn) (first_of node ws) ≡ Some u → IsTurn n u
    by_test true rest said = let same : w.turn ≡ u = cc said in subst (IsTurn n) same are.0
    by_test false rest said = rest said

pub picked_turn : (n bound node : ℕ) (ws : List Waiter) (u : Turn) → AreTurns n ws → picked bound node ws ≡ Some u → IsTurn n u
picked_turn n bound node [] u are e = absurd (cc e)
picked_turn n bound node (o ∷ ws) u are e = by_test (o.passes == bound) (first_of node (o ∷ ws)) refl e
  where
    by_test : (b : Bool) (z : Option Turn) → first_of node (o ∷ ws) ≡ z → cond b (Some o.turn) (or_else z o.turn) ≡ Some u → IsTurn n u
    by_test true z is said = let same : o.turn ≡ u = cc said in subst (IsTurn n) same are.0
    by_test false None is said = let same : o.turn ≡ u = cc said in subst (IsTurn n) same are.0
    by_test false (Some x) is said = first_turn n node (o ∷ ws) u are (is ∙ said)

-- ---- the other ways to put it back

pub stays_from : (k : NodeTerms) (slots id : ℕ) (m : Sitting) (h : Stand) (u : Turn) → Holds h m → h.line.waiting ≢ [] → IsTurn k.threads u
    → Allows (IsOrdered k) slots id m 1 (λ _. 0) (λ _. Stays u (step slots 1 0 0 none) m 0)
stays_from k slots id m h u is some_one turn =
    subst (λ (l : List (ℕ × Stand)). Allows (IsOrdered k) slots id (m.0, l) 1 (λ _. 0) (λ _. Stays u (step slots 1 0 0 none) (m.0, l) 0)) (sym is.slot) (stays_line k slots id m.0 h is.hand u h turn refl some_one)

pub puts_back_from : (k : NodeTerms) (slots id : ℕ) (m : Sitting) (h : Stand) → Holds h m → Allows (IsOrdered k) slots id m 1 (λ _. 0) (λ _. PutsBack (step slots 1 0 0 none) m 0)
puts_back_from k slots id m h is =
    subst (λ (l : List (ℕ × Stand)). Allows (IsOrdered k) slots id (m.0, l) 1 (λ _. 0) (λ _. PutsBack (step slots 1 0 0 none) (m.0, l) 0)) (sym is.slot) (puts_back k slots id m.0 h is.hand h refl)

-- ---- the whole of `leave`

pub exchanged : (m m1 m2 : Sitting) (h : Stand) (u : Turn) (answer : Departure) (found : ℕ) → Holds h m → h.line.waiting ≡ [] → answer ≡ answer_to_leave found h → m1 ≡ (did_leave u (answer_to_leave found h) h m.0, m.1)
    → m2.0 ≡ m1.0 → m2.1 ≡ (0, stand_left answer h) ∷ [] → DidExchange u answer m m2
exchanged m m1 m2 h u answer found is none_waits answered now view slot = record {
  stand = h;
  was = is;
  none_waits = none_waits;
  found = found;
  answered = answered;
  now = λ i. ((view ∙ (ap (λ (z : Sitting). z.0) now ∙ ap (λ (d : Departure). did_leave u d h m.0) (sym answered))) i, slot i);
}

pub holds_exchanged : (u : Turn) (answer : Departure) (m m1 : Sitting) → (d : DidExchange u answer m m1) → Holds (stand_left answer d.stand) m1
holds_exchanged u answer m m1 d = record { slot = ap (λ (z : Sitting). z.1) d.now; hand = ap (λ (z : Sitting). z.0.hand) d.now }

pub leave_told : (table : TableId) (id number : ℕ) (m m1 m2 m3 : Sitting) (u : Turn) (answer : Departure) (t : IsTaken m m1) (d : DidExchange u answer m1 m2) → m3 ≡ (did_put_back m2.0, []) → DidLeave u answer (seat_view table id number m.0) (seat_view table id number m3.0)
leave_told table id number m m1 m2 m3 u answer t d now =
    let v3 : m3.0 ≡ with_hand None (with_all (Back ∷ []) (with_all (Leave u answer ∷ []) (with_all t.tries m.0))) =
    ap (λ (z : Sitting). z.0) now ∙ (ap (λ (z : Sitting). did_put_back z.0) d.now ∙ ap (λ (z : Sitting). with_hand None (with_call (with_call z.0 (Leave u answer)) Back)) t.now) in
    let calls : ((m.0.calls ++ t.tries) ++ Leave u answer ∷ []) ++ Back ∷ [] ≡ m.0.calls ++ (t.tries ++ Leave u answer ∷ Back ∷ []) = append_assoc (m.0.calls ++ t.tries) (Leave u answer ∷ []) (Back ∷ []) ∙ append_assoc m.0.calls t.tries (Leave u answer ∷ Back ∷ []) in
    record {
      tries = t.tries;
      tried = t.tried;
      did = Exchanged d.found d.stand d.none_waits d.answered (ap (λ (v : Known). seat_view table id number v) v3 ∙ (λ i. record { table = table; id = id; threads = m.0.threads; bound = m.0.bound; node = number; calls = calls i }));
    }
