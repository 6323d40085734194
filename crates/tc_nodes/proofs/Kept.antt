-- No turn that the line took in is lost.
use Rattle.std.proofs.Common.{◌≡◌, ◌⊎◌, ℕ, ◌≤◌, ◌==◌, ◌||◌, Bool, true, false, cond, List, [], ◌∷◌, ◌++◌, length, sym, refl, ap, ◌∙◌, subst, ⊎_elim, inl, inr, arith, lt_of_not-le, Option, Some, None, eq-eqb}
use Rattle.std.proofs.lemmas.Bool.{or_left, or_right}
use mathlib.Core.Logic.{dite}
use mathlib.Core.Option.{some, some-injective, some-ne-none}
use native.Mathlib.Decide.{dec_le}
use lib.ListN.{get_elem?}
use Rattle.atomic_table.specs.Table.{State}
use Rattle.atomic_table.proofs.Lists.{at_longer, at_snoc, at_last}
use Rattle.tc_queue.specs.declared.turn.Turn.{Turn}
use Rattle.tc_queue.specs.declared.turn.Departure.TheVariants.{Left, Followed}
use Rattle.tc_nodes.specs.declared.line.Waiter.{Waiter}
use Rattle.tc_nodes.specs.declared.cells.Placed.{Placed}
use Rattle.tc_nodes.specs.declared.step.LineStep.{LineStep}
use Rattle.tc_nodes.specs.declared.step.LineStep.TheVariants.{Enter, Link, Take, Read, Next, Stay, Leave, Back}
use Rattle.tc_nodes.specs.declared.board.Stand.{Stand}
use Rattle.tc_nodes.specs.declared.board.NodeTerms.{NodeTerms}
use Rattle.tc_nodes.specs.declared.board.Known.{Known}
use Rattle.tc_nodes.specs.Line.{IsSteady, is_turn, has_turn, is_refused, newcomer, line_without, line_after, passed_over, with_waiting}
use Rattle.tc_nodes.specs.Order.{Plain, Made, plain_after, queue_after, calls_of, MayCome, IsLegal, takes_in, stand_after, pick_of, slot_of, IsOrdered}
use Rattle.tc_nodes.specs.Laws.{IsAnswered, KeepsTurns, KeepsBound}
use Rattle.tc_nodes.proofs.Sound.{sound_after}
use Rattle.tc_nodes.proofs.Stepping.{no_calls}
use Rattle.tc_nodes.proofs.Turns.{falsely, turn_self, turn_same}
use Rattle.tc_lemmas.proofs.Lists.{something_at}

-- some `next` answered u
abbrev pub WasAnswered : List Made → Turn → Type 0
WasAnswered order u = (id : ℕ) × (i : ℕ) × (own : Turn) × (node : ℕ) × (get_elem? (calls_of id order) i ≡ some (Next own node (Some u)))

still_answered : (m : Made) (before : List Made) (u : Turn) → WasAnswered before u → WasAnswered (m ∷ before) u
still_answered m before u was = (was.0, was.1, was.2, was.3, by_seat (m.seat == was.0))
  where
    by_seat : (b : Bool) → get_elem? (cond b (calls_of was.0 before ++ m.call ∷ []) (calls_of was.0 before)) was.1 ≡ some (Next was.2 was.3 (Some u))
    by_seat true = at_longer (calls_of was.0 before) (m.call ∷ []) was.1 (Next was.2 was.3 (Some u)) was.4
    by_seat false = was.4

now_answered : (m : Made) (before : List Made) (own : Turn) (node : ℕ) (u : Turn) → m.call ≡ Next own node (Some u) → WasAnswered (m ∷ before) u
now_answered m before own node u is = (
  m.seat,
  length (calls_of m.seat before),
  own,
  node,
  ap (λ (b : Bool). get_elem? (cond b (calls_of m.seat before ++ m.call ∷ []) (calls_of m.seat before)) (length (calls_of m.seat before))) (eq-eqb m.seat m.seat refl)
      ∙ (at_last (calls_of m.seat before) m.call (length (calls_of m.seat before)) refl ∙ ap some is),
)

-- ---- the line

has_more : (u x : Turn) (node : ℕ) (ws : List Waiter) → has_turn u ws ≡ true → has_turn u (ws ++ newcomer x node ∷ []) ≡ true
has_more u x node [] e = absurd (falsely (sym e))
has_more u x node (w ∷ ws) e = by_test (is_turn u w.turn) (has_more u x node ws) e
  where
    by_test : (b : Bool) → (has_turn u ws ≡ true → has_turn u (ws ++ newcomer x node ∷ []) ≡ true) → (b || has_turn u ws) ≡ true → (b || has_turn u (ws ++ newcomer x node ∷ [])) ≡ true
    by_test true more e' = refl
    by_test false more e' = more e'

has_new : (u : Turn) (node : ℕ) (ws : List Waiter) → has_turn u (ws ++ newcomer u node ∷ []) ≡ true
has_new u node [] = or_left (is_turn u u) false (turn_self u)
has_new u node (w ∷ ws) = or_right (is_turn u w.turn) (has_turn u (ws ++ newcomer u node ∷ [])) (has_new u node ws)

-- who waited still waits after an arrival
still_there : (u : Turn) (found : Option Placed) (h : Stand) → has_turn u h.line.waiting ≡ true → has_turn u (stand_after found h).line.waiting ≡ true
still_there u None h e = e
still_there u (Some p) h e = by_test (is_refused p.turn h.line)
  where
    by_test : (b : Bool) → has_turn u (cond b h.line (with_waiting (h.line.waiting ++ newcomer p.turn p.node ∷ []) h.line)).waiting ≡ true
    by_test true = e
    by_test false = has_more u p.turn p.node h.line.waiting e

-- who was taken in waits
taken_in : (p : Placed) (h : Stand) → takes_in (Some p) h ≡ true → has_turn p.turn (stand_after (Some p) h).line.waiting ≡ true
taken_in p h e = by_test (is_refused p.turn h.line) e
  where
    by_test : (b : Bool) → cond b false true ≡ true → has_turn p.turn (cond b h.line (with_waiting (h.line.waiting ++ newcomer p.turn p.node ∷ []) h.line)).waiting ≡ true
    by_test true said = absurd (falsely (sym said))
    by_test false said = has_new p.turn p.node h.line.waiting

-- who waited was picked, or still waits
left_or_picked : (u x : Turn) (ws : List Waiter) → has_turn u ws ≡ true → (has_turn u (line_without x ws) ≡ true) ⊎ (u ≡ x)
left_or_picked u x [] e = absurd (falsely (sym e))
left_or_picked u x (w ∷ ws) e = by_own (is_turn u w.turn) refl (is_turn x w.turn) refl (left_or_picked u x ws) e
  where
    by_own : (b : Bool) → is_turn u w.turn ≡ b → (d : Bool) → is_turn x w.turn ≡ d → (has_turn u ws ≡ true → (has_turn u (line_without x ws) ≡ true) ⊎ (u ≡ x)) → (b || has_turn u ws) ≡ true → (has_turn u (cond d ws (passed_over w ∷ line_without x ws)) ≡ true) ⊎ (u ≡ x)
    by_own true is true is' later there = inr (turn_same u w.turn is ∙ sym (turn_same x w.turn is'))
    by_own true is false is' later there = inl (or_left (is_turn u w.turn) (has_turn u (line_without x ws)) is)
    by_own false is true is' later there = inl there
    by_own false is false is' later there = ⊎_elim (λ (h : has_turn u (line_without x ws) ≡ true). inl (or_right (is_turn u w.turn) (has_turn u (line_without x ws)) h)) (λ (h : u ≡ x). inr h) (later there)

-- ---- all steps

-- u waits, or was answered
abbrev pub IsKept : NodeTerms → List Made → Turn → Type 0
IsKept k order u = (has_turn u (queue_after k order).stand.line.waiting ≡ true) ⊎ WasAnswered order u

waits_on : (k : NodeTerms) (m : Made) (before : List Made) (u : Turn) → MayCome k (queue_after k before) m.seat (calls_of m.seat before) m.call → has_turn u (queue_after k before).stand.line.waiting ≡ true → IsKept k (m ∷ before) u
waits_on k m before u may e = by_call m.call refl may
  where
    q : Plain
    q = queue_after k before

    by_pick : (own : Turn) (node : ℕ) (a : Option Turn) → m.call ≡ Next own node a → (has_turn u (line_after a q.stand.line.waiting) ≡ true) ⊎ WasAnswered (m ∷ before) u
    by_pick own node None is = inl e
    by_pick own node (Some x) is = ⊎_elim (λ (h : has_turn u (line_without x q.stand.line.waiting) ≡ true). inl h) (λ (h : u ≡ x). inr (now_answered m before own node u (is ∙ ap (λ (z : Turn). Next own node (Some z)) (sym h)))) (left_or_picked u x q.stand.line.waiting e)

    by_call : (c : LineStep) → m.call ≡ c → MayCome k q m.seat (calls_of m.seat before) c → (has_turn u (plain_after q m.seat c).stand.line.waiting ≡ true) ⊎ WasAnswered (m ∷ before) u
    by_call (Enter x a) is may' = inl e
    by_call (Link place x node) is may' = inl e
    by_call (Take true) is may' = inl e
    by_call (Take false) is may' = inl e
    by_call (Read number found took_in) is may' = inl (still_there u found q.stand e)
    by_call (Next own node a) is may' = by_pick own node (pick_of node q.stand) (is ∙ ap (Next own node) may'.2)
    by_call (Stay x) is may' = inl e
    by_call (Leave x Left) is may' = inl e
    by_call (Leave x Followed) is may' = inl e
    by_call Back is may' = inl e

read_now : (k : NodeTerms) (m : Made) (before : List Made) (number : ℕ) (p : Placed) → IsLegal k (m ∷ before) → m.call ≡ Read number (Some p) true → IsKept k (m ∷ before) p.turn
read_now k m before number p legal is =
    let may = subst (MayCome k (queue_after k before) m.seat (calls_of m.seat before)) is legal.0 in
    inl (ap (λ (c : LineStep). has_turn p.turn (plain_after (queue_after k before) m.seat c).stand.line.waiting) is ∙ taken_in p (queue_after k before).stand (sym may.3))

pub kept : (k : NodeTerms) (order : List Made) (id i number : ℕ) (p : Placed) → IsLegal k order → get_elem? (calls_of id order) i ≡ some (Read number (Some p) true) → IsKept k order p.turn
kept k [] id i number p legal e = absurd (some-ne-none (Read number (Some p) true) (sym e))
kept k (m ∷ before) id i number p legal e = by_seat (m.seat == id) (kept k before id i number p legal.1) e
  where
    later : IsKept k before p.turn → IsKept k (m ∷ before) p.turn
    later earlier = ⊎_elim (λ (h : has_turn p.turn (queue_after k before).stand.line.waiting ≡ true). waits_on k m before p.turn legal.0 h) (λ (h : WasAnswered before p.turn). inr (still_answered m before p.turn h)) earlier

    by_seat : (b : Bool) → (get_elem? (calls_of id before) i ≡ some (Read number (Some p) true) → IsKept k before p.turn) → get_elem? (cond b (calls_of id before ++ m.call ∷ []) (calls_of id before)) i ≡ some (Read number (Some p) true) → IsKept k (m ∷ before) p.turn
    by_seat true earlier at = ⊎_elim (λ (h : get_elem? (calls_of id before) i ≡ some (Read number (Some p) true)). later (earlier h)) (λ (h : m.call ≡ Read number (Some p) true). read_now k m before number p legal h) (at_snoc (calls_of id before) m.call (Read number (Some p) true) i at)
    by_seat false earlier at = later (earlier at)

-- ---- the lists of the seats

-- who was answered has a seat whose list shows it
shown : (k : NodeTerms) (s : State Stand Known) (r : IsOrdered k s) (u : Turn) → WasAnswered r.order u → IsAnswered s.views u
shown k s r u was = dite (dec_le (length s.views) was.0)
    (λ (high : length s.views ≤ was.0).
    let none_made : calls_of was.0 r.order ≡ [] = no_calls was.0 r.order (λ j d h. let low = r.made j d h in omega arith) in
    absurd (some-ne-none (Next was.2 was.3 (Some u)) (sym (sym (ap (λ (l : List LineStep). get_elem? l was.1) none_made) ∙ was.4))))
    (λ low.
    let there = something_at s.views was.0 (lt_of_not-le low) in
    (was.0, there.0, was.1, was.2, was.3, there.1, ap (λ (v : Known). get_elem? v.calls was.1) (r.seats was.0 there.0 there.1) ∙ was.4))

home_stand : (o : Option ℕ) (g h : Stand) → slot_of o g ∷ [] ≡ some h ∷ [] → g ≡ h
home_stand None g h e = some-injective g h (cc e)
home_stand (Some id) g h e = absurd (some-ne-none h (sym (cc e)))

pub keeps_turns : KeepsTurns
keeps_turns k s h r home p (id, v, i, number, at, said) =
    let q = queue_after k r.order in
    let same : q.stand ≡ h = home_stand q.holder q.stand h (sym r.slot ∙ home) in
    ⊎_elim
    (λ (w : has_turn p.turn q.stand.line.waiting ≡ true). inl (ap (λ (g : Stand). has_turn p.turn g.line.waiting) (sym same) ∙ w))
    (λ (w : WasAnswered r.order p.turn). inr (shown k s r p.turn w))
    (kept k r.order id i number p r.legal (sym (ap (λ (z : Known). get_elem? z.calls i) (r.seats id v at)) ∙ said))

pub keeps_bound : KeepsBound
keeps_bound k s h r home =
    let q = queue_after k r.order in
    subst (λ (g : Stand). IsSteady k.bound g.line.waiting) (home_stand q.holder q.stand h (sym r.slot ∙ home)) (sound_after k r.order r.legal).line.steady
