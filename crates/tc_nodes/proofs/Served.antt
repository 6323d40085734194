-- Who is served, over the one order of all steps: the picks of the definition, and where nobody is preferred those who were read first.
use Rattle.std.proofs.Common.{◌≡◌, ◌≢◌, ◌⊎◌, ℕ, ◌==◌, ◌%◌, Bool, true, false, cond, List, [], ◌∷◌, ◌++◌, map, sym, refl, ap, ◌∙◌, subst, inl, inr, append_assoc, append-nil, arith, Option, Some, None, eq-eqb}
use Rattle.std.proofs.lemmas.List.{map-append}
use Rattle.std.proofs.lemmas.List.Elements.{All-tail}
use Rattle.std.proofs.lemmas.Option.{none-some, same_Some}
use Rattle.tc_queue.specs.declared.turn.Turn.{Turn}
use Rattle.tc_queue.specs.declared.turn.Departure.TheVariants.{Left, Followed}
use Rattle.tc_nodes.specs.declared.line.Waiter.{Waiter}
use Rattle.tc_nodes.specs.declared.cells.Placed.{Placed}
use Rattle.tc_nodes.specs.declared.picks.Op.{Op}
use Rattle.tc_nodes.specs.declared.picks.Op.TheVariants.{Arrive, Pick}
use Rattle.tc_nodes.specs.declared.step.LineStep.{LineStep}
use Rattle.tc_nodes.specs.declared.step.LineStep.TheVariants.{Enter, Link, Take, Read, Next, Stay, Leave, Back}
use Rattle.tc_nodes.specs.declared.board.Stand.{Stand}
use Rattle.tc_nodes.specs.declared.board.NodeTerms.{NodeTerms}
use Rattle.tc_nodes.specs.Line.{is_turn, is_refused, newcomer, line_without, line_after, with_waiting, picked, passed_over, first_of, or_else, IsSteady}
use Rattle.tc_nodes.specs.Picks.{arrivals, has_come, picks, arriving, HaveComeOnce}
use Rattle.tc_nodes.specs.Order.{Plain, Made, plain_after, queue_after, calls_of, MayCome, IsLegal, takes_in, stand_after, pick_of, with_cell}
use Rattle.tc_nodes.specs.Served.{op_of, ops_of, answer_of, answers_of, served, RefusesNone, AreOnNode, KeepsPicks}
use Rattle.tc_nodes.proofs.Turns.{turn_self, new_one}
use Rattle.tc_nodes.proofs.Past.{line_of, line_arrived}
use Rattle.tc_nodes.proofs.Ran.{history_more, arrivals_after, is_past, once_before, arriving-append, past_of, line_of_ops, gives, adds_none}
use Rattle.tc_nodes.proofs.Sound.{sound_after}

-- what was read was taken in
pub let_in : (u : Turn) (node : ℕ) (h : Stand) (number : ℕ) (took : Bool) → took ≡ takes_in (Some (record { turn = u; node = node })) h
    → ((n : ℕ) (p : Placed) → Read number (Some (record { turn = u; node = node })) took ≢ Read n (Some p) false) → (stand_after (Some (record { turn = u; node = node })) h).line.waiting ≡ h.line.waiting ++ newcomer u node ∷ []
let_in u node h number took said none = by_test (is_refused u h.line) said
  where
    c : Placed
    c = record { turn = u; node = node }

    by_test : (b : Bool) → took ≡ cond b false true → (cond b h.line (with_waiting (h.line.waiting ++ newcomer u node ∷ []) h.line)).waiting ≡ h.line.waiting ++ newcomer u node ∷ []
    by_test true wrong = absurd (none number c (ap (Read number (Some c)) wrong))
    by_test false right = refl

-- ---- the picks of the definition

-- the line is the one that the operations leave, and these are their picks
abbrev pub Says : ℕ → List Op → List Waiter → List (Option Turn) → Type 0
Says most ops ws given = (ws ≡ line_of_ops most ops) × (given ≡ picks most ops)

none_more : (most : ℕ) (ops : List Op) (ws : List Waiter) (given : List (Option Turn)) → Says most ops ws given → Says most (ops ++ []) ws (given ++ [])
none_more most ops ws given is = (is.0 ∙ ap (line_of_ops most) (sym (append-nil ops)), append-nil given ∙ (is.1 ∙ ap (picks most) (sym (append-nil ops))))

one_arrives : (most : ℕ) (ops : List Op) (u : Turn) (node : ℕ) (ws : List Waiter) (given : List (Option Turn)) → HaveComeOnce (arriving (ops ++ Arrive u node ∷ [])) → Says most ops ws given
    → Says most (ops ++ Arrive u node ∷ []) (ws ++ newcomer u node ∷ []) (given ++ [])
one_arrives most ops u node ws given once is =
    let new : has_come u (arrivals (past_of most ops)) ≡ false = ap (has_come u) (arrivals_after most [] ops) ∙ new_one (arriving ops) (record { turn = u; node = node }) [] (subst HaveComeOnce (arriving-append ops (Arrive u node ∷ [])) once) in (
      ap (λ (l : List Waiter). l ++ newcomer u node ∷ []) is.0
          ∙ (sym (line_arrived most (past_of most ops) u node (is_past most ops (once_before ops (Arrive u node ∷ []) once)) new)
          ∙ ap line_of (sym (history_more most [] ops (Arrive u node)))),
      append-nil given ∙ (is.1 ∙ sym (adds_none most ops u node)),
    )

one_picked : (most : ℕ) (ops : List Op) (node : ℕ) (a : Option Turn) (ws : List Waiter) (given : List (Option Turn)) → HaveComeOnce (arriving ops) → a ≡ picked most node ws → Says most ops ws given
    → Says most (ops ++ Pick node ∷ []) (line_after a ws) (given ++ a ∷ [])
one_picked most ops node a ws given once said is =
    let g = gives most ops node a once (said ∙ ap (picked most node) is.0) in (
      ap (line_after a) is.0 ∙ ap (λ l. l.waiting) g.0,
      ap (λ (l : List (Option Turn)). l ++ a ∷ []) is.1 ∙ sym g.1,
    )

says_after : (k : NodeTerms) (order : List Made) → IsLegal k order → RefusesNone order → HaveComeOnce (arriving (ops_of order)) → Says k.bound (ops_of order) (queue_after k order).stand.line.waiting (answers_of order)
says_after k [] legal takes once = (refl, refl)
says_after k (m ∷ before) legal takes once =
    by_call m.call legal.0 (takes 0 m (omega arith)) once
    (says_after k before legal.1 (All-tail (λ (n : Made). (number : ℕ) (p : Placed) → n.call ≢ Read number (Some p) false) m before takes) (once_before (ops_of before) (op_of m.call) once))
  where
    most : ℕ
    most = k.bound

    q : Plain
    q = queue_after k before

    bound_is : q.stand.line.bound ≡ most
    bound_is = (sound_after k before legal.1).line.of_bound

    ops : List Op
    ops = ops_of before

    given : List (Option Turn)
    given = answers_of before

    by_call : (c : LineStep) → MayCome k q m.seat (calls_of m.seat before) c → ((number : ℕ) (p : Placed) → c ≢ Read number (Some p) false) → HaveComeOnce (arriving (ops ++ op_of c)) → Says most ops q.stand.line.waiting given
        → Says most (ops ++ op_of c) (plain_after q m.seat c).stand.line.waiting (given ++ answer_of c)
    by_call (Enter u a) may none apart is = none_more most ops q.stand.line.waiting given is
    by_call (Link place u node) may none apart is = none_more most ops q.stand.line.waiting given is
    by_call (Take true) may none apart is = none_more most ops q.stand.line.waiting given is
    by_call (Take false) may none apart is = none_more most ops q.stand.line.waiting given is
    by_call (Read number None took) may none apart is = none_more most ops q.stand.line.waiting given is
    by_call (Read number (Some p) took) may none apart is =
        subst (λ (l : List Waiter). Says most (ops ++ Arrive p.turn p.node ∷ []) l (given ++ [])) (sym (let_in p.turn p.node q.stand number took may.3 none)) (one_arrives most ops p.turn p.node q.stand.line.waiting given apart is)
    by_call (Next u node a) may none apart is =
        let said : a ≡ picked most node q.stand.line.waiting = may.2 ∙ ap (λ (b : ℕ). picked b node q.stand.line.waiting) bound_is in
        subst (λ (z : Option Turn). Says most (ops ++ Pick node ∷ []) (line_after z q.stand.line.waiting) (given ++ a ∷ [])) may.2
        (one_picked most ops node a q.stand.line.waiting given (once_before ops (Pick node ∷ []) apart) said is)
    by_call (Stay u) may none apart is = none_more most ops q.stand.line.waiting given is
    by_call (Leave u Left) may none apart is = none_more most ops q.stand.line.waiting given is
    by_call (Leave u Followed) may none apart is = none_more most ops q.stand.line.waiting given is
    by_call Back may none apart is = none_more most ops q.stand.line.waiting given is

pub keeps_picks : KeepsPicks
keeps_picks k s r takes once = (says_after k r.order r.legal takes once).1

-- ---- where nobody is preferred

-- all wait on one node
abbrev pub WaitOn : ℕ → List Waiter → Type 0
WaitOn n [] = Unit {0}
WaitOn n (w ∷ ws) = (w.node ≡ n) × WaitOn n ws

wait_more : (n : ℕ) (u : Turn) (node : ℕ) (ws : List Waiter) → WaitOn n ws → node ≡ n → WaitOn n (ws ++ newcomer u node ∷ [])
wait_more n u node [] are is = (is, tt)
wait_more n u node (w ∷ ws) are is = (are.0, wait_more n u node ws are.1 is)

wait_without : (n : ℕ) (u : Turn) (ws : List Waiter) → WaitOn n ws → WaitOn n (line_without u ws)
wait_without n u [] are = tt
wait_without n u (w ∷ ws) are = by_test (is_turn u w.turn) (wait_without n u ws are.1)
  where
    by_test : (b : Bool) → WaitOn n (line_without u ws) → WaitOn n (cond b ws (passed_over w ∷ line_without u ws))
    by_test true rest = are.1
    by_test false rest = (are.0, rest)

wait_after : (n : ℕ) (a : Option Turn) (ws : List Waiter) → WaitOn n ws → WaitOn n (line_after a ws)
wait_after n None ws are = are
wait_after n (Some u) ws are = wait_without n u ws are

wait_read : (n : ℕ) (found : Option Placed) (h : Stand) → ((p : Placed) → found ≡ Some p → p.node ≡ n) → WaitOn n h.line.waiting → WaitOn n (stand_after found h).line.waiting
wait_read n None h is are = are
wait_read n (Some p) h is are = by_test (is_refused p.turn h.line)
  where
    by_test : (b : Bool) → WaitOn n (cond b h.line (with_waiting (h.line.waiting ++ newcomer p.turn p.node ∷ []) h.line)).waiting
    by_test true = are
    by_test false = wait_more n p.turn p.node h.line.waiting are (is p refl)

-- the cells and the line have turns of one node alone
pub record IsOn (n : ℕ) (q : Plain) : Type 0 where
  pub cells : (j : ℕ) (p : Placed) → q.cells j ≡ Some p → p.node ≡ n
  pub waiting : WaitOn n q.stand.line.waiting

cell_on : (n : ℕ) (q : Plain) (i : ℕ) (c : Option Placed) → ((j : ℕ) (p : Placed) → q.cells j ≡ Some p → p.node ≡ n) → ((p : Placed) → c ≡ Some p → p.node ≡ n) → (j : ℕ) (p : Placed) → (with_cell i c q).cells j ≡ Some p → p.node ≡ n
cell_on n q i c all is j = by_test (j == i)
  where
    by_test : (b : Bool) (p : Placed) → cond b c (q.cells j) ≡ Some p → p.node ≡ n
    by_test true = is
    by_test false = all j

pub on_after : (n : ℕ) (k : NodeTerms) (order : List Made) → IsLegal k order → AreOnNode n order → IsOn n (queue_after k order)
on_after n k [] legal on = record { cells = λ j p e. absurd (none-some p e); waiting = tt }
on_after n k (m ∷ before) legal on = by_call m.call legal.0 (on 0 m (omega arith)) (on_after n k before legal.1 (All-tail (λ (x : Made). (place other : ℕ) (u : Turn) → x.call ≡ Link place u other → other ≡ n) m before on))
  where
    q : Plain
    q = queue_after k before

    by_call : (c : LineStep) → MayCome k q m.seat (calls_of m.seat before) c → ((place other : ℕ) (u : Turn) → c ≡ Link place u other → other ≡ n) → IsOn n q → IsOn n (plain_after q m.seat c)
    by_call (Enter u a) may here is = record { cells = is.cells; waiting = is.waiting }
    by_call (Link place u node) may here is = record {
      cells = cell_on n q (place % 64) _ is.cells (λ p e. subst (λ (d : Placed). d.node ≡ n) (same_Some _ p e) (here place node u refl));
      waiting = is.waiting;
    }
    by_call (Take true) may here is = record { cells = is.cells; waiting = is.waiting }
    by_call (Take false) may here is = is
    by_call (Read number found took) may here is = record {
      cells = cell_on n q (number % 64) None is.cells (λ p e. absurd (none-some p e));
      waiting = wait_read n found q.stand (λ p e. is.cells (number % 64) p (sym may.2 ∙ e)) is.waiting;
    }
    by_call (Next u node a) may here is = record { cells = is.cells; waiting = wait_after n (pick_of node q.stand) q.stand.line.waiting is.waiting }
    by_call (Stay u) may here is = record { cells = is.cells; waiting = is.waiting }
    by_call (Leave u Left) may here is = record { cells = is.cells; waiting = is.waiting }
    by_call (Leave u Followed) may here is = record { cells = is.cells; waiting = is.waiting }
    by_call Back may here is = record { cells = is.cells; waiting = is.waiting }

-- of those on one node another node has no first one
none_of : (n node : ℕ) (ws : List Waiter) → WaitOn n ws → (n == node) ≡ false → first_of node ws ≡ None
none_of n node [] are other = refl
none_of n node (w ∷ ws) are other = ap (λ (b : Bool). cond b (Some w.turn) (first_of node ws)) (ap (λ (x : ℕ). x == node) are.0 ∙ other) ∙ none_of n node ws are.1 other

-- so the oldest of them is picked
first_on : (most n node : ℕ) (o : Waiter) (ws : List Waiter) → WaitOn n (o ∷ ws) → picked most node (o ∷ ws) ≡ Some o.turn
first_on most n node o ws are = by_full (o.passes == most)
  where
    first : (b : Bool) → (n == node) ≡ b → or_else (first_of node (o ∷ ws)) o.turn ≡ Some o.turn
    first true same = ap (λ (b : Bool). or_else (cond b (Some o.turn) (first_of node ws)) o.turn) (ap (λ (x : ℕ). x == node) are.0 ∙ same)
    first false other = ap (λ (z : Option Turn). or_else z o.turn) (none_of n node (o ∷ ws) are other)

    by_full : (b : Bool) → cond b (Some o.turn) (or_else (first_of node (o ∷ ws)) o.turn) ≡ Some o.turn
    by_full true = refl
    by_full false = first (n == node) refl

-- and so it is where nobody may be passed over
first_at_zero : (node : ℕ) (o : Waiter) (ws : List Waiter) → IsSteady 0 (o ∷ ws) → picked 0 node (o ∷ ws) ≡ Some o.turn
first_at_zero node o ws steady = ap (λ (b : Bool). cond b (Some o.turn) (or_else (first_of node (o ∷ ws)) o.turn)) (eq-eqb o.passes 0 (let p = steady.0 in omega arith))

-- the oldest of those that wait is picked, on whatever node
abbrev pub PicksOldest : ℕ → List Waiter → Type 0
PicksOldest most ws = (node : ℕ) (o : Waiter) (rest : List Waiter) → ws ≡ o ∷ rest → picked most node ws ≡ Some o.turn

abbrev pub turns_of : List Waiter → List Turn
turns_of ws = map (λ (w : Waiter). w.turn) ws

served-append : (xs ys : List (Option Turn)) → served (xs ++ ys) ≡ served xs ++ served ys
served-append [] ys = refl
served-append (None ∷ xs) ys = served-append xs ys
served-append (Some u ∷ xs) ys = ap (λ (l : List Turn). u ∷ l) (served-append xs ys)

-- those who were read are those who were served, and behind them those who wait
abbrev pub IsServed : List Op → List Waiter → List (Option Turn) → Type 0
IsServed ops ws given = map (λ (p : Placed). p.turn) (arriving ops) ≡ served given ++ turns_of ws

served_same : (ops : List Op) (ws : List Waiter) (given : List (Option Turn)) → IsServed ops ws given → IsServed (ops ++ []) ws (given ++ [])
served_same ops ws given is = ap (λ (l : List Op). map (λ (p : Placed). p.turn) (arriving l)) (append-nil ops) ∙ (is ∙ ap (λ (l : List (Option Turn)). served l ++ turns_of ws) (sym (append-nil given)))

served_read : (ops : List Op) (u : Turn) (node : ℕ) (ws : List Waiter) (given : List (Option Turn)) → IsServed ops ws given → IsServed (ops ++ Arrive u node ∷ []) (ws ++ newcomer u node ∷ []) (given ++ [])
served_read ops u node ws given is =
    ap (map (λ (p : Placed). p.turn)) (arriving-append ops (Arrive u node ∷ []))
    ∙ (map-append (λ (p : Placed). p.turn) (arriving ops) (record { turn = u; node = node } ∷ [])
    ∙ (ap (λ (l : List Turn). l ++ u ∷ []) is
    ∙ (append_assoc (served given) (turns_of ws) (u ∷ [])
    ∙ (λ i. served (sym (append-nil given) i) ++ sym (map-append (λ (w : Waiter). w.turn) ws (newcomer u node ∷ [])) i))))

served_picked : (most : ℕ) (ops : List Op) (node : ℕ) (ws : List Waiter) (given : List (Option Turn)) → PicksOldest most ws → IsServed ops ws given
    → IsServed (ops ++ Pick node ∷ []) (line_after (picked most node ws) ws) (given ++ picked most node ws ∷ [])
served_picked most ops node [] given oldest is =
    ap (map (λ (p : Placed). p.turn)) (arriving-append ops (Pick node ∷ []) ∙ append-nil (arriving ops))
    ∙ (is ∙ ap (λ (l : List Turn). l ++ []) (sym (served-append given (None ∷ []) ∙ append-nil (served given))))
served_picked most ops node (o ∷ ws) given oldest is =
    subst (λ (a : Option Turn). IsServed (ops ++ Pick node ∷ []) (line_after a (o ∷ ws)) (given ++ a ∷ [])) (sym (oldest node o ws refl))
    (ap (map (λ (p : Placed). p.turn)) (arriving-append ops (Pick node ∷ []) ∙ append-nil (arriving ops))
    ∙ (is
    ∙ (sym (append_assoc (served given) (o.turn ∷ []) (turns_of ws))
    ∙ (λ i. sym (served-append given (Some o.turn ∷ [])) i ++ turns_of (cond (sym (turn_self o.turn) i) ws (passed_over o ∷ line_without o.turn ws))))))

-- a step more
served_step : (k : NodeTerms) (q : Plain) (seat : ℕ) (calls : List LineStep) (ops : List Op) (given : List (Option Turn)) → q.stand.line.bound ≡ k.bound → PicksOldest k.bound q.stand.line.waiting
    → (c : LineStep) → MayCome k q seat calls c → ((number : ℕ) (p : Placed) → c ≢ Read number (Some p) false) → IsServed ops q.stand.line.waiting given
    → IsServed (ops ++ op_of c) (plain_after q seat c).stand.line.waiting (given ++ answer_of c)
served_step k q seat calls ops given of oldest (Read number (Some p) took) may none is =
    subst (λ (l : List Waiter). IsServed (ops ++ Arrive p.turn p.node ∷ []) l (given ++ [])) (sym (let_in p.turn p.node q.stand number took may.3 none)) (served_read ops p.turn p.node q.stand.line.waiting given is)
served_step k q seat calls ops given of oldest (Next u node a) may none is =
    let ws : List Waiter = q.stand.line.waiting in
    let said : a ≡ picked k.bound node ws = may.2 ∙ ap (λ (b : ℕ). picked b node ws) of in
    subst (λ (z : Option Turn). IsServed (ops ++ Pick node ∷ []) (line_after z ws) (given ++ a ∷ [])) may.2
    (subst (λ (z : Option Turn). IsServed (ops ++ Pick node ∷ []) (line_after z ws) (given ++ z ∷ [])) (sym said) (served_picked k.bound ops node ws given oldest is))
served_step k q seat calls ops given of oldest (Enter u a) may none is = served_same ops q.stand.line.waiting given is
served_step k q seat calls ops given of oldest (Link place u node) may none is = served_same ops q.stand.line.waiting given is
served_step k q seat calls ops given of oldest (Take true) may none is = served_same ops q.stand.line.waiting given is
served_step k q seat calls ops given of oldest (Take false) may none is = served_same ops q.stand.line.waiting given is
served_step k q seat calls ops given of oldest (Read number None took) may none is = served_same ops q.stand.line.waiting given is
served_step k q seat calls ops given of oldest (Stay u) may none is = served_same ops q.stand.line.waiting given is
served_step k q seat calls ops given of oldest (Leave u Left) may none is = served_same ops q.stand.line.waiting given is
served_step k q seat calls ops given of oldest (Leave u Followed) may none is = served_same ops q.stand.line.waiting given is
served_step k q seat calls ops given of oldest Back may none is = served_same ops q.stand.line.waiting given is

pub served_after : (k : NodeTerms) (order : List Made) → IsLegal k order → RefusesNone order → ((before after : List Made) → order ≡ after ++ before → PicksOldest k.bound (queue_after k before).stand.line.waiting)
    → IsServed (ops_of order) (queue_after k order).stand.line.waiting (answers_of order)
served_after k [] legal takes oldest = refl
served_after k (m ∷ before) legal takes oldest =
    served_step k (queue_after k before) m.seat (calls_of m.seat before) (ops_of before) (answers_of before) (sound_after k before legal.1).line.of_bound (oldest before (m ∷ []) refl) m.call legal.0 (takes 0 m (omega arith))
    (served_after k before legal.1 (All-tail (λ (n : Made). (number : ℕ) (p : Placed) → n.call ≢ Read number (Some p) false) m before takes) (λ lower upper e. oldest lower (m ∷ upper) (ap (λ (l : List Made). m ∷ l) e)))

-- where the bound is 0, or all are on one node
pub oldest_after : (k : NodeTerms) (order : List Made) → IsLegal k order → (k.bound ≡ 0) ⊎ ((node : ℕ) × AreOnNode node order) → PicksOldest k.bound (queue_after k order).stand.line.waiting
oldest_after k order legal (inl zero_bound) node o rest e =
    let steady = (sound_after k order legal).line.steady in
    subst (λ (b : ℕ). picked b node (queue_after k order).stand.line.waiting ≡ Some o.turn) (sym zero_bound)
    (ap (picked 0 node) e ∙ first_at_zero node o rest (subst (IsSteady 0) e (subst (λ (b : ℕ). IsSteady b (queue_after k order).stand.line.waiting) zero_bound steady)))
oldest_after k order legal (inr on) node o rest e =
    ap (picked k.bound node) e ∙ first_on k.bound on.0 node o rest (subst (WaitOn on.0) e (on_after on.0 k order legal on.1).waiting)
