-- A line over a whole list of operations.
use Rattle.std.proofs.Common.{◌≡◌, ℕ, ◌+◌, ◌<◌, ◌≤◌, ◌||◌, Bool, true, false, cond, List, [], ◌∷◌, ◌++◌, length, length-append, take, drop, get_or, take-append-drop, take_all, sym, refl, ap, ◌∙◌, subst, ⊎_elim, append_assoc, append-nil, arith, Option, Some, ne_eqb}
use Rattle.std.proofs.lemmas.List.{take_more}
use Rattle.std.proofs.lemmas.Bool.{or_left, or_right}
use mathlib.Core.Option.{some, some-ne-none}
use lib.ListN.{get_elem?}
use Rattle.tc_queue.specs.declared.turn.Turn.{Turn}
use Rattle.tc_nodes.specs.declared.line.Waiter.{Waiter}
use Rattle.tc_nodes.specs.declared.picks.Op.{Op}
use Rattle.tc_nodes.specs.declared.picks.Op.TheVariants.{Arrive, Pick}
use Rattle.tc_nodes.specs.declared.cells.Placed.{Placed}
use Rattle.tc_nodes.specs.Line.{LineView, has_turn, is_refused, arrived, picked, newcomer, line_after, with_waiting}
use Rattle.tc_nodes.specs.Picks.{Did, Arrived, Answered, arrivals, has_come, is_it, is_answered, waits, passes, answer, after_op, history, answers, picks, arriving, HaveComeOnce, IsOnce, IsBounded}
use Rattle.tc_nodes.proofs.Turns.{falsely, turn_self, once_front, new_one}
use Rattle.tc_nodes.proofs.Past.{IsPast, line_of, picked_is, answer_awaits, line_arrived, line_answered, new_in_line, few_rows, steady_past, row_bound}
use Rattle.tc_lemmas.proofs.Lists.{at_end}

pub arriving-append : (xs ys : List Op) → arriving (xs ++ ys) ≡ arriving xs ++ arriving ys
arriving-append [] ys = refl
arriving-append (Arrive u node ∷ xs) ys = ap (λ (l : List Placed). record { turn = u; node = node } ∷ l) (arriving-append xs ys)
arriving-append (Pick node ∷ xs) ys = arriving-append xs ys

-- one operation more
pub history_more : (most : ℕ) (past : List Did) (ops : List Op) (op : Op) → history most past (ops ++ op ∷ []) ≡ after_op most (history most past ops) op
history_more most past [] op = refl
history_more most past (x ∷ ops) op = history_more most (after_op most past x) ops op

pub arrivals_after : (most : ℕ) (past : List Did) (ops : List Op) → arrivals (history most past ops) ≡ arrivals past ++ arriving ops
arrivals_after most past [] = sym (append-nil (arrivals past))
arrivals_after most past (Arrive u node ∷ ops) = arrivals_after most (Arrived u node ∷ past) ops ∙ append_assoc (arrivals past) (record { turn = u; node = node } ∷ []) (arriving ops)
arrivals_after most past (Pick node ∷ ops) = arrivals_after most (Answered (answer most node past) ∷ past) ops

past_after : (most : ℕ) (past : List Did) (ops : List Op) → IsPast most past → HaveComeOnce (arrivals past ++ arriving ops) → IsPast most (history most past ops)
past_after most past [] is once = is
past_after most past (Arrive u node ∷ ops) is once =
    let c : Placed = record { turn = u; node = node } in
    past_after most (Arrived u node ∷ past) ops (new_one (arrivals past) c (arriving ops) once, is) (subst HaveComeOnce (sym (append_assoc (arrivals past) (c ∷ []) (arriving ops))) once)
past_after most past (Pick node ∷ ops) is once = past_after most (Answered (answer most node past) ∷ past) ops ((node, refl), is) once

abbrev pub past_of : ℕ → List Op → List Did
past_of most ops = history most [] ops

pub is_past : (most : ℕ) (ops : List Op) → HaveComeOnce (arriving ops) → IsPast most (past_of most ops)
is_past most ops once = past_after most [] ops tt once

pub once_before : (xs ys : List Op) → HaveComeOnce (arriving (xs ++ ys)) → HaveComeOnce (arriving xs)
once_before xs ys once = once_front (arriving xs) (arriving ys) (subst HaveComeOnce (arriving-append xs ys) once)

-- ---- what a line is after these operations

abbrev pub line_of_ops : ℕ → List Op → List Waiter
line_of_ops most ops = line_of (past_of most ops)

abbrev pub line_after_all : ℕ → List Op → LineView
line_after_all most ops = record { threads = 64; bound = most; waiting = line_of (past_of most ops) }

pub arrives : (most : ℕ) (ops : List Op) (u : Turn) (node : ℕ) → HaveComeOnce (arriving (ops ++ Arrive u node ∷ [])) → length (arriving (ops ++ Arrive u node ∷ [])) ≤ 64
    → arrived u node (line_after_all most ops) ≡ line_after_all most (ops ++ Arrive u node ∷ [])
arrives most ops u node once few =
    let c : Placed = record { turn = u; node = node } in
    let past = past_of most ops in
    let is = is_past most ops (once_before ops (Arrive u node ∷ []) once) in
    let came : arrivals past ≡ arriving ops = arrivals_after most [] ops in
    let new : has_come u (arrivals past) ≡ false = ap (has_come u) came ∙ new_one (arriving ops) c [] (subst HaveComeOnce (arriving-append ops (Arrive u node ∷ [])) once) in
    let count : length (line_of past) < 64 = (
    let a = few_rows (waits past) (passes past) (arrivals past) in
    let b : length (arrivals past) ≡ length (arriving ops) = ap length came in
    let d : length (arriving (ops ++ Arrive u node ∷ [])) ≡ length (arriving ops) + 1 = ap length (arriving-append ops (Arrive u node ∷ [])) ∙ length-append (arriving ops) (c ∷ []) in
    omega arith) in
    let fine : is_refused u (line_after_all most ops) ≡ false = ap (λ (b : Bool). b || has_turn u (line_of past)) (ne_eqb (length (line_of past)) 64 (λ e. omega arith)) ∙ new_in_line past u new in
    ap (λ (b : Bool). cond b (line_after_all most ops) (with_waiting (line_of past ++ newcomer u node ∷ []) (line_after_all most ops))) fine
    ∙ (ap (λ (l : List Waiter). with_waiting l (line_after_all most ops)) (sym (line_arrived most past u node is new))
    ∙ ap (λ (l : List Did). with_waiting (line_of l) (line_after_all most ops)) (sym (history_more most [] ops (Arrive u node))))

pub gives : (most : ℕ) (ops : List Op) (node : ℕ) (a : Option Turn) → HaveComeOnce (arriving ops) → a ≡ picked most node (line_of (past_of most ops))
    → (with_waiting (line_after a (line_of (past_of most ops))) (line_after_all most ops) ≡ line_after_all most (ops ++ Pick node ∷ [])) × (picks most (ops ++ Pick node ∷ []) ≡ picks most ops ++ a ∷ [])
gives most ops node a once said =
    let past = past_of most ops in
    let e : a ≡ answer most node past = said ∙ picked_is most node past in (
      ap (λ (l : List Waiter). with_waiting l (line_after_all most ops)) (sym (line_answered most node past a (is_past most ops once) e))
          ∙ (ap (λ (z : Option Turn). with_waiting (line_of (Answered z ∷ past)) (line_after_all most ops)) e
          ∙ ap (λ (l : List Did). with_waiting (line_of l) (line_after_all most ops)) (sym (history_more most [] ops (Pick node)))),
      ap answers (history_more most [] ops (Pick node)) ∙ ap (λ (z : Option Turn). picks most ops ++ z ∷ []) (sym e),
    )

pub adds_none : (most : ℕ) (ops : List Op) (u : Turn) (node : ℕ) → picks most (ops ++ Arrive u node ∷ []) ≡ picks most ops
adds_none most ops u node = ap answers (history_more most [] ops (Arrive u node))

-- ---- what follows

pub bounded : (most : ℕ) (ops : List Op) → HaveComeOnce (arriving ops) → IsBounded most ops
bounded most ops once before after e i c at held =
    row_bound most (waits (past_of most before)) (passes (past_of most before)) (arrivals (past_of most before)) i c (steady_past most (past_of most before) (is_past most before (once_before before after (subst (λ (l : List Op). HaveComeOnce (arriving l)) e once)))) at held

was_answered : (past : List Did) (i : ℕ) (u : Turn) → get_elem? (answers past) i ≡ some (Some u) → is_answered u past ≡ true
was_answered [] i u e = absurd (some-ne-none (Some u) (sym e))
was_answered (Arrived v node ∷ before) i u e = was_answered before i u e
was_answered (Answered a ∷ before) i u e = ⊎_elim
    (λ (h : get_elem? (answers before) i ≡ some (Some u)). or_right (is_it u a) (is_answered u before) (was_answered before i u h))
    (λ (h : (i ≡ length (answers before)) × (a ≡ Some u)). or_left (is_it u a) (is_answered u before) (ap (is_it u) h.1 ∙ turn_self u))
    (at_end (answers before) a (Some u) i e)

once_answered : (most : ℕ) (past : List Did) → IsPast most past → IsOnce (answers past)
once_answered most [] is i j u e f = absurd (some-ne-none (Some u) (sym e))
once_answered most (Arrived v node ∷ before) is i j u e f = once_answered most before is.1 i j u e f
once_answered most (Answered a ∷ before) is i j u e f = ⊎_elim
    (λ (x : get_elem? (answers before) i ≡ some (Some u)). ⊎_elim
    (λ (y : get_elem? (answers before) j ≡ some (Some u)). once_answered most before is.1 i j u x y)
    (λ (y : (j ≡ length (answers before)) × (a ≡ Some u)). absurd (never i x y.1))
    (at_end (answers before) a (Some u) j f))
    (λ (x : (i ≡ length (answers before)) × (a ≡ Some u)). ⊎_elim
    (λ (y : get_elem? (answers before) j ≡ some (Some u)). absurd (never j y x.1))
    (λ (y : (j ≡ length (answers before)) × (a ≡ Some u)). x.0 ∙ sym y.0)
    (at_end (answers before) a (Some u) j f))
    (at_end (answers before) a (Some u) i e)
  where
    never : (k : ℕ) → get_elem? (answers before) k ≡ some (Some u) → a ≡ Some u → ⊥
    never k at same = falsely (sym (was_answered before k u at) ∙ (answer_awaits most is.0.0 before u (sym is.0.1 ∙ same)).1)

pub once : (most : ℕ) (ops : List Op) → HaveComeOnce (arriving ops) → IsOnce (picks most ops)
once most ops apart = once_answered most (past_of most ops) (is_past most ops apart)

-- ---- a loop over the operations

-- what is asked of all operations holds of those up to a place
up_to : (ops : List Op) (i : ℕ) → HaveComeOnce (arriving ops) → HaveComeOnce (arriving (take i ops))
up_to ops i apart = once_before (take i ops) (drop i ops) (subst (λ (l : List Op). HaveComeOnce (arriving l)) (sym (take-append-drop i ops)) apart)

few_up_to : (ops : List Op) (i : ℕ) → length (arriving ops) ≤ 64 → length (arriving (take i ops)) ≤ 64
few_up_to ops i few =
    let a : length (arriving ops) ≡ length (arriving (take i ops)) + length (arriving (drop i ops)) =
    ap (λ (l : List Op). length (arriving l)) (sym (take-append-drop i ops)) ∙ (ap length (arriving-append (take i ops) (drop i ops)) ∙ length-append (arriving (take i ops)) (arriving (drop i ops))) in
    omega arith

pub next_arrives : (most : ℕ) (ops : List Op) (i : ℕ) (d : Op) (u : Turn) (node : ℕ) → i < length ops → get_or ops i d ≡ Arrive u node → HaveComeOnce (arriving ops) → length (arriving ops) ≤ 64
    → (arrived u node (line_after_all most (take i ops)) ≡ line_after_all most (take (i + 1) ops)) × (picks most (take i ops) ≡ picks most (take (i + 1) ops))
next_arrives most ops i d u node low is apart few =
    let e : take (i + 1) ops ≡ take i ops ++ Arrive u node ∷ [] = take_more ops i d low ∙ ap (λ (op : Op). take i ops ++ op ∷ []) is in (
      arrives most (take i ops) u node (subst (λ (l : List Op). HaveComeOnce (arriving l)) e (up_to ops (i + 1) apart)) (subst (λ (l : List Op). length (arriving l) ≤ 64) e (few_up_to ops (i + 1) few)) ∙ ap (line_after_all most) (sym e),
      sym (ap (picks most) e ∙ adds_none most (take i ops) u node),
    )

pub next_gives : (most : ℕ) (ops : List Op) (i : ℕ) (d : Op) (node : ℕ) (a : Option Turn) → i < length ops → get_or ops i d ≡ Pick node → HaveComeOnce (arriving ops) → a ≡ picked most node (line_of (past_of most (take i ops)))
    → (with_waiting (line_after a (line_of (past_of most (take i ops)))) (line_after_all most (take i ops)) ≡ line_after_all most (take (i + 1) ops)) × (picks most (take i ops) ++ a ∷ [] ≡ picks most (take (i + 1) ops))
next_gives most ops i d node a low is apart said =
    let e : take (i + 1) ops ≡ take i ops ++ Pick node ∷ [] = take_more ops i d low ∙ ap (λ (op : Op). take i ops ++ op ∷ []) is in
    let g = gives most (take i ops) node a (up_to ops i apart) said in
    (g.0 ∙ ap (line_after_all most) (sym e), sym (ap (picks most) e ∙ g.1))

pub all_given : (most : ℕ) (ops : List Op) (i : ℕ) (given : List (Option Turn)) → HaveComeOnce (arriving ops) → length ops ≤ i → given ≡ picks most (take i ops) → IsOnce given
all_given most ops i given apart high is = subst IsOnce (sym (is ∙ ap (picks most) (take_all i ops high))) (once most ops apart)
