-- The line that a history leaves: the turns that wait, each with its passes counted over the whole history.
use Rattle.std.proofs.Common.{◌≡◌, ◌⊎◌, ℕ, zero, suc, ◌+◌, ◌≤◌, ◌==◌, ◌&&◌, ◌||◌, not, Bool, true, false, cond, List, [], ◌∷◌, ◌++◌, length, sym, refl, ap, ◌∙◌, subst, inl, inr, ⊎_elim, arith, Option, Some, None}
use Rattle.std.proofs.lemmas.Bool.{and_parts, not-true, or_parts, or_left, or_right}
use mathlib.Core.Option.{some, some-injective, some-ne-none}
use lib.ListN.{get_elem?}
use Rattle.tc_queue.specs.declared.turn.Turn.{Turn}
use Rattle.tc_nodes.specs.declared.line.Waiter.{Waiter}
use Rattle.tc_nodes.specs.declared.cells.Placed.{Placed}
use Rattle.tc_nodes.specs.Line.{is_turn, has_turn, first_of, or_else, picked, newcomer, line_without, line_after, IsSteady}
use Rattle.tc_nodes.specs.Picks.{Did, Arrived, Answered, arrivals, has_come, is_it, is_answered, waits, is_after, bit, is_pass, passes, first_that, oldest, oldest_of, answer_by, answer, HaveComeOnce}
use Rattle.tc_nodes.proofs.Turns.{falsely, turn_self, turn_same, other_turn, came_other, come_front, not_before, not_after, once_more}
use Rattle.tc_nodes.proofs.Steady.{looser, steady_more, steady_picked}

-- each pick was answered as it should be, and no turn arrived twice
abbrev pub IsPast : ℕ → List Did → Type 0
IsPast most [] = Unit {0}
IsPast most (Arrived u node ∷ before) = (has_come u (arrivals before) ≡ false) × IsPast most before
IsPast most (Answered a ∷ before) = ((node : ℕ) × (a ≡ answer most node before)) × IsPast most before

abbrev pub row : Placed → ℕ → Waiter
row c count = record { turn = c.turn; node = c.node; passes = count }

-- the rows of those of whom a test holds
abbrev pub rows : (Placed → Bool) → (Turn → ℕ) → List Placed → List Waiter
rows is count [] = []
rows is count (c ∷ cs) = cond (is c) (row c (count c.turn) ∷ rows is count cs) (rows is count cs)

abbrev pub line_of : List Did → List Waiter
line_of past = rows (waits past) (passes past) (arrivals past)

-- ---- rows

pub rows_same : (is is' : Placed → Bool) (count count' : Turn → ℕ) (cs : List Placed) → ((c : Placed) → has_come c.turn cs ≡ true → (is c ≡ is' c) × (count c.turn ≡ count' c.turn)) → rows is count cs ≡ rows is' count' cs
rows_same is is' count count' [] all = refl
rows_same is is' count count' (c ∷ cs) all =
    let e = all c (or_left (is_turn c.turn c.turn) (has_come c.turn cs) (turn_self c.turn)) in
    let rest = rows_same is is' count count' cs (λ d h. all d (or_right (is_turn d.turn c.turn) (has_come d.turn cs) h)) in
    λ i. cond (e.0 i) (row c (e.1 i) ∷ rest i) (rest i)

rows-append : (is : Placed → Bool) (count : Turn → ℕ) (xs ys : List Placed) → rows is count (xs ++ ys) ≡ rows is count xs ++ rows is count ys
rows-append is count [] ys = refl
rows-append is count (c ∷ xs) ys = by_test (is c) (rows-append is count xs ys)
  where
    by_test : (b : Bool) → rows is count (xs ++ ys) ≡ rows is count xs ++ rows is count ys → cond b (row c (count c.turn) ∷ rows is count (xs ++ ys)) (rows is count (xs ++ ys)) ≡ cond b (row c (count c.turn) ∷ rows is count xs) (rows is count xs) ++ rows is count ys
    by_test true rest = ap (λ (l : List Waiter). row c (count c.turn) ∷ l) rest
    by_test false rest = rest

has_row : (is : Placed → Bool) (count : Turn → ℕ) (cs : List Placed) (u : Turn) → has_come u cs ≡ false → has_turn u (rows is count cs) ≡ false
has_row is count [] u none = refl
has_row is count (c ∷ cs) u none =
    let two = or_parts (is_turn u c.turn) (has_come u cs) none in
    by_test (is c) two.0 (has_row is count cs u two.1)
  where
    by_test : (b : Bool) → is_turn u c.turn ≡ false → has_turn u (rows is count cs) ≡ false → has_turn u (cond b (row c (count c.turn) ∷ rows is count cs) (rows is count cs)) ≡ false
    by_test true other rest = ap (λ (v : Bool). v || has_turn u (rows is count cs)) other ∙ rest
    by_test false other rest = rest

pub few_rows : (is : Placed → Bool) (count : Turn → ℕ) (cs : List Placed) → length (rows is count cs) ≤ length cs
few_rows is count [] = omega arith
few_rows is count (c ∷ cs) = by_test (is c) (few_rows is count cs)
  where
    by_test : (b : Bool) → length (rows is count cs) ≤ length cs → length (cond b (row c (count c.turn) ∷ rows is count cs) (rows is count cs)) ≤ suc (length cs)
    by_test true rest = omega arith
    by_test false rest = omega arith

-- ---- the first of some

-- the one that was found came, and the test holds of it
found : (is : Placed → Bool) (cs : List Placed) (x : Turn) → first_that is cs ≡ Some x → (c : Placed) × (has_come c.turn cs ≡ true) × (is c ≡ true) × (c.turn ≡ x)
found is [] x e = absurd (cc e)
found is (c ∷ cs) x e = by_test (is c) refl (found is cs x) e
  where
    here : has_come c.turn (c ∷ cs) ≡ true
    here = or_left (is_turn c.turn c.turn) (has_come c.turn cs) (turn_self c.turn)

    by_test : (b : Bool) → is c ≡ b → (first_that is cs ≡ Some x → (d : Placed) × (has_come d.turn cs ≡ true) × (is d ≡ true) × (d.turn ≡ x)) → cond b (Some c.turn) (first_that is cs) ≡ Some x → (d : Placed) × (has_come d.turn (c ∷ cs) ≡ true) × (is d ≡ true) × (d.turn ≡ x)
    by_test true held rest said = (c, here, held, cc said)
    by_test false held rest said =
        let d = rest said in
        (d.0, or_right (is_turn d.0.turn c.turn) (has_come d.0.turn cs) d.1, d.2, d.3)

-- the first row is that of the first one found
head : (is : Placed → Bool) (count : Turn → ℕ) (cs : List Placed) → ((first_that is cs ≡ None) × (rows is count cs ≡ [])) ⊎ ((c : Placed) × (ws : List Waiter) × (first_that is cs ≡ Some c.turn) × (rows is count cs ≡ row c (count c.turn) ∷ ws))
head is count [] = inl (refl, refl)
head is count (c ∷ cs) = by_test (is c) (head is count cs)
  where
    by_test : (b : Bool)
        → ((first_that is cs ≡ None) × (rows is count cs ≡ [])) ⊎ ((d : Placed) × (ws : List Waiter) × (first_that is cs ≡ Some d.turn) × (rows is count cs ≡ row d (count d.turn) ∷ ws))
        → ((cond b (Some c.turn) (first_that is cs) ≡ None) × (cond b (row c (count c.turn) ∷ rows is count cs) (rows is count cs) ≡ [])) ⊎ ((d : Placed) × (ws : List Waiter) × (cond b (Some c.turn) (first_that is cs) ≡ Some d.turn) × (cond b (row c (count c.turn) ∷ rows is count cs) (rows is count cs) ≡ row d (count d.turn) ∷ ws))
    by_test true rest = inr (c, rows is count cs, refl, refl)
    by_test false rest = rest

of_node : (is : Placed → Bool) (count : Turn → ℕ) (node : ℕ) (cs : List Placed) → first_of node (rows is count cs) ≡ first_that (λ c. is c && (c.node == node)) cs
of_node is count node [] = refl
of_node is count node (c ∷ cs) = by_test (is c) (of_node is count node cs)
  where
    by_test : (b : Bool) → first_of node (rows is count cs) ≡ first_that (λ d. is d && (d.node == node)) cs → first_of node (cond b (row c (count c.turn) ∷ rows is count cs) (rows is count cs)) ≡ cond (b && (c.node == node)) (Some c.turn) (first_that (λ d. is d && (d.node == node)) cs)
    by_test true rest = ap (λ (o : Option Turn). cond (c.node == node) (Some c.turn) o) rest
    by_test false rest = rest

-- a pick from the line is the answer over the history
pub picked_is : (most node : ℕ) (past : List Did) → picked most node (line_of past) ≡ answer most node past
picked_is most node past = ⊎_elim
    (λ (none : (oldest past ≡ None) × (line_of past ≡ [])). ap (picked most node) none.1 ∙ sym (ap (answer_by most node past) none.0))
    (λ (some_one : (c : Placed) × (ws : List Waiter) × (oldest past ≡ Some c.turn) × (line_of past ≡ row c (passes past c.turn) ∷ ws)).
    let o = some_one.0 in
    let ws = some_one.1 in
    ap (picked most node) some_one.3
    ∙ (ap (λ (z : Option Turn). cond (passes past o.turn == most) (Some o.turn) (or_else z o.turn)) (ap (first_of node) (sym some_one.3) ∙ of_node (waits past) (passes past) node (arrivals past))
    ∙ sym (ap (answer_by most node past) some_one.2)))
    (head (waits past) (passes past) (arrivals past))

-- ---- who is answered came, and was not answered before

-- a turn that waits
abbrev pub Awaits : List Did → Turn → Type 0
Awaits past x = (has_come x (arrivals past) ≡ true) × (is_answered x past ≡ false)

awaits : (past : List Did) (is : Placed → Bool) (x : Turn) → ((c : Placed) → is c ≡ true → waits past c ≡ true) → first_that is (arrivals past) ≡ Some x → Awaits past x
awaits past is x all e =
    let c = found is (arrivals past) x e in
    subst (Awaits past) c.3 (c.1, not-true (is_answered c.0.turn past) (all c.0 c.2))

by_node : (most node : ℕ) (past : List Did) (x o : Turn) (b : Bool) (z : Option Turn) → (Some o ≡ Some x → Awaits past x) → (z ≡ Some x → Awaits past x) → cond b (Some o) (or_else z o) ≡ Some x → Awaits past x
by_node most node past x o true z first other e = first e
by_node most node past x o false None first other e = first e
by_node most node past x o false (Some y) first other e = other e

pub answer_awaits : (most node : ℕ) (past : List Did) (x : Turn) → answer most node past ≡ Some x → Awaits past x
answer_awaits most node past x e = by_oldest (oldest past) refl e
  where
    by_oldest : (o : Option Turn) → oldest past ≡ o → answer_by most node past o ≡ Some x → Awaits past x
    by_oldest None is said = absurd (cc said)
    by_oldest (Some o) is said = by_node most node past x o (passes past o == most) (oldest_of node past)
        (λ (same : Some o ≡ Some x). awaits past (waits past) x (λ c h. h) (is ∙ same))
        (λ (there : oldest_of node past ≡ Some x). awaits past (λ c. waits past c && (c.node == node)) x (λ c h. (and_parts (waits past c) (c.node == node) h).0) there)
        said

-- ---- an arrival

not_it : (u x : Turn) (cs : List Placed) (a : Option Turn) → (a ≡ Some x → has_come x cs ≡ true) → ((y : Turn) → a ≡ Some y → has_come y cs ≡ true) → has_come u cs ≡ false → is_it u a ≡ false
not_it u x cs None here all none = refl
not_it u x cs (Some y) here all none = other_turn y u (came_other y u cs (all y refl) none)

pub not_answered : (most : ℕ) (past : List Did) (u : Turn) → IsPast most past → has_come u (arrivals past) ≡ false → is_answered u past ≡ false
not_answered most [] u is none = refl
not_answered most (Arrived v node ∷ before) u is none = not_answered most before u is.1 (come_front u (arrivals before) _ none)
not_answered most (Answered a ∷ before) u is none =
    ap (λ (b : Bool). b || is_answered u before) (not_it u u (arrivals before) a (λ e. (answer_awaits most is.0.0 before u (sym is.0.1 ∙ e)).0) (λ y e. (answer_awaits most is.0.0 before y (sym is.0.1 ∙ e)).0) none)
    ∙ not_answered most before u is.1 none

no_bit : (b : Bool) (n : ℕ) → b ≡ false → bit b + n ≡ n
no_bit true n e = absurd (falsely e)
no_bit false n e = omega arith

no_pass : (u : Turn) (a : Option Turn) (cs : List Placed) → has_come u cs ≡ false → is_pass u a cs ≡ false
no_pass u None cs none = refl
no_pass u (Some x) cs none = not_before u x cs none

pub no_passes : (past : List Did) (u : Turn) → has_come u (arrivals past) ≡ false → passes past u ≡ 0
no_passes [] u none = refl
no_passes (Arrived v node ∷ before) u none = no_passes before u (come_front u (arrivals before) _ none)
no_passes (Answered a ∷ before) u none = no_bit (is_pass u a (arrivals before)) (passes before u) (no_pass u a (arrivals before) none) ∙ no_passes before u none

pub line_arrived : (most : ℕ) (past : List Did) (u : Turn) (node : ℕ) → IsPast most past → has_come u (arrivals past) ≡ false → line_of (Arrived u node ∷ past) ≡ line_of past ++ newcomer u node ∷ []
line_arrived most past u node is none =
    let c : Placed = record { turn = u; node = node } in
    rows-append (waits past) (passes past) (arrivals past) (c ∷ [])
    ∙ ap (λ (l : List Waiter). line_of past ++ l)
    (λ i. cond (not (not_answered most past u is none i)) (row c (no_passes past u none i) ∷ []) [])

pub new_in_line : (past : List Did) (u : Turn) → has_come u (arrivals past) ≡ false → has_turn u (line_of past) ≡ false
new_in_line past u none = has_row (waits past) (passes past) (arrivals past) u none

-- ---- a pick

-- a row is out, and each before it was passed over once more
taken : (gone : Placed → Bool) (count : Turn → ℕ) (x : Turn) (cs : List Placed) → HaveComeOnce cs → has_come x cs ≡ true → ((c : Placed) → c.turn ≡ x → gone c ≡ false)
    → rows (λ c. not (is_turn c.turn x || gone c)) (λ u. bit (is_after u x cs) + count u) cs ≡ line_without x (rows (λ c. not (gone c)) count cs)
taken gone count x [] once here stays = absurd (falsely (sym here))
taken gone count x (c ∷ cs) once here stays = by_turn (is_turn c.turn x) refl (λ later. taken gone count x cs once.1 later stays)
  where
    rest : List Waiter
    rest = rows (λ d. not (gone d)) count cs

    left : List Waiter
    left = rows (λ d. not (is_turn d.turn x || gone d)) (λ u. bit (is_after u x (c ∷ cs)) + count u) cs

    counted : ℕ
    counted = bit (is_after c.turn x (c ∷ cs)) + count c.turn

    Goal : Bool → Type 0
    Goal b = cond (not (b || gone c)) (row c counted ∷ left) left ≡ line_without x (cond (not (gone c)) (row c (count c.turn) ∷ rest) rest)

    -- those behind c are other turns than c
    behind : (u : Turn) → has_come u cs ≡ true → is_after u x (c ∷ cs) ≡ is_after u x cs
    behind u h = ap (λ (b : Bool). cond b (has_come x cs) (is_after u x cs)) (came_other u c.turn cs h once.0)

    by_gone : (g : Bool) → gone c ≡ g → is_turn c.turn x ≡ false → left ≡ line_without x rest → counted ≡ count c.turn + 1 → cond (not (false || g)) (row c counted ∷ left) left ≡ line_without x (cond (not g) (row c (count c.turn) ∷ rest) rest)
    by_gone true is other same more = same
    by_gone false is other same more =
        (λ i. row c (more i) ∷ same i) ∙ sym (ap (λ (b : Bool). cond b rest (row c (count c.turn + 1) ∷ line_without x rest)) (other_turn c.turn x other))

    by_turn : (b : Bool) → is_turn c.turn x ≡ b → (has_come x cs ≡ true → rows (λ d. not (is_turn d.turn x || gone d)) (λ u. bit (is_after u x cs) + count u) cs ≡ line_without x rest) → Goal b
    by_turn true is later =
        let same : c.turn ≡ x = turn_same c.turn x is in
        let none : has_come x cs ≡ false = subst (λ (u : Turn). has_come u cs ≡ false) same once.0 in
        let back : is_turn x c.turn ≡ true = ap (is_turn x) same ∙ turn_self x in
        rows_same (λ d. not (is_turn d.turn x || gone d)) (λ d. not (gone d)) (λ u. bit (is_after u x (c ∷ cs)) + count u) count cs
        (λ d h. (
          ap (λ (v : Bool). not (v || gone d)) (came_other d.turn x cs h none),
          no_bit (is_after d.turn x (c ∷ cs)) (count d.turn) (behind d.turn h ∙ not_after d.turn x cs none),
        ))
        ∙ sym (ap (λ (g : Bool). line_without x (cond (not g) (row c (count c.turn) ∷ rest) rest)) (stays c same) ∙ ap (λ (v : Bool). cond v rest (row c (count c.turn + 1) ∷ line_without x rest)) back)
    by_turn false is later =
        let later' : has_come x cs ≡ true = ap (λ (v : Bool). v || has_come x cs) (sym (other_turn c.turn x is)) ∙ here in
        let after : is_after c.turn x (c ∷ cs) ≡ true = ap (λ (v : Bool). cond v (has_come x cs) (is_after c.turn x cs)) (turn_self c.turn) ∙ later' in
        by_gone (gone c) refl is
        (rows_same (λ d. not (is_turn d.turn x || gone d)) (λ d. not (is_turn d.turn x || gone d)) (λ u. bit (is_after u x (c ∷ cs)) + count u) (λ u. bit (is_after u x cs) + count u) cs
        (λ d h. (refl, ap (λ (v : Bool). bit v + count d.turn) (behind d.turn h)))
        ∙ later later')
        (ap (λ (v : Bool). bit v + count c.turn) after ∙ omega arith)

pub arrivals_once : (most : ℕ) (past : List Did) → IsPast most past → HaveComeOnce (arrivals past)
arrivals_once most [] is = tt
arrivals_once most (Arrived u node ∷ before) is = once_more (arrivals before) _ (arrivals_once most before is.1) is.0
arrivals_once most (Answered a ∷ before) is = arrivals_once most before is.1

pub line_answered : (most node : ℕ) (past : List Did) (a : Option Turn) → IsPast most past → a ≡ answer most node past → line_of (Answered a ∷ past) ≡ line_after a (line_of past)
line_answered most node past None is e = rows_same (waits (Answered None ∷ past)) (waits past) (passes (Answered None ∷ past)) (passes past) (arrivals past) (λ c h. (refl, omega arith))
line_answered most node past (Some x) is e =
    let x_waits = answer_awaits most node past x (sym e) in
    taken (λ c. is_answered c.turn past) (passes past) x (arrivals past) (arrivals_once most past is) x_waits.0 (λ c same. ap (λ (u : Turn). is_answered u past) same ∙ x_waits.1)

-- ---- the bound

pub steady_past : (most : ℕ) (past : List Did) → IsPast most past → IsSteady most (line_of past)
steady_past most [] is = tt
steady_past most (Arrived u node ∷ before) is = subst (IsSteady most) (sym (line_arrived most before u node is.1 is.0)) (steady_more most u node (line_of before) (steady_past most before is.1))
steady_past most (Answered a ∷ before) is =
    let said = is.0.1 ∙ sym (picked_is most is.0.0 before) in
    subst (IsSteady most) (sym (line_answered most is.0.0 before a is.1 is.0.1 ∙ ap (λ (z : Option Turn). line_after z (line_of before)) said)) (steady_picked most is.0.0 (line_of before) (steady_past most before is.1))

pub row_bound : (most : ℕ) (is : Placed → Bool) (count : Turn → ℕ) (cs : List Placed) (i : ℕ) (c : Placed) → IsSteady most (rows is count cs) → get_elem? cs i ≡ some c → is c ≡ true → count c.turn ≤ most
row_bound most is count [] i c steady at held = absurd (some-ne-none c (sym at))
row_bound most is count (x ∷ cs) zero c steady at held =
    let same : x ≡ c = some-injective x c at in
    let now : IsSteady most (row x (count x.turn) ∷ rows is count cs) = subst (λ (b : Bool). IsSteady most (cond b (row x (count x.turn) ∷ rows is count cs) (rows is count cs))) (ap is same ∙ held) steady in
    subst (λ (d : Placed). count d.turn ≤ most) same now.0
row_bound most is count (x ∷ cs) (suc i) c steady at held = row_bound most is count cs i c (by_test (is x) steady) at held
  where
    by_test : (b : Bool) → IsSteady most (cond b (row x (count x.turn) ∷ rows is count cs) (rows is count cs)) → IsSteady most (rows is count cs)
    by_test true both = looser (count x.turn) most (rows is count cs) both.0 both.1
    by_test false rest = rest
