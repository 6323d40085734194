-- Turns that are equal or not, and lists of arrivals.
use Rattle.std.proofs.Common.{◌≡◌, ◌==◌, ◌&&◌, ◌||◌, Bool, true, false, cond, List, [], ◌∷◌, ◌++◌, sym, refl, ap, ◌∙◌, eqb-true, eq-eqb}
use Rattle.std.proofs.lemmas.Bool.{and_parts, or_parts, or_left, or_right}
use Rattle.tc_queue.specs.declared.turn.Turn.{Turn}
use Rattle.tc_nodes.specs.declared.cells.Placed.{Placed}
use Rattle.tc_nodes.specs.Line.{is_turn}
use Rattle.tc_nodes.specs.Picks.{has_come, is_after, HaveComeOnce}

pub falsely : true ≡ false → ⊥
falsely e = absurd (cc e)

pub turn_self : (u : Turn) → is_turn u u ≡ true
turn_self u = ap (λ (b : Bool). b && (u.number == u.number)) (eq-eqb u.thread u.thread refl) ∙ eq-eqb u.number u.number refl

pub turn_same : (u v : Turn) → is_turn u v ≡ true → u ≡ v
turn_same u v e =
    let two = and_parts (u.thread == v.thread) (u.number == v.number) e in
    let thread = eqb-true u.thread v.thread two.0 in
    let number = eqb-true u.number v.number two.1 in
    λ i. record { thread = thread i; number = number i }

pub other_turn : (u v : Turn) → is_turn u v ≡ false → is_turn v u ≡ false
other_turn u v e = by_test (is_turn v u) refl
  where
    by_test : (b : Bool) → is_turn v u ≡ b → b ≡ false
    by_test true is = absurd (falsely (sym is ∙ (ap (λ (w : Turn). is_turn w u) (turn_same v u is) ∙ (ap (is_turn u) (sym (turn_same v u is)) ∙ e))))
    by_test false is = refl

-- one that came is another than one that did not
pub came_other : (w x : Turn) (cs : List Placed) → has_come w cs ≡ true → has_come x cs ≡ false → is_turn w x ≡ false
came_other w x cs here away = by_test (is_turn w x) refl
  where
    by_test : (b : Bool) → is_turn w x ≡ b → b ≡ false
    by_test true is = absurd (falsely (sym here ∙ (ap (λ (u : Turn). has_come u cs) (turn_same w x is) ∙ away)))
    by_test false is = refl

pub come_front : (u : Turn) (xs ys : List Placed) → has_come u (xs ++ ys) ≡ false → has_come u xs ≡ false
come_front u [] ys e = refl
come_front u (c ∷ xs) ys e =
    let two = or_parts (is_turn u c.turn) (has_come u (xs ++ ys)) e in
    ap (λ (b : Bool). b || has_come u xs) two.0 ∙ come_front u xs ys two.1

pub come_longer : (u : Turn) (xs ys : List Placed) → has_come u xs ≡ true → has_come u (xs ++ ys) ≡ true
come_longer u [] ys e = absurd (falsely (sym e))
come_longer u (c ∷ xs) ys e = by_test (is_turn u c.turn) (come_longer u xs ys) e
  where
    by_test : (b : Bool) → (has_come u xs ≡ true → has_come u (xs ++ ys) ≡ true) → (b || has_come u xs) ≡ true → (b || has_come u (xs ++ ys)) ≡ true
    by_test true more here = refl
    by_test false more here = more here

-- nobody comes after one that did not come, and one that did not come comes after nobody
pub not_before : (u x : Turn) (cs : List Placed) → has_come u cs ≡ false → is_after u x cs ≡ false
not_before u x [] e = refl
not_before u x (c ∷ cs) e =
    let two = or_parts (is_turn u c.turn) (has_come u cs) e in
    ap (λ (b : Bool). cond b (has_come x cs) (is_after u x cs)) two.0 ∙ not_before u x cs two.1

pub not_after : (u x : Turn) (cs : List Placed) → has_come x cs ≡ false → is_after u x cs ≡ false
not_after u x [] e = refl
not_after u x (c ∷ cs) e = by_test (is_turn u c.turn) (or_parts (is_turn x c.turn) (has_come x cs) e).1 (not_after u x cs)
  where
    by_test : (b : Bool) → has_come x cs ≡ false → (has_come x cs ≡ false → is_after u x cs ≡ false) → cond b (has_come x cs) (is_after u x cs) ≡ false
    by_test true none more = none
    by_test false none more = more none

-- ---- no turn comes twice

pub once_front : (xs ys : List Placed) → HaveComeOnce (xs ++ ys) → HaveComeOnce xs
once_front [] ys once = tt
once_front (c ∷ xs) ys once = (come_front c.turn xs ys once.0, once_front xs ys once.1)

pub new_one : (xs : List Placed) (c : Placed) (ys : List Placed) → HaveComeOnce (xs ++ c ∷ ys) → has_come c.turn xs ≡ false
new_one [] c ys once = refl
new_one (x ∷ xs) c ys once =
    let rest = new_one xs c ys once.1 in
    let came : has_come c.turn (xs ++ c ∷ ys) ≡ true = later xs in
    ap (λ (b : Bool). b || has_come c.turn xs) (came_other c.turn x.turn (xs ++ c ∷ ys) came once.0) ∙ rest
  where
    later : (l : List Placed) → has_come c.turn (l ++ c ∷ ys) ≡ true
    later [] = or_left (is_turn c.turn c.turn) (has_come c.turn ys) (turn_self c.turn)
    later (y ∷ l) = or_right (is_turn c.turn y.turn) (has_come c.turn (l ++ c ∷ ys)) (later l)

pub once_more : (xs : List Placed) (c : Placed) → HaveComeOnce xs → has_come c.turn xs ≡ false → HaveComeOnce (xs ++ c ∷ [])
once_more [] c once none = (refl, tt)
once_more (x ∷ xs) c once none =
    let two = or_parts (is_turn c.turn x.turn) (has_come c.turn xs) none in (
      more xs once.0,
      once_more xs c once.1 two.1,
    )
  where
    more : (l : List Placed) → has_come x.turn l ≡ false → has_come x.turn (l ++ c ∷ []) ≡ false
    more [] e = ap (λ (b : Bool). b || false) (other_turn c.turn x.turn (or_parts (is_turn c.turn x.turn) (has_come c.turn xs) none).0)
    more (y ∷ l) e =
        let two = or_parts (is_turn x.turn y.turn) (has_come x.turn l) e in
        ap (λ (b : Bool). b || has_come x.turn (l ++ c ∷ [])) two.0 ∙ more l two.1
