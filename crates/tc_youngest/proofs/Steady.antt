-- Steady turns stay so, and who is served of them.
use Rattle.std.proofs.Common.{◌≡◌, ℕ, zero, suc, ◌-◌, ◌≤◌, ◌==◌, Bool, false, if◌then◌else◌, List, [], ◌∷◌, ◌++◌, All, length, map, take, get_or, Some, refl, sym, ap, ◌∙◌, subst, arith}
use Rattle.tc_queue.specs.declared.turn.Turn.{Turn}
use Rattle.tc_queue.specs.Words.{IsTurn}
use Rattle.tc_youngest.specs.declared.stack.Stacked.{Stacked}
use Rattle.tc_youngest.specs.Stack.{AreSteady, newcomer, passed_over, served, youngest}

module _ (most : ℕ) where
  pub lower : (m n : ℕ) (ws : List Stacked) → m ≤ n → AreSteady n most ws → AreSteady m most ws
  lower m n [] le s = tt
  lower m n (w ∷ ws) le s = (s.0, (let a = s.1 in omega arith), s.2, s.3)

  pub steady_more : (n : ℕ) (ws : List Stacked) (u : Turn) → AreSteady n most ws → n ≤ most → IsTurn 64 u → AreSteady n most (ws ++ newcomer u most ∷ [])
  steady_more n [] u s le is = (is, le, omega arith, tt)
  steady_more n (w ∷ ws) u s le is = (s.0, s.1, s.2, steady_more w.left ws u s.3 s.2 is)

  pub steady_front : (n : ℕ) (xs : List Stacked) (y : Stacked) → AreSteady n most (xs ++ y ∷ []) → AreSteady n most xs
  steady_front n [] y s = tt
  steady_front n (x ∷ xs) y s = (s.0, s.1, s.2, steady_front x.left xs y s.3)

  pub steady_passed : (n : ℕ) (ws : List Stacked) → AreSteady n most ws → AreSteady (n - 1) most (map passed_over ws)
  steady_passed n [] s = tt
  steady_passed n (w ∷ ws) s = (s.0, (let a = s.1 in omega arith), (let a = s.2 in omega arith), steady_passed w.left ws s.3)

  steady_left : (n : ℕ) (ws : List Stacked) → AreSteady n most ws → All (λ w. n ≤ w.left) ws
  steady_left n [] s k d lt = absurd (omega (arith, lt))
  steady_left n (w ∷ ws) s zero d lt = s.1
  steady_left n (w ∷ ws) s (suc k) d lt = steady_left n ws (lower n w.left ws s.1 s.3) k d (omega (arith, lt))

  pub from_first : (ws : List Stacked) (o : Stacked) → AreSteady 0 most ws → get_or ws 0 o ≡ o → All (λ w. o.left ≤ w.left) ws
  from_first [] o s e = λ k d lt. absurd (omega (arith, lt))
  from_first (w ∷ ws) o s e = subst (λ (v : Stacked). All (λ u. v.left ≤ u.left) (w ∷ ws)) e (steady_left w.left (w ∷ ws) (s.0, omega arith, s.2, s.3))

  pub last_turn : (n : ℕ) (xs : List Stacked) (y : Stacked) → AreSteady n most (xs ++ y ∷ []) → IsTurn 64 y.turn
  last_turn n [] y s = s.0
  last_turn n (x ∷ xs) y s = last_turn x.left xs y s.3

last_of : (x : Stacked) (xs : List Stacked) (y : Stacked) → youngest x (xs ++ y ∷ []) ≡ y
last_of x [] y = refl
last_of x (z ∷ xs) y = last_of z xs y

front_of : (x : Stacked) (xs : List Stacked) (y : Stacked) → take (length (xs ++ y ∷ [])) (x ∷ xs ++ y ∷ []) ≡ x ∷ xs
front_of x [] y = refl
front_of x (z ∷ xs) y = ap (λ (l : List Stacked). x ∷ l) (front_of z xs y)

pub served_last : (xs : List Stacked) (y o : Stacked) → get_or (xs ++ y ∷ []) 0 o ≡ o → (o.left == 0) ≡ false → served (xs ++ y ∷ []) ≡ (Some y.turn, map passed_over xs)
served_last [] y o e some_left = ap (λ (b : Bool). if b then (Some y.turn, []) else (Some y.turn, [])) (subst (λ (z : Stacked). (z.left == 0) ≡ false) (sym e) some_left)
served_last (x ∷ xs) y o e some_left =
    ap (λ (b : Bool). if b then (Some x.turn, xs ++ y ∷ []) else (Some (youngest x (xs ++ y ∷ [])).turn, map passed_over (take (length (xs ++ y ∷ [])) (x ∷ xs ++ y ∷ []))))
    (subst (λ (z : Stacked). (z.left == 0) ≡ false) (sym e) some_left) ∙ (λ i. (Some (last_of x xs y i).turn, map passed_over (front_of x xs y i)))
