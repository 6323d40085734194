-- The calls on one line among those of a pass.
use Rattle.std.proofs.Common.{◌≡◌, ℕ, ◌==◌, Bool, true, false, if◌then◌else◌, List, [], ◌∷◌, ◌++◌, refl, sym, ap, ◌∙◌, eq-eqb}
use Rattle.std.proofs.lemmas.List.{append-nil}
use Rattle.tc_queue.specs.declared.turn.QueueCall.{QueueCall}
use Rattle.tc_hall.specs.declared.board.PassCall.{PassCall}
use Rattle.tc_hall.specs.declared.board.PassCall.TheVariants.{Line}
use Rattle.tc_hall.specs.Lines.{lines_of}
use Rattle.tc_order.specs.Order.{is_line}

pub lines_then : (i : ℕ) (xs ys : List PassCall) → lines_of i (xs ++ ys) ≡ lines_of i xs ++ lines_of i ys
lines_then i [] ys = refl
lines_then i (Line j c ∷ xs) ys = by (j == i) (lines_then i xs ys)
  where
    by : (b : Bool) → lines_of i (xs ++ ys) ≡ lines_of i xs ++ lines_of i ys → (if b then c ∷ lines_of i (xs ++ ys) else lines_of i (xs ++ ys)) ≡ (if b then c ∷ lines_of i xs else lines_of i xs) ++ lines_of i ys
    by true e = ap (λ (l : List QueueCall). c ∷ l) e
    by false e = e
lines_then i (d ∷ xs) ys = lines_then i xs ys

none_there : (i : ℕ) (d : PassCall) → is_line d ≡ false → lines_of i (d ∷ []) ≡ []
none_there i (Line j c) quiet = let n : ⊥ = cc quiet in absurd n
none_there i d quiet = refl

-- another call of the pass
pub lines_quiet : (i : ℕ) (cs : List PassCall) (d : PassCall) → is_line d ≡ false → lines_of i (cs ++ d ∷ []) ≡ lines_of i cs
lines_quiet i cs d quiet = lines_then i cs (d ∷ []) ∙ (ap (λ (l : List QueueCall). lines_of i cs ++ l) (none_there i d quiet) ∙ append-nil (lines_of i cs))

-- a call on this line
pub lines_more : (i : ℕ) (cs : List PassCall) (c : QueueCall) → lines_of i (cs ++ Line i c ∷ []) ≡ lines_of i cs ++ c ∷ []
lines_more i cs c = lines_then i cs (Line i c ∷ []) ∙ ap (λ (b : Bool). lines_of i cs ++ (if b then c ∷ [] else [])) (eq-eqb i i refl)
