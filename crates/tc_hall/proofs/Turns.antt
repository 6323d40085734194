-- Turns of a line, for the crates above.
use Rattle.std.proofs.Common.{◌≡◌, Bool, true, false, cond, List, [], ◌∷◌, map, refl, sym, ap, eq-eqb, Option, None}
use mathlib.Core.Option.{some}
use lib.ListN.{get_elem?}
use Rattle.tc_queue.specs.Calls.{answer_to_leave, is_last, tail_without}
use Rattle.tc_queue.specs.declared.turn.Leave.TheVariants.{Left, Followed}
use Rattle.tc_queue.specs.declared.turn.Turn.{Turn}
use Rattle.tc_core.specs.Lines.{is_second}
use Rattle.tc_hall.proofs.Vocabulary.{some-injective, some-ne-none}

pub turn_second : (us : List Turn) (u : Turn) → get_elem? us 1 ≡ some u → is_second (map (λ (x : Turn). x.thread) us) u.thread ≡ true
turn_second [] u e = absurd (some-ne-none u (sym e))
turn_second (x ∷ []) u e = absurd (some-ne-none u (sym e))
turn_second (x ∷ y ∷ us) u e = eq-eqb y.thread u.thread (ap (λ (z : Turn). z.thread) (some-injective y u e))

-- a turn that others follow leaves the tail to them
pub tail_followed : (u : Turn) (tail found : Option Turn) → Followed found ≡ answer_to_leave u tail → tail_without u tail ≡ tail
tail_followed u tail found = by_test (is_last u tail)
  where
    by_test : (b : Bool) → Followed found ≡ cond b Left (Followed tail) → cond b None tail ≡ tail
    by_test true e = absurd (cc e)
    by_test false e = refl
