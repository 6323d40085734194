-- A pass that stopped the run, or saw that it was stopped: it stays so, and nothing more is asked of how it stands at the lines.
use Rattle.std.proofs.Common.{◌≡◌, List, [], ◌∷◌, ◌++◌, refl, ap, ◌∙◌, inl}
use lib.ListN.{get_elem?}
use Rattle.atomic_table.proofs.Lists.{at_longer}
use Rattle.tc_hall.specs.Standing.{IfLined}
use Rattle.tc_hall.specs.Steps.{HasStop, made, seen, with_call}
use Rattle.tc_hall.specs.declared.board.HallTerms.{HallTerms}
use Rattle.tc_hall.specs.declared.board.Knows.{Knows}
use Rattle.tc_hall.specs.declared.board.PassCall.{PassCall}
use Rattle.tc_hall.specs.declared.board.PassCall.TheVariants.{Stop, Stopped}
use Rattle.tc_hall.proofs.Listing.{at_append}

pub stop_told : (v w : Knows) (cs : List PassCall) → w.calls ≡ v.calls ++ Stop ∷ cs → HasStop w
stop_told v w cs e = let at = at_append v.calls (Stop ∷ cs) 0 Stop refl in made at.0 (ap (λ (l : List PassCall). get_elem? l at.0) e ∙ at.1)

pub stop_seen : (v w : Knows) (cs : List PassCall) → w.calls ≡ v.calls ++ Stopped 1 ∷ cs → HasStop w
stop_seen v w cs e = let at = at_append v.calls (Stopped 1 ∷ cs) 0 (Stopped 1) refl in seen at.0 (ap (λ (l : List PassCall). get_elem? l at.0) e ∙ at.1)

pub stop_later : (v w : Knows) (cs : List PassCall) → w.calls ≡ v.calls ++ cs → HasStop v → HasStop w
stop_later v w cs e (made i h) = made i (ap (λ (l : List PassCall). get_elem? l i) e ∙ at_longer v.calls cs i Stop h)
stop_later v w cs e (seen i h) = seen i (ap (λ (l : List PassCall). get_elem? l i) e ∙ at_longer v.calls cs i (Stopped 1) h)

pub stop_called : (v w : Knows) (c : PassCall) → w ≡ with_call v c → HasStop v → HasStop w
stop_called v w c e = stop_later v w (c ∷ []) (ap (λ (x : Knows). x.calls) e)

pub after_stop : (k : HallTerms) (v : Knows) (P : Type 0) → HasStop v → IfLined k v P
after_stop k v P h lined = inl h
