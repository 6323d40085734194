-- The order of a hall that was closed is a run of the machine, by the law of all orders.
use Rattle.std.proofs.Common.{◌≡◌, Bool, false, if◌then◌else◌, List, [], ◌∷◌, refl, sym, ap, ◌∙◌, subst}
use Rattle.tc_hall.specs.Order.{Made}
use Rattle.tc_run.specs.Run.{IsRun, RunsAsMachine, before_stop, has_stop}
use Rattle.tc_run.specs.End.{EndsAsMachine}
use Rattle.tc_run.proofs.Law.{run_law}

-- an order without a stop is all before the first
pub all_before : (order : List Made) → has_stop order ≡ false → before_stop order ≡ order
all_before [] none = refl
all_before (m ∷ before) none = ap (λ (b : Bool). if b then before_stop before else m ∷ before) none

pub ends_by : RunsAsMachine → EndsAsMachine
ends_by law k v history steps lined none =
    let run : IsRun k steps.ordered.first steps.ordered.order = subst (IsRun k steps.ordered.first) (all_before steps.ordered.order (steps.unstopped none)) (law k steps.state steps.ordered lined) in
    record { run = run; writes = run.writes ∙ sym steps.written }

pub end_ran : EndsAsMachine
end_ran = ends_by run_law
