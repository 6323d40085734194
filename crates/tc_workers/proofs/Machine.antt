-- A crew that made no stop at the lines of its hall ran as the abstract machine.
use Rattle.std.proofs.Common.{◌≡◌, ℕ, zero, suc, Bool, true, false, Result, Ok, Err, List, [], ◌∷◌, sym, subst}
use Rattle.std.specs.Prelude.{IfOk, MatchResult}
use mathlib.Core.Option.{some, some-injective, some-ne-none}
use lib.ListN.{get_elem?}
use Rattle.tc_isa.specs.declared.options.Options.{Options}
use Rattle.tc_elf.specs.Shown.{Shown}
use Rattle.tc_hall.specs.declared.board.PassCall.{PassCall}
use Rattle.tc_hall.specs.declared.board.PassCall.TheVariants.{Stop}
use Rattle.tc_hall.specs.Made.{IsHallOf}
use Rattle.tc_hall.specs.Closing.{IsEnd}
use Rattle.tc_hall.specs.PassView.{ClosedView, PassView}
use Rattle.tc_queue.specs.Lines.{SeatView}
use Rattle.tc_ready.specs.ReadyView.{ReadyView}
use Rattle.tc_combiner.specs.View.{BenchView}
use Rattle.tc_combiner.specs.Walks.{HaveNoStop}
use Rattle.tc_run.proofs.End.{end_ran}
use Rattle.tc_workers.specs.Crew.{CrewRan}
use Rattle.tc_workers.specs.Run.{HaveRoom, IsCrewsRun}
use Rattle.tc_workers.specs.Machine.{IsMachineRun}
use Rattle.tc_workers.proofs.Joining.{crews_run}

rest_none : (c : PassCall) (cs : List PassCall) → HaveNoStop (c ∷ cs) → HaveNoStop cs
rest_none Stop cs h = absurd h
rest_none c cs h = h

-- no place of such a list has a stop
pub stop_nowhere : (cs : List PassCall) → HaveNoStop cs → (i : ℕ) → ¬ (get_elem? cs i ≡ some Stop)
stop_nowhere [] h i e = some-ne-none Stop (sym e)
stop_nowhere (c ∷ cs) h zero e = subst (λ (x : PassCall). HaveNoStop (x ∷ cs)) (some-injective c Stop e) h
stop_nowhere (c ∷ cs) h (suc i) e = stop_nowhere cs (rest_none c cs h) i e

-- the crew of a hall with lines
pub machine_run : (image : Shown) (o : Options) (rows : List (List SeatView)) (c : ClosedView) (crew : IsCrewsRun image o rows c) → crew.bench.hall.terms.lined ≡ true → IsMachineRun image o rows c
machine_run image o rows c crew lined = record {
  crew = crew;
  ran = end_ran crew.bench.hall.terms crew.pass.knows crew.end.history crew.end.steps lined (stop_nowhere crew.pass.knows.calls crew.unstopped);
}

-- where it was closed
pub closed_run : {E : Type 0} (b : BenchView) (x : Shown) (o : Options) (rows : List (List SeatView)) (ready : List ReadyView) (p : PassView) (a : Bool) (r : Result ClosedView E) → IsHallOf x o.fuel o.workers o.limit b.hall → HaveRoom x o ready → CrewRan b rows ready p a
    → IfOk r (λ c. IsEnd b.hall.terms p.knows c.packages c.locks) → MatchResult r (λ c. a ≡ true) (λ e. a ≡ false) → b.hall.terms.lined ≡ true → IfOk r (IsMachineRun x o rows)
closed_run b x o rows ready p a (Ok c) of room ran end done lined = machine_run x o rows c (crews_run b x o rows ready p a c of room ran end done) lined
closed_run b x o rows ready p a (Err e) of room ran end done lined = tt
