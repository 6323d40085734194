use Rattle.tc_workers.specs.Worker.{view_of}
use Rattle.tc_workers.proofs.Turning.{went_through}
use Rattle.tc_workers.proofs.work.make_step.Goals as goal

pub returns-in-Continue : goal.returns-in-Continue
returns-in-Continue g c =
    let begun = c.in-Continue.ensures in
    let went = went_through c.args.bench.now begun.at c.in-Continue.«package» begun.y (view_of c.begin.new.worker) (view_of c.step_with.new.worker) c.step_with.result begun.steps begun.takes c.step_with.ensures.steps c.step_with.ensures.steps_with in
    record { at = begun.at; y = begun.y; reached = begun.reached; steps = went.0; takes = went.1 }

pub returns-then-is_asked : goal.returns-then-is_asked
returns-then-is_asked g c =
    let begun = c.in-Break.ensures in
    record { at = begun.at; y = begun.y; reached = begun.reached; steps = begun.steps; takes = begun.takes }

pub returns-else-is_asked : goal.returns-else-is_asked
returns-else-is_asked g c =
    let begun = c.in-Break.ensures in
    record { at = begun.at; y = begun.y; reached = begun.reached; steps = begun.steps; takes = begun.takes }
