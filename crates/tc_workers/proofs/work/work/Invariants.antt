use Rattle.tc_workers.specs.Turns.{Steps}
use Rattle.tc_workers.specs.Worker.{IsAtWork, IsStill, view_of}
use Rattle.tc_workers.proofs.work.work.Given as goal

abbrev pub invariant-loop : goal.invariant-loop
invariant-loop g l = (goal.iterator-loop g).can_next l.iterator' × (goal.iterator-loop g).is_finite l.iterator' × IsStill l.fn.worker.desk.pass l.worker.desk.pass × IsAtWork l.bench l.hand (view_of l.worker) × Steps l.bench (view_of l.fn.worker) l.hand (view_of l.worker)
