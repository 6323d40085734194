use Rattle.tc_ready.proofs.Keeping.{takes}
use Rattle.crossbeam_deque.specs.Handles.{view}
use Rattle.tc_ready.proofs.ends.OtherEnd.steal.Goals as goal

pub steal_as-requires-clause-takes : goal.steal_as-requires-clause-takes
steal_as-requires-clause-takes c = takes c.self.inside.pass.id (view c.self.inside.pass)
