use Rattle.tc_workers.proofs.Joining.{at_work_last}
use Rattle.tc_workers_tests.proofs.stops.spare.Goals as goal

pub player_of-requires-after_bounds : goal.player_of-requires-after_bounds
player_of-requires-after_bounds g c κs within = (at_work_last c.args.bench.now c.pop.new.self.items c.args.crew.now.items c.in-Some.worker c.requires c.in-Some.ensures.items).0

pub returns-clause-rest : goal.returns-clause-rest
returns-clause-rest g c = (at_work_last c.args.bench.now c.pop.new.self.items c.args.crew.now.items c.in-Some.worker c.requires c.in-Some.ensures.items).1
