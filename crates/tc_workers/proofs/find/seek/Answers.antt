use Rattle.std.proofs.Common.{refl}
use Rattle.tc_workers.specs.Search.{nothing, tried}
use Rattle.tc_workers.specs.Worker.{view_of}
use Rattle.tc_workers.proofs.find.seek.Goals as goal

pub returns-in-None-clause-search : goal.returns-in-None-clause-search
returns-in-None-clause-search g c = nothing (view_of c.choose.new.worker) c.in-None.ensures.choice c.idle.ensures.pause refl

pub returns-in-Some-clause-search : goal.returns-in-Some-clause-search
returns-in-Some-clause-search g c = tried c.in-Some.from c.in-Some.t (view_of c.choose.new.worker) c.in-Some.ensures.choice c.try_claim.ensures.tried c.try_claim.ensures.rest refl
