use Rattle.tc_hall.specs.Standing.{PutsAs}
use Rattle.tc_combiner.proofs.Vocabulary.{Done, Ready}
use Rattle.tc_hall.proofs.Stops.{after_stop}
use Rattle.tc_combiner.proofs.acquire.put_back.Goals as goal

pub put-requires-clause-stands : goal.put-requires-clause-stands
put-requires-clause-stands c = after_stop c.args.hall.now.terms c.args.pass.now.knows (PutsAs c.args.pass.now.knows c.args.«package» Ready) c.requires.stop

pub put-requires-2-clause-stands : goal.put-requires-2-clause-stands
put-requires-2-clause-stands c = after_stop c.args.hall.now.terms c.args.pass.now.knows (PutsAs c.args.pass.now.knows c.args.«package» Done) c.requires.stop
