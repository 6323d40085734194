use Rattle.tc_queue.proofs.Served.{serves}
use Rattle.tc_queue.proofs.laws.serving.Goals as goal

pub returns : goal.returns
returns c = serves
