use Rattle.tc_ready.proofs.Keeping.{begins}
use Rattle.tc_ready.proofs.ends.OwnEnd.new.Goals as goal

pub fifo_as-requires : goal.fifo_as-requires
fifo_as-requires c = begins
