use Rattle.tc_ready.proofs.Counting.{each_once}
use Rattle.tc_ready.proofs.law.each_once.Goals as goal

pub returns : goal.returns
returns c = each_once
