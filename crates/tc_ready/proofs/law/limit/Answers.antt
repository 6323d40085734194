use Rattle.tc_ready.proofs.Emptying as lemma
use Rattle.tc_ready.proofs.law.limit.Goals as goal

pub returns : goal.returns
returns c = lemma.limit
