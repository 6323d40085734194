use Rattle.tc_mutex_spec.proofs.Folding.{tells-more, tells-run}
use Rattle.tc_mutex_spec.proofs.Journals.{has_journal}
use Rattle.tc_mutex_spec.proofs.law.histories.Goals as goal

pub returns-clause-more : goal.returns-clause-more
returns-clause-more c = λ image fuel h m last b told stands. tells-more image _ h _ m last b told stands

pub returns-clause-runs : goal.returns-clause-runs
returns-clause-runs c = λ image fuel h m told. tells-run image _ h _ m told

pub returns-clause-journals : goal.returns-clause-journals
returns-clause-journals c = has_journal
