use Rattle.std.proofs.Common.{rules, append_assoc}
use Rattle.tc_profile.specs.Text.{workers_text}
use Rattle.tc_profile.proofs.text.push_workers.Goals as goal

pub returns : goal.returns
unfolding workers_text
returns c = search (rules, append_assoc)
