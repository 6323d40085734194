use Rattle.std.proofs.Common.{rules, append_assoc}
use Rattle.tc_profile.specs.Text.{kinds_text}
use Rattle.tc_profile.proofs.text.push_kinds.Goals as goal

pub returns : goal.returns
unfolding kinds_text
returns c = search (rules, append_assoc)
