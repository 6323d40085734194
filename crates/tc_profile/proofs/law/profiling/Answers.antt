use Rattle.tc_profile.proofs.Numbers.{kinds, longest_within, changes_or_adopted, threads_blocks}
use Rattle.tc_profile.proofs.law.profiling.Goals as goal

pub returns : goal.returns
returns c = record { kinds = kinds; longest = longest_within; changes = changes_or_adopted; blocks = threads_blocks }
