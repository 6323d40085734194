use Rattle.std.proofs.Common.{[], length}
use Rattle.tc_mutex_spec.specs.Blocks.{end_after}
use Rattle.tc_mutex_spec.specs.Machine.{start}
use Rattle.tc_profile.proofs.Numbers.{threads_blocks}
use Rattle.tc_main.proofs.Guests.{guest_few}
use Rattle.tc_main.proofs.Sections.{sections_are, threads_known}
use Rattle.tc_main.proofs.counts.counts.Goals as goal

pub returns-clause-sections : goal.returns-clause-sections
returns-clause-sections c = λ file image o h lock guest run.
    let few = guest_few file image guest in
    sections_are image o.fuel h (end_after image o.fuel h) lock few.0 o.most_fuel few.1 run.tells

pub returns-clause-blocks : goal.returns-clause-blocks
returns-clause-blocks c = λ image o h run. threads_blocks h (length image.entries) (threads_known image [] h (start image o.fuel) (end_after image o.fuel h) run.tells)
