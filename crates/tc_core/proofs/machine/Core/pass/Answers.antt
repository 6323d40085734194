use Rattle.tc_core.specs.Events.{passed_to}
use Rattle.tc_core.proofs.Numbers.{line_rest}
use Rattle.tc_core.proofs.Parts.{custody_became}
use Rattle.tc_core.proofs.machine.Core.pass.Goals as goal

pub returns : goal.returns
returns c = custody_became c.args.image.now _ c.args.self.now c.args.lock (λ x. passed_to x c.args.thread c.args.run) c.pass.new.self c.self.view_is c.requires.parts c.requires.lock c.pass.ensures (line_rest _ _ (c.requires.parts.lines c.args.lock))
