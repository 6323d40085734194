use Rattle.std.proofs.Common.{◌≡◌, rules}
use Rattle.tc_isa.specs.Sets.{has}
use Rattle.tc_exec.specs.Step.{wants_of, wants_by}
use Rattle.tc_exec.proofs.Cases.{wants_told}
use Rattle.tc_exec.proofs.known.wants.Goals as goal

pub returns-in-Load : goal.returns-in-Load
unfolding wants_of wants_by
returns-in-Load c =
    let value : c.load_want.result ≡ wants_of c.args.image.now (has c.args.held) c.args.regs.now = search rules in
    record { value = value; told = rw value (wants_told c.args.image.now (has c.args.held) c.args.regs.now) }
