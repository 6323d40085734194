use Rattle.std.proofs.Common.{◌≡◌, ◌==◌, false, arith}
use Rattle.std.proofs.lemmas.Bool.Decides.{nat_tests}
use Rattle.tc_isa.specs.Registers.{get}
use Rattle.tc_isa.specs.Sets.{has}
use Rattle.tc_exec.proofs.NoLock.{other_number, taken_none}
use Rattle.tc_exec.proofs.code.Code.ahead.Goals as goal

pub returns-then-not-is_numbered_lock : goal.returns-then-not-is_numbered_lock
returns-then-not-is_numbered_lock c =
    let image = c.args.image.now in
    let regs = c.args.regs.now in
    let other : (get regs 17 == 1) ≡ false = (let a = c.is_numbered_lock.ensures in let b = c.if-not-is_numbered_lock.true in grind (arith, nat_tests)) in
    record {
      lock = λ answer. taken_none image (has c.args.held) regs (λ held any. other_number image held regs any other) answer;
      instr = c.requires.known;
    }
