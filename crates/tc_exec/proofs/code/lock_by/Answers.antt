use Rattle.std.proofs.Common.{subst}
use Rattle.std.specs.Prelude.{MatchBool}
use Rattle.tc_isa.specs.Sets.{has}
use Rattle.tc_exec.specs.Statements.{NeverLocks, CallsLock}
use Rattle.tc_exec.proofs.NoLock.{taken_none}
use Rattle.tc_exec.proofs.code.lock_by.Goals as goal

pub returns-then-not-calls_lock : goal.returns-then-not-calls_lock
returns-then-not-calls_lock c =
    let image = c.args.image.now in
    let regs = c.args.regs.now in
    taken_none image (has c.args.held) regs (subst (λ b. MatchBool b (CallsLock image regs) (NeverLocks image regs)) c.if-not-calls_lock.true c.calls_lock.ensures)

pub lock_called-requires : goal.lock_called-requires
lock_called-requires c =
    let image = c.args.image.now in
    let regs = c.args.regs.now in
    subst (λ b. MatchBool b (CallsLock image regs) (NeverLocks image regs)) c.if-not-calls_lock.false c.calls_lock.ensures
