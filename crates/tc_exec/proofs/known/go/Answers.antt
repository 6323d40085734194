use Rattle.std.proofs.Common.{◌≡◌, rules}
use Rattle.tc_isa.specs.Sets.{has}
use Rattle.tc_exec.specs.InPlace.{done_of}
use Rattle.tc_exec.specs.Step.{act_of}
use Rattle.tc_exec.proofs.Cases.{act_told}
use Rattle.tc_exec.proofs.DoneTold.{done_told}
use Rattle.tc_exec.proofs.known.go.Goals as goal

pub returns-in-Store-clause-told : goal.returns-in-Store-clause-told
unfolding act_of
returns-in-Store-clause-told c =
    let done : c.store.result ≡ done_of (act_of c.args.image.now (has c.args.held) c.args.regs.now c.args.answer) = search rules in
    rw done (done_told c.args.image.now (has c.args.held) _ _ (act_told c.args.image.now (has c.args.held) c.args.regs.now c.args.answer))

pub returns-in-Call-clause-told : goal.returns-in-Call-clause-told
unfolding act_of
returns-in-Call-clause-told c =
    let done : c.guest_call.result ≡ done_of (act_of c.args.image.now (has c.args.held) c.args.regs.now c.args.answer) = search rules in
    rw done (done_told c.args.image.now (has c.args.held) _ _ (act_told c.args.image.now (has c.args.held) c.args.regs.now c.args.answer))
