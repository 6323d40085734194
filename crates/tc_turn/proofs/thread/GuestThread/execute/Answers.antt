use Rattle.tc_turn.proofs.Vocabulary.{◌≡◌, Ok, sym, subst, instruction_at, Guest, HasExecuted}
use Rattle.tc_turn.proofs.OwnTurns.{executed}
use Rattle.tc_turn.proofs.thread.GuestThread.execute.Goals as goal

pub returns : goal.returns
returns c = λ image at.
    (let m = c.self.inside in
    let g : Guest = record { regs = m.regs; own = m.own; fuel = m.fuel; status = m.status; held = m.held } in
    subst (λ (h : Guest). HasExecuted image h (record g { regs = c.execute.new.regs }) c.execute.result) c.self.view_is
    (executed image g c.execute.new.regs c.args.instr.now c.execute.result (subst (λ (h : Guest). instruction_at image h.regs.pc ≡ Ok c.args.instr.now) (sym c.self.view_is) at) c.execute.ensures))
