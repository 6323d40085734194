use Rattle.tc_context.proofs.Vocabulary.{◌≡◌, ◌≤◌, ◌<◌, ◌+◌, ◌*◌, ◌-◌, length, has, GoesOn, MayRun, fuelled}
use Rattle.tc_context.proofs.context.Context.run_stretch.Given as goal

abbrev pub invariant-run : goal.invariant-run
invariant-run l = record {
  runs : GoesOn l.image (has l.block) (l.most - l.left) l.fn.self (fuelled (l.fn.self.guest.fuel - (l.most - l.left)) l.self);
  fuel : l.self.guest.fuel ≡ l.fn.self.guest.fuel;
  most : l.left ≤ l.most;
  slot : l.slot < length l.stretch.slots.now → l.stretch.start + 4 * l.slot ≡ l.self.guest.regs.pc;
  may : MayRun l.image (has l.block) l.left l.self;
}

abbrev pub decreases-run : goal.decreases-run
decreases-run l = l.left
