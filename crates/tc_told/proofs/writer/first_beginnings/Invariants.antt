use Rattle.std.proofs.Common.{◌≡◌, ℕ, ◌<◌, length}
use Rattle.tc_journal.specs.declared.block.Kind.TheVariants.{Start}
use Rattle.tc_core.specs.View.{core_of}
use Rattle.tc_told.specs.View.{beginning_at}
use Rattle.tc_told.proofs.writer.first_beginnings.Given as goal

abbrev pub invariant-loop-thread : goal.invariant-loop-thread
invariant-loop-thread l = record {
  each : (t : ℕ) → t < l.thread → beginning_at l.next.items t ≡ record { kind = Start; pc = ((core_of l.core).machine.threads t).regs.pc };
  long : length l.next.items ≡ l.thread;
}
