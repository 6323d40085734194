-- What holds for a desk that is driven by hand.
use Rattle.std.specs.Prelude.{◌≡◌, List, length, Option, Some, None}
use Rattle.tc_journal.specs.declared.block.End.{End}
use Rattle.tc_context.specs.View.{PackageView}
use Rattle.tc_hall.specs.PassView.{PassView}
use Rattle.tc_hall.specs.Rule.{locks}
use Rattle.tc_queue.specs.Lines.{SeatView}
use Rattle.tc_combiner.specs.View.{AreSeats, BenchView, DeskView}
use Rattle.tc_workers.specs.Worker.{HasSealed, IsAtDesk}

-- a desk with this current package, if any, whose last block was sealed and ended so, if that is not settled
abbrev pub IsPlaying : BenchView → DeskView → Option PackageView → Option End → Type 0
IsPlaying b d hand None = IsAtDesk b hand d
IsPlaying b d None (Some end) = ⊥
IsPlaying b d (Some q) (Some end) = HasSealed b end q d

-- the pass is one of the bench's hall
pub record IsAtHall (b : BenchView) (p : PassView) : Type 0 where
  pub hall : b.hall.terms.image.value ≡ b.image
  pub own : p.table ≡ b.hall.table

-- a pass and seats of a desk that has ended
pub record IsKeeper (b : BenchView) (p : PassView) (seats : List SeatView) : Type 0 where
  pub at : IsAtHall b p
  pub queues : length b.queues ≡ locks b.hall.terms
  pub count : length seats ≡ locks b.hall.terms
  pub of : AreSeats b.hall.terms b.queues seats
