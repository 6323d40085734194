-- Definitions of the layers below, and of the types of this crate, that the files beside this one use.
pub use Rattle.tc_isa.specs.Sets.{has, locks_of}
pub use Rattle.tc_isa.specs.declared.limits.TheConstants.{MAX_HELD}
pub use Rattle.tc_elf.specs.Shown.{Shown}
pub use Rattle.tc_journal.specs.Batch.{ends_thread, last_of, may_adopt, run_of}
pub use Rattle.tc_journal.specs.Handing.{AreTogether, is_cut, was_cut}
pub use Rattle.tc_journal.specs.declared.block.Block.{Block}
pub use Rattle.tc_journal.specs.declared.block.End.{End}
pub use Rattle.tc_journal.specs.declared.block.End.TheVariants.{Cut, Slept, Unlocked, Wants}
pub use Rattle.tc_journal.specs.declared.block.Kind.{Kind}
pub use Rattle.tc_journal.specs.declared.block.Kind.TheVariants.{Adopted, Granted, Taken}
pub use Rattle.tc_turn.specs.Turn.{is_running}
pub use Rattle.tc_nested.specs.Release.{Releases}
pub use Rattle.tc_segment.specs.View.{IsAtRest, LockView, blocks_of, EndsSection}
pub use Rattle.tc_context.specs.Locks.{IsPlaced}
pub use Rattle.tc_context.specs.Ran.{DidRun}
pub use Rattle.tc_context.specs.View.{AllowsPending, HasBlock, IsNumber, IsWaiting, PackageView, bare, fits_of, number_in, want_of, with_grant, with_turns, without_lock}
pub use Rattle.tc_context.specs.declared.package.TheConstants.{MAX_NUMBER}
pub use Rattle.tc_queue.specs.Lines.{Behind, Enter, Entered, First, IsSeatOf, Leave, LineCall, Link, Next, SeatView, with_line}
pub use Rattle.tc_queue.specs.View.{QueueView}
pub use Rattle.tc_queue.specs.Words.{IsTurn}
pub use Rattle.tc_queue.specs.declared.turn.Departure.TheVariants.{Left}
pub use Rattle.tc_queue.specs.declared.turn.Turn.{Turn}
pub use Rattle.tc_hall.specs.Outs.{Called, IsOut, Item, Loose, Outs, Pack, erase, outs}
pub use Rattle.tc_hall.specs.PassView.{HallView, PassView}
pub use Rattle.tc_hall.specs.Places.{IsInRange, code_of}
pub use Rattle.tc_hall.specs.Rule.{IsInOrder, IsOwn, is_pinned, last_by, locked_in, locks, threads}
pub use Rattle.tc_hall.specs.Steps.{HandsPending, IsSamePass, claim_call, put_call}
pub use Rattle.tc_hall.specs.declared.board.PassCall.{PassCall}
pub use Rattle.tc_hall.specs.declared.board.PassCall.TheVariants.{Claim, Commit, Free, Line, Put, Stop, Stopped, Take}
pub use Rattle.tc_hall.specs.declared.board.Knows.{Knows}
pub use Rattle.tc_hall.specs.declared.board.Miss.{Miss}
pub use Rattle.tc_hall.specs.declared.board.HallTerms.{HallTerms}
pub use Rattle.tc_hall.specs.declared.place.Place.{Place}
pub use Rattle.tc_hall.specs.declared.place.Place.TheVariants.{Done, Parked, Ready, Waiting}
pub use Rattle.tc_combiner.specs.declared.attempt.Attempt.{Attempt}
pub use Rattle.tc_combiner.specs.declared.attempt.Attempt.TheVariants.{Came, Refused, Stopped as Try_stopped}
pub use Rattle.tc_combiner.specs.declared.found.Asked.{Asked}
pub use Rattle.tc_combiner.specs.declared.found.Asked.TheVariants.{Next as Next_asked, Nobody as Nobody_asked, Unlinked}
pub use Rattle.tc_combiner.specs.declared.found.Found.{Found}
pub use Rattle.tc_combiner.specs.declared.found.Found.TheVariants.{Next as Next_is, Nobody, Stopped as Find_stopped}
pub use Rattle.tc_combiner.specs.declared.parts.DeskParts.{DeskParts}
pub use Rattle.tc_combiner.specs.declared.parts.Sleeping.{Sleeping}
pub use Rattle.tc_combiner.specs.declared.passed.Passed.{Passed}
pub use Rattle.tc_combiner.specs.declared.passed.Passed.TheVariants.{Adopted as Was_adopted, Granted as Was_granted, Home as Went_home, Stopped as Was_stopped}
pub use Rattle.tc_combiner.specs.declared.settled.Settled.{Settled}
pub use Rattle.tc_combiner.specs.declared.settled.Settled.TheVariants.{Adopted as Did_adopt, Ended as Has_ended, GoesOn, Parked as Did_park, Shipped, Stopped as Did_stop}
