-- The words that most proofs here speak of: of the layers below, and of this crate.
pub use Rattle.tc_combiner.specs.Vocabulary.{Adopted, AreTogether, Behind, Block, PassCall, Called, Came, Cut, DidRun, Did_adopt, Did_park, Did_stop, Done, End, Enter, First, Free, GoesOn, Granted, HallView, DeskParts, HasBlock, Has_ended, IsAtRest, IsInOrder, IsInRange, IsNumber, IsOut, IsPlaced, IsSamePass, IsTurn, IsWaiting, Item, Kind, Take}
pub use Rattle.tc_combiner.specs.Vocabulary.{Knows, Leave, LineCall, Link, LockView, Loose, MAX_HELD, MAX_NUMBER, Miss, Next, Outs, Pack, PackageView, Parked, PassView, Passed, Place, Put, QueueView, Ready, Refused, Releases, Sleeping, EndsSection, SeatView, Settled, Shipped, Shown, Slept, Stop, Stopped, Taken, HallTerms, Try_stopped, Turn, Unlocked}
pub use Rattle.tc_combiner.specs.Vocabulary.{Waiting, Wants, Was_adopted, Was_granted, Was_stopped, Went_home, bare, blocks_of, claim_call, code_of, ends_thread, erase, fits_of, has, is_pinned, is_cut, is_running, last_by, last_of, locked_in, locks, locks_of, may_adopt, outs, put_call, run_of, threads, want_of, was_cut, with_line, with_turns, without_lock}
pub use Rattle.std.proofs.lemmas.Bool.{and_parts}
pub use Rattle.std.proofs.lemmas.Bool.Decides.{nat_tests}
pub use Rattle.std.proofs.lemmas.List.{get_or_default, length-map}
pub use Rattle.std.proofs.lemmas.List.Elements.{All-cons, All-nil}
pub use mathlib.Core.Logic.{dite}
pub use native.Mathlib.Decide.{ℕ_discrete}
pub use Rattle.tc_journal.specs.Batch.{ends_section, is_only, is_passed, may_begin, passes_to, unlocks}
pub use Rattle.tc_turn.specs.Turn.{next_lock}
pub use Rattle.tc_segment.specs.View.{kept}
pub use Rattle.tc_context.specs.View.{IsAfter, IsLeft, IsSoundPackage, MayPassTo, WantIsLawful, fits_granted, fits_in, granted_lock, grants_adopted, with_seal}
pub use Rattle.tc_context.specs.Whole.{thread_in}
pub use Rattle.tc_context.specs.declared.package.Grant.{Grant}
pub use Rattle.tc_queue.specs.declared.turn.Departure.{Departure}
pub use Rattle.tc_hall.specs.Outs.{Within, keep, minus, part, unless}
pub use Rattle.tc_hall.specs.Rule.{Has}
pub use Rattle.tc_hall.specs.Steps.{DidSeal, Gets, SawStopped, Seals, Takes, after_miss, after_stopped}
pub use Rattle.tc_combiner.specs.Answers.{AcquiredAs, Acquires, Answers, BeginsAs, DidFirst, EntersFirst, FirstAs, Goes, HasReadied, MayAsk, MayPark, PutAllBack, PutsAside, SetAside, TakenAs, WentOn, back, carried, counted, next_turn, place_back}
pub use Rattle.tc_combiner.specs.Packages.{DidGrant, DidTake, DidTakeOut, HasHeldAnd, HasNoOther, HasNone, HasOnlyHeld, HoldsNone, IsAside, IsGood, IsGoodFor, IsPlain, IsWaiter, MayGoOn, Runs, Wants as Wants_lock}
pub use Rattle.tc_combiner.specs.Release.{AreSameSeats, AtSeat, DidGrantNext, DidLeave, DidLeaveAll, DidPass, EndedAs, Ending, Ends, FollowedAs, GaveUp, GrantedAs, IsEmptied, IsReleased, IsSameSeat, LeftAs, LeftInOrder, MayEnd, MayGrantNext, MayRelease, MayUnlock, OneLeft, PassedAs, SeatTells, SeatsLeft, UnlockedAs, Unlocks, adopts, adopted_in, turn_of}
pub use Rattle.tc_combiner.specs.Settling.{DidAcquire, DidEnd, DidNothing, DidPark, DidUnlock, HasSettled, IsAfterBlock, IsInHand, Keeps, KeepsParts, MayAcquire, MayCommit, MaySettle, MovesSealed, SettledAs}
pub use Rattle.tc_combiner.specs.Change.{Change, change}
pub use Rattle.tc_combiner.specs.Steps.{DeskStep, at_lock, at_none, by_desk, by_parts, with_package}
pub use Rattle.tc_combiner.specs.Ties.{EnterTie, LeaveTie, line_of}
pub use Rattle.tc_combiner.specs.View.{AreSeats, BenchView, DeskView, FitsBench, HasSeats, IsSeatFor, desk_of, desk_with, no_seat, seat_at}
pub use Rattle.tc_combiner.specs.Walks.{Acted, Acts, Adds, AreAsked, AskedTimes, Asks, HasSeenStop, HaveNoStop, IsAt, IsAtHall, IsTaken, LooksAfterFirst, LooksBetween, LooksEachTime, MayAct, MayBringHome, MayGive, Moves, Owned, Owns, Shows, TakesDown, Tried, TriedAs, WaitedAs, Waits, counts, failed, looks_in, no_seats, one_seat, packed, ready_in, saw, saw_if, unanswered, unanswered_at}
