-- The words of the layers below and of halls that most proofs here speak of.
pub use Rattle.atomic_table.specs.Table.{Joins, Splits, gives, keeps, opening, rest, stepped, takes}
pub use Rattle.std.specs.Mem.Slots.{slots_filled, slots_items, slots_len}
pub use Rattle.std.specs.Option.{option_map}
pub use Rattle.tc_context.specs.Locks.{lock_in}
pub use Rattle.tc_context.specs.Ran.{DidRun}
pub use Rattle.tc_context.specs.View.{IsWaiting, PackageView, bare, fits_granted, with_seal}
pub use Rattle.tc_context.specs.Whole.{thread_in, whole}
pub use Rattle.tc_context.specs.declared.package.Grant.{Grant}
pub use Rattle.tc_core.specs.Core.{Core, is_claimable, is_loose, with_custody, with_place}
pub use Rattle.tc_core.specs.Events.{runs}
pub use Rattle.tc_core.specs.Stories.{AreEnabled}
pub use Rattle.tc_core.specs.declared.event.Event.{Event}
pub use Rattle.tc_core.specs.declared.event.Event.TheVariants.{Commit}
pub use Rattle.tc_core.specs.declared.place.Course.{Course}
pub use Rattle.tc_core.specs.declared.place.Custody.{Custody}
pub use Rattle.tc_core.specs.declared.place.LockPlace.{LockPlace}
pub use Rattle.tc_core.specs.declared.place.LockPlace.TheVariants.{Granted, Loose, With}
pub use Rattle.tc_core.specs.declared.place.ThreadPlace.{ThreadPlace}
pub use Rattle.tc_core.specs.declared.place.ThreadPlace.TheVariants.{At}
pub use Rattle.tc_elf.specs.Shown.{Shown}
pub use Rattle.tc_elf.specs.declared.limits.TheConstants.{MAX_GUARDS, MAX_THREADS}
pub use Rattle.tc_isa.specs.Sets.{has}
pub use Rattle.tc_journal.specs.Batch.{last_of}
pub use Rattle.tc_journal.specs.Handing.{AreTogether, IsHandedOver, of_worker, was_cut}
pub use Rattle.tc_journal.specs.History.{of_thread}
pub use Rattle.tc_journal.specs.Rule.{end_rule}
pub use Rattle.tc_journal.specs.declared.block.Block.{Block}
pub use Rattle.tc_journal.specs.declared.block.End.{End}
pub use Rattle.tc_law.specs.Lawful.{IsPackageAfter, IsStateAfter, Lawful, with_states}
pub use Rattle.tc_mutex_spec.specs.Blocks.{end_after, end_at}
pub use Rattle.tc_mutex_spec.specs.Machine.{State}
pub use Rattle.tc_queue.specs.declared.turn.QueueCall.{QueueCall}
pub use Rattle.tc_queue.specs.declared.turn.Turn.{Turn}
pub use Rattle.tc_segment.specs.View.{LockView, kept, lock_of, sealed_as, sealed_block, with_journal}
pub use Rattle.tc_turn.specs.Replay.{unowned}
pub use Rattle.tc_turn.specs.Turn.{Mutex, Thread, is_running, next_lock, outcome_of}
pub use lib.ListN.{get_elem?, length-map, length-replicate}
pub use mathlib.Core.Option.{none, some, some-injective, some-ne-none}
pub use Rattle.tc_hall.specs.Lines.{AreInRange, line_word, lines_of, link_word_of, plain_at, tail_word_of}
pub use Rattle.tc_hall.specs.Effects.{Hall, after, claim_effect, commit_effect, line_effect, look_effect, miss_effect, put_effect, stopped_effect, take_effect}
pub use Rattle.tc_hall.specs.Made.{AreDealt, AreStocked, AreTaken, IsEmptied, IsMaker}
pub use Rattle.tc_hall.specs.Order.{IsClaimable, IsLegal, IsOpening, IsOrdered, IsSlotOut, Made, MayClaim, MayDo, MayFill, Operation, after_operation, claim, commit, free, hall_after, join, lay, line, look, miss, of_lock, of_package, put, reach, split, stop, stopped, take}
pub use Rattle.tc_hall.specs.Closing.{IsEnd}
pub use Rattle.tc_hall.specs.Outline.{IsBetween, Lying, Outline, at_home, in_hand, lies_at, lies_with, outline, packed}
pub use Rattle.tc_hall.specs.Outs.{Called, outs}
pub use Rattle.tc_hall.specs.PassView.{HallView, PassView}
pub use Rattle.tc_hall.specs.Places.{IsInRange, code_of, place_of, slot_word}
pub use Rattle.tc_hall.specs.Rule.{AreApart, AreLocksPlaced, ArePlaced, Has, HasLock, HasStopped, Homes, IsHome, IsInLimits, IsInOrder, IsLockHome, IsLockOut, IsPass, KeptHall, Lies, LiesLock, Spot, clean, grants_adopted, home, inside, is_pinned, last_by, line_places, locked_in, locks, out, starting, threads, words_of}
pub use Rattle.tc_hall.specs.Shown.{IsShown, LockAt, PackageAt, ShowsLock, ShowsThread, as_place, in_slot, last_end, lock_in_package, lock_in_slot, lock_with_pass, place_shown, with_pass}
pub use Rattle.tc_hall.specs.Steps.{DidSeal, Freed, Gave, Gets, HasAll, HasSeenAll, HasStop, IsAsLeft, IsFree, IsStateAsLeft, MayFree, MayPut, Sat, Seals, add_all, after_claim, after_free, after_miss, after_put, after_seal, after_take, claim_call, dealt, fresh, gone, made, merged, put_call, remove_all, seen, with_call}
pub use Rattle.tc_hall.specs.Ties.{Shows, after_events, machine_limits, turns_by}
pub use Rattle.tc_hall.specs.declared.board.PassCall.{PassCall}
pub use Rattle.tc_hall.specs.declared.board.PassCall.TheVariants.{Free, Line, Look, Put, Stop, Stopped, Take}
pub use Rattle.tc_hall.specs.declared.board.Cargo.{Cargo}
pub use Rattle.tc_hall.specs.declared.board.Cargo.TheVariants.{Lock, Package}
pub use Rattle.tc_hall.specs.declared.board.Knows.{Knows}
pub use Rattle.tc_hall.specs.declared.board.HallTerms.{HallTerms}
pub use Rattle.tc_hall.specs.declared.board.TheConstants.{CLOCK, STOP}
pub use Rattle.tc_hall.specs.declared.place.Place.{Place}
pub use Rattle.tc_hall.specs.declared.place.Place.TheVariants.{Done, Parked, Ready, Waiting}
