-- The words of the layers below and of packages that most proofs here speak of.
pub use Rattle.std.proofs.Common.{Bool, Global, IfSome, List, None, Option, Some, Vec, ℕ, ◌&&◌, ◌*◌, ◌++◌, ◌+◌, ◌-◌, ◌<◌, ◌==◌, ◌||◌, ◌∙◌, ◌∷◌, ◌≡◌, ◌≤◌, [], add-one, ap, arith, ext_get_or, false, get_or, if◌then◌else◌, inl, inr, is_some, length, length-set, map, nat_lt, not, refl, rules, set, slice_get, slice_index_or, subst, suc, sym, true, vec_capacity, vec_len, zero}
pub use Rattle.std.specs.Option.{option_map}
pub use Rattle.tc_isa.specs.Sets.{has}
unfoldable pub use Rattle.tc_isa.specs.Sets.{locks_of}
pub use Rattle.tc_isa.specs.declared.limits.TheConstants.{MAX_HELD, MAX_TURNS}
pub use Rattle.tc_elf.specs.Shown.{Shown, guard_at}
pub use Rattle.tc_turn.specs.Turn.{Guest, Mutex, Thread, act_with, answer_of, answer_to, given_up, guard_with, is_running, mutex_after, next_lock, outcome_of, own_after, plus_lock, released, taken, thread_after, thread_at_start, thread_of, when, with_own}
unfoldable pub use Rattle.tc_turn.specs.Turn.{next_act}
pub use Rattle.tc_segment.specs.View.{Closes, EndedAt, HasRoomFor, IsAtRest, IsStrict, Journal, LockView, Opened, block_in, blocks_of, closed_with, entry_from, guard_of, kept, last_finish, lock_of, noted, opened_at, sealed_as, sealed_block, sealed_entry, sealed_list, sealed_with, with_break, with_journal, with_section, with_store, EndsSection}
pub use Rattle.tc_context.specs.declared.context.Context.{Context}
pub use Rattle.tc_context.specs.Locks.{AreOf, CanSeal, Changed, EachHeld, EachLock, Gives, HoldsAt, IsLockOf, IsPlaced, IsReady, IsUnsealed, IsWithin, MayGoOn, SameLocks, StoreFits, StoreReady, TurnFits, TurnReady, at_place, broken_in, closed_all, lock_in, mutex_of, mutex_or, noted_in, opened_in, sealed_all, sealed_in, slot_of, stored_in, turned, when_in}
pub use Rattle.tc_context.specs.Whole.{AreEnded, CanGo, Journals, Keeps, RunsAs, block_locks, entered, entry_of, journal_at, journal_in, mutex_at, set_of, thread_in, whole, with_entry}
pub use Rattle.tc_context.specs.Middle.{AreNoted, AreOpen, AreReady, DidTurn, GoesOn, HasRoom, IsStep, IsTurn, MayTurn, act_in, noted_when, words_of}
pub use Rattle.tc_context.specs.View.{Allows, EndsWith, IsAfter, IsAt, IsFresh, IsGranted, IsIdle, IsLeft, IsNumber, IsPending, IsReserved, IsRoomier, IsSoundPackage, IsStored, IsWaiting, IsWanted, LastIsSealed, MayPassTo, MayTake, PackageView, bare}
pub use Rattle.tc_context.specs.View.{WantIsGranted, fits_granted, fits_in, fits_of, granted_lock, kind_of, number_in, sealed_log, waiting_in, want_of, with_grant, with_seal, without_lock}
pub use Rattle.tc_context.specs.Kept.{DidSealLast, KeptPackage, context_with, guest_in, locks_with, pending_in, view_of, view_with}
pub use Rattle.tc_journal.specs.Batch.{allows_of, begins, ends_section, ends_thread, is_lock, is_section, last_of, may_go_on, passes_on, passes_to, takes_of}
pub use Rattle.tc_journal.specs.declared.block.Block.{Block}
pub use Rattle.std.proofs.lemmas.Bool.{and_parts, not-false}
pub use Rattle.std.proofs.lemmas.Bool.Decides.{eqb_tells, nat_tests}
pub use Rattle.std.proofs.lemmas.List.{length-map, map-append}
pub use Rattle.std.proofs.lemmas.Option.{slice_get-get_or, slice_get-map, slice_get_within}
pub use Rattle.tc_context.specs.Block.{DidRunBlock, DidTurns, MayRunBlock, block_of, shut}
pub use Rattle.tc_context.specs.Ran.{DidRun, slept_at, slept_by, slept_in}
pub use Rattle.tc_context.specs.Run.{HasGone, IsGone, MayRun, fuelled}
pub use Rattle.tc_context.specs.declared.package.Grant.{Grant}
pub use Rattle.tc_context.specs.declared.room.Room.{Room}
pub use Rattle.tc_elf.specs.Places.{in_guard, region_of}
pub use Rattle.tc_elf.specs.declared.image.Region.{Region}
pub use Rattle.tc_exec.proofs.Touches.{load_ends, open_load, open_store, open_want}
pub use Rattle.tc_exec.specs.Access.{extended, load_width, put_at, store_width}
pub use Rattle.tc_exec.specs.Flow.{at_next}
pub use Rattle.tc_exec.specs.InPlace.{done_of}
pub use Rattle.tc_exec.specs.Step.{act_of, wants_of}
pub use Rattle.tc_exec.specs.Told.{IsAct, IsPut, taken_by}
pub use Rattle.tc_exec.specs.declared.outcome.Act.{Act}
pub use Rattle.tc_exec.specs.declared.outcome.Done.{Done}
pub use Rattle.tc_exec.specs.declared.outcome.Put.{Put}
pub use Rattle.tc_exec.specs.declared.outcome.Want.{Want}
pub use Rattle.tc_isa.specs.Registers.{Registers, with_register}
pub use Rattle.tc_journal.specs.Rule.{end_rule}
pub use Rattle.tc_journal.specs.declared.block.End.{End}
pub use Rattle.tc_journal.specs.declared.block.Kind.{Kind}
pub use Rattle.tc_lemmas.proofs.Tests.{eq_self}
pub use Rattle.tc_mutex_spec.proofs.BlocksAlike.{covers_block, runs_apart, runs_same}
pub use Rattle.tc_mutex_spec.proofs.Going.{block_broken, block_gives, block_inside, block_survives, end_done, in_block, next_small}
pub use Rattle.tc_mutex_spec.proofs.ListLaws.{get-set, get_or-set}
pub use Rattle.tc_mutex_spec.proofs.Local.{after_mutex, after_thread, agree_at, agree_trans, apart_at, covers_at}
pub use Rattle.tc_mutex_spec.proofs.OptionLaws.{map_some, option_map-id, option_map-twice, some_map, some_of}
pub use Rattle.tc_mutex_spec.proofs.Replaying.{IsRecord, record_takes, replay_is, replays, running_is, words_next}
pub use Rattle.tc_mutex_spec.specs.Blocks.{Runs, locks_of_block, reach}
pub use Rattle.tc_mutex_spec.specs.Locality.{Agree, Apart}
pub use Rattle.tc_mutex_spec.specs.Machine.{State, after, is_free, is_open}
unfoldable pub use Rattle.tc_mutex_spec.specs.Machine.{can_turn}
pub use Rattle.tc_turn.proofs.Turns.{act_some, act_takes, covers_on, goes_on, held_on, next_acts, next_by_own, next_free, next_fueled, next_known, next_wants, went_on}
pub use Rattle.tc_turn.proofs.Words.{word_same, word_short, words_now, words_short}
pub use Rattle.tc_turn.specs.InPlace.{DoneFits, faulted_if, outcome_done}
pub use Rattle.tc_turn.specs.Memory.{IsAccess, Part, own_of, put_number}
pub use Rattle.tc_turn.specs.Own.{HasExecuted, HasLoaded, HasStored, IsLoad, IsOwnLoad, IsOwnStore, IsPlain, IsStore}
pub use Rattle.tc_turn.specs.Reads.{Covers}
pub use Rattle.tc_turn.specs.Replay.{Entry, Replays, ended, replay_entry, takes_word, unowned, word_of}
pub use Rattle.tc_exec.specs.declared.outcome.Act.TheVariants.{Next}
pub use Rattle.tc_turn.specs.declared.status.Status.TheVariants.{Running}
pub use Rattle.tc_journal.proofs.Batching.{last_more}
pub use Rattle.tc_segment.proofs.Sealing.{closes_sealed, sealed_last}
pub use Rattle.tc_exec.specs.declared.outcome.Call.TheVariants.{Exit, Lock, Sleep, Unlock}
pub use Rattle.tc_exec.specs.declared.outcome.Want.TheVariants.{Load, Nothing}
pub use Rattle.tc_context.specs.declared.package.Contents.{Contents}
pub use Rattle.tc_elf.specs.declared.image.Region.TheVariants.{Guard}
pub use Rattle.tc_exec.specs.declared.outcome.Done.TheVariants.{Stored}
