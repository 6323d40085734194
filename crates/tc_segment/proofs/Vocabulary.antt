-- The words of the layers below and of lock states that most proofs here speak of.
pub use Rattle.std.proofs.Common.{Bool, Global, IfSome, List, None, Option, Some, Vec, ℕ, ◌&&◌, ◌*◌, ◌++◌, ◌+◌, ◌-◌, ◌/◌, ◌<◌, ◌^◌, ◌||◌, ◌↔◌, ◌∙◌, ◌∷◌, ◌≡◌, ◌≤◌, [], ap, append-nil, append_assoc, arith, cond, drop, false, get_or, if◌then◌else◌, inl, inr, is_some, length, length-append, length-drop, map, nat_lt, not, refl, set, slice_get, slice_index, subst, suc, sym, take, true, vec_capacity}
pub use Rattle.std.proofs.Common.{vec_len, w32}
pub use Rattle.std.specs.Int.Bits.{and_self, and_step, bit_and}
pub use Rattle.std.specs.Option.{option_map, option_map_or}
pub use Rattle.tc_elf.specs.Shown.{Shown, guard_at}
pub use Rattle.tc_isa.specs.Registers.{IsRegisters, Registers, with_register}
pub use Rattle.tc_journal.specs.Batch.{Obeys, PassesOn, begins, ends_section, ends_thread, is_adopted, is_only, last_of, may_adopt, may_begin, passes_to, run_after, run_of, unlocks}
unfoldable pub use Rattle.tc_journal.specs.Batch.{allows_of, may_follow, passes_on}
pub use Rattle.tc_journal.specs.declared.block.Block.{Block}
pub use Rattle.tc_journal.specs.declared.block.End.{End}
pub use Rattle.tc_journal.specs.declared.block.Kind.TheVariants.{Adopted, Taken}
pub use Rattle.tc_turn.specs.Replay.{AreReplayed, Entry, Replays, replay_entry, replayed}
pub use Rattle.tc_turn.specs.Turn.{Mutex, mutex_at_start}
pub use Rattle.tc_segment.specs.Kept.{AllFit, AreCounted, AreParts, HasRooms, Fits, IsNear, KeptLock, OpenFits, block_of, count, entry_room_in, grounds, open_in, sealed_record, shown, shown_journal, shown_open, start_of, steps_of, view_of, words_of}
pub use Rattle.tc_segment.specs.Packed.{ArePacked, Edges, Extends, IsPlace, StandsAt, StandsBeside, StandsLast, behind, mask_of, packed, unusual}
unfoldable pub use Rattle.tc_segment.specs.Packed.{regs_at, spread, usual}
pub use Rattle.tc_segment.specs.View.{Closes, ClosesWith, EndedAt, IsAtRest, IsSoundLock, IsStrict, Journal, LockView, Opened, block_in, blocks_of, closed_with, entries, entry_from, finish_in, fresh_state, kept, last_finish, lock_of, more_words, noted, opened_at, passes_in, replay_in, sealed_as, sealed_block, sealed_entry, sealed_list, strict_as, with_closed, with_end, with_journal}
pub use Rattle.tc_segment.specs.declared.record.Opening.{Opening}
pub use Rattle.tc_segment.specs.declared.record.Record.{Record}
pub use Rattle.tc_segment.specs.declared.state.Contents.{Contents}
pub use Rattle.std.proofs.lemmas.Bool.{and_parts, cases_lt}
pub use Rattle.std.proofs.lemmas.Bool.Decides.{Decides-eqb, nat_tests}
pub use Rattle.std.proofs.lemmas.List.{drop-append-le, drop-drop, drop_all, drop_at, get_or-drop, length-map, length-set, length-take, map-append, map-set, take-append-drop, take-append-le, take-map, take_all, take_more_set}
pub use Rattle.std.proofs.lemmas.Option.{slice_get-get_or, slice_get-map, slice_get_cases, slice_get_past, slice_get_read, slice_get_within}
pub use Rattle.tc_journal.proofs.Batching.{obeys-more, passes-more, run_from-more}
pub use Rattle.tc_segment.specs.Edges.{room_in}
pub use Rattle.tc_turn.specs.Memory.{starting_byte, starting_bytes}
pub use Rattle.tc_segment.specs.View.{MayFollow, MayPass}
