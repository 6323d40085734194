-- The words of the layers below that most proofs here speak of.
pub use Rattle.std.proofs.Common.{All, Bool, List, None, Ok, Option, Some, ℕ, ◌%◌, ◌*◌, ◌++◌, ◌+◌, ◌-◌, ◌/◌, ◌<◌, ◌==◌, ◌^◌, ◌∙◌, ◌∷◌, ◌≡◌, ◌≢◌, ◌≤◌, ◌⊎◌, [], ap, append-nil, append_assoc, arith, drop, false, get_or, if◌then◌else◌, inl, inr, length, length-append, map, nat_le, refl, replicate, set, slice_get, subst, suc, sym, take, true, unwrap_or, zero}
pub use Rattle.std.proofs.lemmas.Bool.{and_parts, false_from_ne_true}
pub use Rattle.std.proofs.lemmas.Bool.Decides.{eqb_tells, leb_tells, nat_tests}
pub use Rattle.std.proofs.lemmas.List.{ext_get_or, get_or-drop, get_or-map, get_or-replicate, get_or_default, length-map, length-replicate, length-set, set_past, take_all, with_items_is}
pub use Rattle.std.proofs.lemmas.List.FromFn.{get_or-map-range_with_len, length-map-range_with_len, map-range_with_len_more}
pub use Rattle.std.proofs.lemmas.Option.{slice_get-get_or, slice_get_past, unwrap_or-slice_get}
pub use Rattle.std.specs.List.{list_any, range_with_len}
pub use Rattle.std.specs.Option.{option_map, option_or}
pub use Rattle.tc_elf.specs.Places.{byte_of, in_writable, lies_in, own_region, stack_length, stack_start, touches}
pub use Rattle.tc_elf.specs.Shown.{Shown, guard_at}
pub use Rattle.tc_elf.specs.declared.image.Region.{Region}
pub use Rattle.tc_exec.proofs.Laws.{guard_is_held, lock_is_free, lock_wants_nothing, put_is_held, unlock_is_held}
pub use Rattle.tc_exec.specs.Calls.{answered, has_lock, is_above_held, lock_fault}
unfoldable pub use Rattle.tc_exec.specs.Calls.{holds_most}
pub use Rattle.tc_exec.specs.Step.{act_by, act_from, instruction_at, wants_by, wants_from}
unfoldable pub use Rattle.tc_exec.specs.Step.{act_of, wants_of}
pub use Rattle.tc_exec.specs.declared.outcome.Act.{Act}
pub use Rattle.tc_exec.specs.declared.outcome.Want.{Want}
pub use Rattle.tc_isa.specs.Registers.{Registers, get}
pub use Rattle.tc_isa.specs.Sets.{has}
unfoldable pub use Rattle.tc_isa.specs.Sets.{locks_of}
pub use Rattle.tc_isa.specs.declared.limits.TheConstants.{MAX_HELD, MAX_TURNS}
pub use Rattle.tc_turn.specs.Memory.{Part, byte_from, number_at, own_bytes, own_of, part_with, put_byte, put_number, starting_byte, starting_bytes, with_byte, with_number}
unfoldable pub use Rattle.tc_turn.specs.Memory.{own_at_start}
pub use Rattle.tc_turn.specs.Own.{HasExecuted, own_number}
pub use Rattle.tc_turn.specs.Parts.{AreApart, no_part, part_at, part_has, with_piece}
pub use Rattle.tc_turn.specs.Reads.{Covers}
pub use Rattle.tc_turn.specs.Turn.{Guest, Mutex, Thread, act_with, answer_of, answer_to, byte_at, guard_with, lock_answer, mutex_after, outcome_of, own_after, plus_lock, taken_by, thread_after, when, with_own}
unfoldable pub use Rattle.tc_turn.specs.Turn.{next_act, next_lock}
pub use Rattle.tc_exec.specs.declared.outcome.Act.TheVariants.{Called, Faulted, Next}
pub use Rattle.tc_exec.specs.declared.outcome.Call.TheVariants.{Exit, Lock, Sleep, Unlock}
