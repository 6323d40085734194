use Rattle.tc_exec.proofs.Laws.{guard_is_held, put_is_held, unlock_is_held, lock_is_free, lock_wants_nothing, lock_is_above, answer_is_unread, registers_are_kept}
use Rattle.tc_exec.proofs.instruction_laws.laws.Goals as goal

pub returns : goal.returns
returns c = record {
  guard_is_held = guard_is_held;
  put_is_held = put_is_held;
  unlock_is_held = unlock_is_held;
  lock_is_free = lock_is_free;
  lock_wants_nothing = lock_wants_nothing;
  lock_is_above = lock_is_above;
  answer_is_unread = answer_is_unread;
  registers_are_kept = registers_are_kept;
}
