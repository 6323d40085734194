use Rattle.std.proofs.Common.{◌≡◌, ◌++◌}
use Rattle.std.specs.Prelude.{string_bytes}
use Rattle.std.specs.List.{range_with_len, flat_map}
use Rattle.tc_profile.specs.Text.{lock_text}
use Rattle.tc_profile.proofs.text.push_locks.Given as goal

abbrev pub invariant-loop-number : goal.invariant-loop-number
invariant-loop-number l = string_bytes l.out ≡ string_bytes l.fn.out ++ flat_map (lock_text l.profile.history) (range_with_len 0 l.number)
