use Rattle.tc_turn.proofs.Vocabulary.{◌≡◌, starting_bytes}
use Rattle.tc_turn.proofs.memory.single_bytes.Given as goal

abbrev pub invariant-loop-i : goal.invariant-loop-i
invariant-loop-i l = l.bytes.items ≡ starting_bytes l.image l.start l.i
