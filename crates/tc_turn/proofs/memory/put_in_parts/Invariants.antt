use Rattle.tc_turn.proofs.Vocabulary.{◌≡◌, ◌++◌, map, take, drop, part_with}
use Rattle.tc_turn.proofs.memory.put_in_parts.Given as goal

abbrev pub invariant-loop-part : goal.invariant-loop-part
invariant-loop-part l = l.parts ≡ map (part_with l.addr l.width l.value) (take l.part-index l.initial.parts) ++ drop l.part-index l.initial.parts
