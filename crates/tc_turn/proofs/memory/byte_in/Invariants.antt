use Rattle.tc_turn.proofs.Vocabulary.{◌≡◌, drop, own_of}
use Rattle.tc_turn.proofs.memory.byte_in.Given as goal

abbrev pub invariant-loop-part : goal.invariant-loop-part
invariant-loop-part l = own_of (drop l.part-index l.parts) l.addr ≡ own_of l.parts l.addr
