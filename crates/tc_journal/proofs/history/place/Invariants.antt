use Rattle.std.proofs.Common.{◌≡◌, length, map, take}
use Rattle.tc_journal.specs.History.{placed}
use Rattle.tc_journal.proofs.history.place.Given as goal

abbrev pub invariant-loop-block : goal.invariant-loop-block
invariant-loop-block l = (length l.history ≡ length l.initial.history) × (map (λ b. b.now) l.history ≡ placed (map (λ b. b.now) l.initial.history) (take l.block-index l.log))
