use Rattle.tc_turn.proofs.Vocabulary.{◌≡◌, ℕ, ◌-◌, ◌<◌, ◌≤◌, ◌^◌, own_region}
use Rattle.tc_elf.specs.declared.image.Region.TheVariants as region
use Rattle.tc_turn.proofs.MemoryLaws.{AreMade}
use Rattle.tc_turn.proofs.memory.Memory.start.Given as goal

abbrev pub invariant-pieces : goal.invariant-pieces
invariant-pieces l = record { made : AreMade l.image l.parts.items l.next; past : 0 < l.next → (at : ℕ) → 2 ^ 32 ≤ at → own_region l.image at ≡ region.Nothing; fits : l.next ≤ 2 ^ 32 }

abbrev pub decreases-pieces : goal.decreases-pieces
decreases-pieces l = 2 ^ 32 - l.next
