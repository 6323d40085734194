-- When a block released a lock.
use Rattle.std.specs.Prelude.{◌≡◌, ℕ, true}
use Rattle.tc_isa.specs.Sets.{has}
use Rattle.tc_journal.specs.Batch.{ends_section}
use Rattle.tc_journal.specs.declared.block.Block.{Block}

-- the block had the lock, and released it at its end: by an UNLOCK, or because its thread ended
abbrev pub Releases : ℕ → Block → Type 0
Releases lock b = (has b.held lock ≡ true) × (ends_section lock b ≡ true)
