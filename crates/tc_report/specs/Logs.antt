-- A history that stands in logs, in parts.
use Rattle.std.specs.Prelude.{ℕ, ◌-◌, ◌^◌, ◌<◌, ◌&&◌, Bool, not, nat_lt, List, length, All, slice_set}
use Rattle.std.specs.List.{flat_map, fold}
use Rattle.std.specs.List.Sorted.{IsNonDecreasingBy}
use denote.Ref.{Bor}
use Rattle.tc_journal.specs.History.{HasEachStamp, placed}
use Rattle.tc_journal.specs.declared.block.Block.{Block}

-- the blocks of all logs, log after log
abbrev pub blocks_in : List (Bor (List Block)) → List Block
blocks_in logs = flat_map (λ log. log.now) logs

-- the history that the logs have in parts: each block at the index of its stamp
abbrev pub merged : List (Bor (List Block)) → List Block
merged logs = placed (blocks_in logs) (blocks_in logs)

-- the stamps of its blocks rise
abbrev pub Rises : Bor (List Block) → Type 0
Rises log = IsNonDecreasingBy (λ (b : Block). b.stamp) log.now

-- logs that have a history in parts: each number below the number of blocks is the stamp of one of them, and
-- the stamps of each log rise
pub record AreLogs (logs : List (Bor (List Block))) : Type 0 where
  pub stamps : HasEachStamp (blocks_in logs)
  pub rise : All Rises logs
  pub few : length (blocks_in logs) < 2 ^ 64

-- whether the block's stamp is from one number on and below another
abbrev pub is_between : ℕ → ℕ → Block → Bool
is_between from to b = not (nat_lt b.stamp from) && nat_lt b.stamp to

-- a row that begins at a stamp, into which these blocks were put, one after the other, each at the index of its stamp
abbrev pub put_from : ℕ → List Block → List Block → List Block
put_from from row blocks = fold (λ r b. slice_set r (b.stamp - from) b) row blocks
