-- Delegation as a history shows it: rules beyond the batch rule. The worker that begins an Adopted section has
-- just released that lock: among its blocks, the one before unlocked the lock. A cut separates no thread from
-- its worker: the worker's next block is of the same thread, and the thread's next block is at that worker.
use Rattle.std.specs.Prelude.{◌≡◌, ℕ, ◌==◌, Bool, true, false, List, [], ◌∷◌, ◌++◌, filter, Option, Some, None}
use Rattle.tc_journal.specs.Batch.{begins, is_adopted, last_of, unlocks}
use Rattle.tc_journal.specs.History.{of_thread}
use Rattle.tc_journal.specs.declared.block.Block.{Block}
use Rattle.tc_journal.specs.declared.block.End.{End}
use Rattle.tc_journal.specs.declared.block.End.TheVariants.{Wants, Unlocked, Slept, Cut, Exit, Fault, Spent}

-- the blocks of a worker
abbrev pub of_worker : List Block → ℕ → List Block
of_worker h worker = filter (λ b. b.worker == worker) h

-- each block of a list is in this relation to the block before it; blocks may precede the list
abbrev pub EachBehind : (Option Block → Block → Type 0) → List Block → List Block → Type 0
EachBehind Stands before [] = Unit {0}
EachBehind Stands before (b ∷ bs) = Stands (last_of before) b × EachBehind Stands (before ++ b ∷ []) bs

-- ---- over the blocks of one worker

-- there is such a block, and its end unlocks the lock
abbrev pub has_unlocked : ℕ → Option Block → Bool
has_unlocked lock None = false
has_unlocked lock (Some b) = unlocks lock b.end

-- the block, if it begins an Adopted section of a lock, follows a block that unlocked the lock
abbrev pub IsHandedOver : Option Block → Block → Type 0
IsHandedOver last b = (lock : ℕ) → begins lock b ≡ true → is_adopted b.kind ≡ true → has_unlocked lock last ≡ true

-- the worker of these blocks begins each Adopted section of a lock in the block right after one that unlocked the lock
abbrev pub HandsOver : List Block → Type 0
HandsOver bs = EachBehind IsHandedOver [] bs

-- the block, if it follows a block that was cut, is of the same thread
abbrev pub IsRunOn : Option Block → Block → Type 0
IsRunOn None b = Unit {0}
IsRunOn (Some p) b = p.end ≡ Cut → b.thread ≡ p.thread

-- the worker of these blocks goes on with each thread whose block was cut, in its next block
abbrev pub RunsOn : List Block → Type 0
RunsOn bs = EachBehind IsRunOn [] bs

-- ---- over the blocks of one thread

-- the block, if it follows a block that was cut, is of the same worker
abbrev pub IsStillAt : Option Block → Block → Type 0
IsStillAt None b = Unit {0}
IsStillAt (Some p) b = p.end ≡ Cut → b.worker ≡ p.worker

-- the thread of these blocks, if its block was cut, goes on at the same worker
abbrev pub StaysAt : List Block → Type 0
StaysAt bs = EachBehind IsStillAt [] bs

-- ---- over a history

-- each worker hands over and runs on, and each thread stays
pub record Delegates (h : List Block) : Type 0 where
  pub handed : (worker : ℕ) → HandsOver (of_worker h worker)
  pub runs_on : (worker : ℕ) → RunsOn (of_worker h worker)
  pub stays : (thread : ℕ) → StaysAt (of_thread h thread)

-- ---- of two last blocks

abbrev pub is_cut : End → Bool
is_cut (Wants k) = false
is_cut (Unlocked k) = false
is_cut Slept = false
is_cut Cut = true
is_cut Exit = false
is_cut (Fault f) = false
is_cut Spent = false

-- there is such a block, and it was cut
abbrev pub was_cut : Option Block → Bool
was_cut None = false
was_cut (Some b) = is_cut b.end

-- of a worker's last block and a thread's last block, one was cut only if they are the same block:
-- the worker then goes on with the thread, and the thread stays at the worker
pub record AreTogether (worker thread : Option Block) : Type 0 where
  pub goes_on : was_cut worker ≡ true → worker ≡ thread
  pub stays : was_cut thread ≡ true → worker ≡ thread
