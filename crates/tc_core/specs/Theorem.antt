-- What every story refines, after workers and delegation are erased.
use Rattle.std.specs.Prelude.{◌≡◌, ℕ, zero, suc, List, [], ◌∷◌, ◌++◌, length, Some, None}
use Rattle.tc_isa.specs.Sets.{has}
use Rattle.tc_elf.specs.Shown.{Shown}
use Rattle.tc_journal.specs.declared.block.End.{End}
use Rattle.tc_mutex_spec.specs.Machine.{State, start, turns, run, IsHeldByOwner}
use Rattle.tc_mutex_spec.specs.Blocks.{Runs}
use Rattle.tc_core.specs.Core.{Core, is_number, with_of}
use Rattle.tc_core.specs.Stories.{Story, last_core, turns_of, blocks_of}

-- the abstraction function to the mutex machine: places, workers and queues are erased
abbrev pub forget : Core → State
forget c = c.machine

-- ---- step by step

-- refinement: the steps of the story, in the same order, are a run of the mutex machine, in which
-- the owner of a lock is the thread that holds it
pub record IsErased (s : Story) : Type 0 where
  pub run : turns s.image (start s.image s.fuel) (turns_of s.events) ≡ Some (forget (last_core s))
  pub owners : IsHeldByOwner (forget (last_core s))

-- ---- block by block

-- the first n threads, each with its number
abbrev pub pairs_of : (ℕ → ℕ) → ℕ → List (ℕ × ℕ)
pairs_of number zero = []
pairs_of number (suc n) = pairs_of number n ++ (n, number n) ∷ []

-- each thread with the number of steps of its present block
abbrev pub unfinished : Shown → Core → List (ℕ × ℕ)
unfinished image c = pairs_of (λ t. (c.course t).turns) (length image.entries)

-- each pair is a whole block where it comes in the run
abbrev pub AreBlocks : Shown → State → List (ℕ × ℕ) → Type 0
AreBlocks image m [] = Unit {0}
AreBlocks image m (p ∷ ps) = (end : End) × (to : State) × Runs image m p.0 p.1 end to × AreBlocks image to ps

-- the committed blocks in the order of their commits, and then the unfinished ones in the order of
-- their threads, are a run to the same state; each committed one is a block there
pub record IsGathered (s : Story) : Type 0 where
  pub all : run s.image s.fuel (blocks_of s.events ++ unfinished s.image (last_core s)) ≡ Some (forget (last_core s))
  pub closed : ((t : ℕ) → ((last_core s).course t).turns ≡ 0) → run s.image s.fuel (blocks_of s.events) ≡ Some (forget (last_core s))
  pub blocks : AreBlocks s.image (start s.image s.fuel) (blocks_of s.events)

-- ---- the locks of a block

-- the held set of each thread's present block is the locks that the thread has; before the block's
-- first step, and as long as it goes on, those are the locks that the thread holds
pub record IsTracked (c : Core) : Type 0 where
  pub with : (t k : ℕ) → has (c.course t).held k ≡ is_number (with_of (c.custody k).place) t
  pub holds : (t k : ℕ) → (c.course t).ended ≡ None → has (c.course t).held k ≡ (c.machine.threads t).held k
