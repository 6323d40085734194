-- The batch rule: which sections of a lock may follow one another. A section of a lock is the blocks
-- from the one that takes it to the one that releases it. An Adopted section is run by the worker that
-- ran the one before it; the batch limit bounds the streak: the number of consecutive Adopted sections.
use Rattle.std.specs.Prelude.{◌≡◌, ℕ, zero, suc, ◌+◌, ◌-◌, length, slice_get, Bool, true, false, not, ◌&&◌, ◌||◌, ◌==◌, nat_lt, nat_le, if◌then◌else◌, List, [], ◌∷◌, ◌++◌, Option, Some, None}
use Rattle.tc_isa.specs.Sets.{has, with_lock}
use Rattle.tc_isa.specs.declared.held.TheConstants.Held.{PLACES}
use Rattle.tc_journal.specs.declared.block.Block.{Block}
use Rattle.tc_journal.specs.declared.block.End.{End}
use Rattle.tc_journal.specs.declared.block.End.TheVariants.{Wants, Unlocked, Slept, Cut, Exit, Fault, Spent}
use Rattle.tc_journal.specs.declared.block.Kind.{Kind}
use Rattle.tc_journal.specs.declared.block.Kind.TheVariants.{Start, On, Taken, Adopted, Granted}

-- ---- one block

-- a block of this kind begins a section: its first step took a lock
abbrev pub is_section : Kind → Bool
is_section Start = false
is_section On = false
is_section Taken = true
is_section Adopted = true
is_section Granted = true

abbrev pub is_adopted : Kind → Bool
is_adopted Start = false
is_adopted On = false
is_adopted Taken = false
is_adopted Adopted = true
is_adopted Granted = false

-- a section of this kind is passed on: a waiter gets the lock from the thread that releases it
abbrev pub is_passed : Kind → Bool
is_passed Start = false
is_passed On = false
is_passed Taken = false
is_passed Adopted = true
is_passed Granted = true

-- the greatest lock of a set, of those below a number
abbrev pub top_below : ℕ → (ℕ → Bool) → Option ℕ
top_below zero held = None
top_below (suc n) held = if held n then Some n else top_below n held

-- the lock that the block's first step took: the greatest of its held set, since a LOCK takes only a lock above these
abbrev pub takes_of : Block → Option ℕ
takes_of b = if is_section b.kind then top_below PLACES (has b.held) else None

abbrev pub is_lock : Option ℕ → ℕ → Bool
is_lock None lock = false
is_lock (Some taken) lock = lock == taken

-- what the block's thread held before its first step
abbrev pub held_before : Block → ℕ → Bool
held_before b lock = has b.held lock && not (is_lock (takes_of b) lock)

-- the block begins a section of the lock
abbrev pub begins : ℕ → Block → Bool
begins lock b = is_lock (takes_of b) lock

-- the block's thread ended with it
abbrev pub ends_thread : End → Bool
ends_thread (Wants k) = false
ends_thread (Unlocked k) = false
ends_thread Slept = false
ends_thread Cut = false
ends_thread Exit = true
ends_thread (Fault f) = true
ends_thread Spent = true

abbrev pub unlocks : ℕ → End → Bool
unlocks lock (Wants k) = false
unlocks lock (Unlocked k) = k == lock
unlocks lock Slept = false
unlocks lock Cut = false
unlocks lock Exit = false
unlocks lock (Fault f) = false
unlocks lock Spent = false

-- the block, one that has the lock, ends a section of it
abbrev pub ends_section : ℕ → Block → Bool
ends_section lock b = unlocks lock b.end || ends_thread b.end

-- the lock is the whole held set
abbrev pub is_only : ℕ → ℕ → Bool
is_only held lock = held == with_lock 0 lock

-- whether the worker of the block goes on with a waiter for the lock: the block released the lock,
-- which was the whole held set, and the streak is below the limit. `run` is the streak
abbrev pub may_adopt : Block → ℕ → ℕ → ℕ → Bool
may_adopt b lock run limit = unlocks lock b.end && is_only b.held lock && nat_lt run limit

-- what keeps a worker from adopting after a section ended: the streak is at the limit, or the block
-- ended its thread or had another lock too
abbrev pub has_cause : Block → ℕ → ℕ → ℕ → Bool
has_cause b lock run limit = nat_le limit run || ends_thread b.end || not (is_only b.held lock)

-- ---- the blocks of a lock before another one

-- the streak: the number of consecutive Adopted sections at the end
abbrev pub run_after : ℕ → ℕ → Block → ℕ
run_after lock n b = if begins lock b then (if is_adopted b.kind then n + 1 else 0) else n

abbrev pub run_from : ℕ → ℕ → List Block → ℕ
run_from lock n [] = n
run_from lock n (b ∷ bs) = run_from lock (run_after lock n b) bs

abbrev pub run_of : ℕ → List Block → ℕ
run_of lock bs = run_from lock 0 bs

abbrev pub last_of : List Block → Option Block
last_of bs = slice_get bs (length bs - 1)

-- ---- what may follow

-- whether a section of this kind, whose first block has this worker, may follow this last block and
-- streak. The first section is Taken. A later one follows only a block that ended a section. It is Adopted
-- only if that block's worker may adopt, and by that worker; it is Granted only if that worker may not.
abbrev pub may_begin : ℕ → ℕ → Option Block → ℕ → Kind → ℕ → Bool
may_begin lock limit last run Start worker = false
may_begin lock limit last run On worker = false
may_begin lock limit None run Taken worker = true
may_begin lock limit None run Adopted worker = false
may_begin lock limit None run Granted worker = false
may_begin lock limit (Some b) run Taken worker = ends_section lock b
may_begin lock limit (Some b) run Adopted worker = may_adopt b lock run limit && (b.worker == worker)
may_begin lock limit (Some b) run Granted worker = ends_section lock b && not (may_adopt b lock run limit)

-- whether a block of this thread may go on with the section of the last block
abbrev pub may_go_on : ℕ → Option Block → ℕ → Bool
may_go_on lock None thread = false
may_go_on lock (Some b) thread = not (ends_section lock b) && (b.thread == thread)

-- whether the batch rule allows a section of this kind, whose first block has this worker, after these blocks
unfoldable pub allows_of : ℕ → ℕ → List Block → Kind → ℕ → Bool
allows_of lock limit before kind worker = may_begin lock limit (last_of before) (run_of lock before) kind worker

-- whether the batch rule allows the block after these
unfoldable pub may_follow : ℕ → ℕ → List Block → Block → Bool
may_follow lock limit before b = if begins lock b then allows_of lock limit before b.kind b.worker else may_go_on lock (last_of before) b.thread

abbrev pub ObeysAfter : ℕ → ℕ → List Block → List Block → Type 0
ObeysAfter lock limit before [] = Unit {0}
ObeysAfter lock limit before (b ∷ bs) = (may_follow lock limit before b ≡ true) × ObeysAfter lock limit (before ++ b ∷ []) bs

-- the blocks of a lock obey the batch limit
abbrev pub Obeys : ℕ → ℕ → List Block → Type 0
Obeys lock limit bs = ObeysAfter lock limit [] bs

-- ---- passing on, beyond the batch rule: a section that is passed on is of another thread than the section before it

-- whether a section of this kind may be this thread's, given the last block of the lock
abbrev pub passes_to : Option Block → Kind → ℕ → Bool
passes_to None kind thread = true
passes_to (Some b) kind thread = not (is_passed kind && (b.thread == thread))

-- whether the block, if it begins a section of the lock, obeys this
unfoldable pub passes_on : ℕ → List Block → Block → Bool
passes_on lock before b = if begins lock b then passes_to (last_of before) b.kind b.thread else true

abbrev pub PassesOnAfter : ℕ → List Block → List Block → Type 0
PassesOnAfter lock before [] = Unit {0}
PassesOnAfter lock before (b ∷ bs) = (passes_on lock before b ≡ true) × PassesOnAfter lock (before ++ b ∷ []) bs

-- each section of the lock that is passed on is of another thread than the one before it
abbrev pub PassesOn : ℕ → List Block → Type 0
PassesOn lock bs = PassesOnAfter lock [] bs
