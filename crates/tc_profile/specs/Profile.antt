-- What a history shows of delegation: the numbers of each lock and each thread, as functions of the history.
use Rattle.std.specs.Prelude.{ℕ, ◌+◌, ◌==◌, not, max, Bool, true, false, if◌then◌else◌, List, [], ◌∷◌, ◌++◌, map, filter, drop, length, Option, Some, None, option_map, sum_by}
use Rattle.tc_journal.specs.Batch.{begins, is_adopted, run_of, last_of}
use Rattle.tc_journal.specs.History.{of_lock, of_thread}
use Rattle.tc_journal.specs.declared.block.Block.{Block}
use Rattle.tc_journal.specs.declared.block.Kind.{Kind}
use Rattle.tc_journal.specs.declared.block.Kind.TheVariants.{Start, On, Taken, Adopted, Granted}
use Rattle.tc_profile.specs.declared.tally.LockProfile.{LockProfile}
use Rattle.tc_profile.specs.declared.tally.ThreadProfile.{ThreadProfile}

-- ---- functions on numbers

abbrev pub one_if : Bool → ℕ
one_if v = if v then 1 else 0

-- the greatest of some numbers, 0 of none
abbrev pub greatest : List ℕ → ℕ
greatest [] = 0
greatest (n ∷ ns) = max n (greatest ns)

-- there is such a number, and it differs
abbrev pub is_other : Option ℕ → ℕ → Bool
is_other None n = false
is_other (Some m) n = not (m == n)

-- how many numbers differ from the number before, where this one, if there is one, is before the first
abbrev pub changes_behind : Option ℕ → List ℕ → ℕ
changes_behind before [] = 0
changes_behind before (n ∷ ns) = one_if (is_other before n) + changes_behind (Some n) ns

-- how many numbers of a list, from the second on, differ from the number before
abbrev pub changes_in : List ℕ → ℕ
changes_in ns = changes_behind None ns

-- ---- blocks

abbrev pub worker_of : Block → ℕ
worker_of b = b.worker

abbrev pub is_taken : Kind → Bool
is_taken Start = false
is_taken On = false
is_taken Taken = true
is_taken Adopted = false
is_taken Granted = false

abbrev pub is_granted : Kind → Bool
is_granted Start = false
is_granted On = false
is_granted Taken = false
is_granted Adopted = false
is_granted Granted = true

-- a block of a history, and all blocks before it
pub record Placed : Type 0 where
  pub before : List Block
  pub block : Block

-- each block of a list with those before it, where these blocks precede the list
abbrev pub placed_behind : List Block → List Block → List Placed
placed_behind before [] = []
placed_behind before (b ∷ bs) = record { before = before; block = b } ∷ placed_behind (before ++ b ∷ []) bs

-- each block of a history with those before it
abbrev pub each_placed : List Block → List Placed
each_placed h = placed_behind [] h

-- ---- a lock

-- the blocks that begin a section of the lock, each with all blocks before it
abbrev pub sections_placed : List Block → ℕ → List Placed
sections_placed h lock = filter (λ p. begins lock p.block) (each_placed h)

-- how many of some sections are of such a kind
abbrev pub of_kind : (Kind → Bool) → List Placed → ℕ
of_kind is_kind sections = length (filter (λ p. is_kind p.block.kind) sections)

-- the streak with a section: the number of consecutive Adopted sections of the lock up to it
abbrev pub streak_with : ℕ → Placed → ℕ
streak_with lock p = run_of lock (of_lock (p.before ++ p.block ∷ []) lock)

-- the longest streak of a lock with these sections
abbrev pub longest : ℕ → List Placed → ℕ
longest lock sections = greatest (map (streak_with lock) sections)

-- a section began on another worker than that of the lock's block before it
abbrev pub is_change : ℕ → Placed → Bool
is_change lock p = is_other (option_map worker_of (last_of (of_lock p.before lock))) p.block.worker

-- how many sections of a lock, from the second on, began so
abbrev pub changes : ℕ → List Placed → ℕ
changes lock sections = length (filter (is_change lock) (drop 1 sections))

-- the worker of this block before, or of the block itself if there is none before
abbrev pub worker_or_own : Option Block → Block → ℕ
worker_or_own None b = b.worker
worker_or_own (Some before) b = before.worker

-- the home worker of a section: where its thread ran last, or the section's own if it ran nowhere yet
abbrev pub home_worker : Placed → ℕ
home_worker p = worker_or_own (last_of (of_thread p.before p.block.thread)) p.block

-- the home workers of some sections, in their order
abbrev pub homes : List Placed → List ℕ
homes sections = map home_worker sections

-- the numbers of a lock with these sections
abbrev pub profile_of_sections : ℕ → List Placed → LockProfile
profile_of_sections lock sections = record {
  sections = length sections;
  taken = of_kind is_taken sections;
  adopted = of_kind is_adopted sections;
  granted = of_kind is_granted sections;
  longest = longest lock sections;
  changes = changes lock sections;
  home = changes_in (homes sections);
}

-- the numbers of a lock in a history
abbrev pub lock_profile : List Block → ℕ → LockProfile
lock_profile h lock = profile_of_sections lock (sections_placed h lock)

-- ---- a thread

-- the numbers of a thread; a move is a block on another worker than the thread's block before
abbrev pub thread_profile : List Block → ℕ → ThreadProfile
thread_profile h t = record {
  blocks = length (of_thread h t);
  turns = sum_by (λ b. b.turns) (of_thread h t);
  moves = changes_in (map worker_of (of_thread h t));
}
