-- The text of a profile, line by line. Each line ends with a newline, the byte 10.
use Rattle.std.specs.Prelude.{ℕ, List, [], ◌∷◌, ◌++◌, codes, decimal, length}
use Rattle.std.specs.List.{range_with_len, flat_map}
use Rattle.tc_elf.specs.Shown.{Shown}
use Rattle.tc_journal.specs.declared.block.Block.{Block}
use Rattle.tc_profile.specs.declared.tally.LockProfile.{LockProfile}
use Rattle.tc_profile.specs.declared.tally.ThreadProfile.{ThreadProfile}
use Rattle.tc_profile.specs.Profile.{lock_profile, thread_profile}

-- the version of the format
abbrev pub first_line : List ℕ
first_line = codes "tclocks profile 1\n"

-- how many sections of a lock have each kind
unfoldable pub kinds_text : LockProfile → List ℕ
kinds_text p = codes " taken " ++ decimal p.taken ++ codes " adopted " ++ decimal p.adopted ++ codes " granted " ++ decimal p.granted

-- the longest streak of a lock, its changes of worker, and those of the home workers
unfoldable pub workers_text : LockProfile → List ℕ
workers_text p = codes " longest " ++ decimal p.longest ++ codes " changes " ++ decimal p.changes ++ codes " home " ++ decimal p.home

-- a lock's number and its numbers
unfoldable pub lock_line : ℕ → LockProfile → List ℕ
lock_line number p = codes "lock " ++ decimal number ++ codes " sections " ++ decimal p.sections ++ kinds_text p ++ workers_text p ++ 10 ∷ []

-- a thread's number and its numbers
unfoldable pub thread_line : ℕ → ThreadProfile → List ℕ
thread_line number p =
    codes "thread " ++ decimal number ++ codes " blocks " ++ decimal p.blocks ++ codes " turns " ++ decimal p.turns
    ++ codes " moves " ++ decimal p.moves ++ 10 ∷ []

abbrev pub last_line : List ℕ
last_line = codes "end\n"

-- ---- of a history

abbrev pub lock_text : List Block → ℕ → List ℕ
lock_text h lock = lock_line lock (lock_profile h lock)

abbrev pub thread_text : List Block → ℕ → List ℕ
thread_text h t = thread_line t (thread_profile h t)

-- the lines of the guest's locks, which are numbered from 0
abbrev pub locks_text : Shown → List Block → List ℕ
locks_text image h = flat_map (lock_text h) (range_with_len 0 (length image.guards))

-- the lines of the guest's threads, which are numbered from 0
abbrev pub threads_text : Shown → List Block → List ℕ
threads_text image h = flat_map (thread_text h) (range_with_len 0 (length image.entries))

-- the whole text
abbrev pub profile_text : Shown → List Block → List ℕ
profile_text image h = first_line ++ locks_text image h ++ threads_text image h ++ last_line
