-- One lock's side of a block: the bytes of its guard, and the words that came from elsewhere. RV32IM runs on these alone.
use Rattle.std.specs.Prelude.{◌≡◌, ℕ, zero, suc, ◌+◌, ◌<◌, Bool, true, false, not, ◌&&◌, ◌||◌, ◌==◌, if◌then◌else◌, List, [], ◌∷◌, ◌++◌, Option, Some, None, unwrap_or}
use Rattle.tc_isa.specs.Registers.{Registers}
use Rattle.tc_elf.specs.Shown.{Shown, guard_at}
use Rattle.tc_elf.specs.declared.image.Region.{Region}
use Rattle.tc_elf.specs.declared.image.Region.TheVariants as region
use Rattle.tc_exec.specs.Step.{wants_of}
use Rattle.tc_exec.specs.declared.outcome.Act.{Act}
use Rattle.tc_exec.specs.declared.outcome.Want.{Want}
use Rattle.tc_exec.specs.declared.outcome.Want.TheVariants as want
use Rattle.tc_journal.specs.Rule.{end_rule}
use Rattle.tc_journal.specs.Batch.{held_before, ends_thread}
use Rattle.tc_journal.specs.declared.block.Block.{Block}
use Rattle.tc_journal.specs.declared.block.End.{End}
use Rattle.tc_turn.specs.declared.status.Status.TheVariants as status
use Rattle.tc_turn.specs.Memory.{number_at, byte_from}
use Rattle.tc_turn.specs.Turn.{Thread, Mutex, next_lock, lock_answer, answer_to, act_with, outcome_of, thread_after, mutex_after}

-- ---- an entry of a lock's journal

-- a block as the lock saw it: the thread's registers before and after it, its fuel before, and the words from elsewhere
pub record Entry : Type 0 where
  pub block : Block
  pub start : Registers
  pub fuel : ℕ
  pub finish : Registers
  pub foreign : List ℕ

abbrev pub block_in : Entry → Block
block_in e = e.block

-- ---- a replay in the middle of a block

-- a thread without its own memory
abbrev pub bare : Thread → Thread
bare d = record { regs = d.regs; own = λ at. None; fuel = d.fuel; status = d.status; held = d.held }

-- a lock without its owner
abbrev pub unowned : Mutex → Mutex
unowned l = record { bytes = l.bytes; broken = l.broken; sections = l.sections; owner = None }

-- the thread, the lock, and the foreign words that are left
pub record Tape : Type 0 where
  pub thread : Thread
  pub lock : Mutex
  pub foreign : List ℕ

abbrev pub first_or : List ℕ → ℕ
first_or [] = 0
first_or (w ∷ ws) = w

abbrev pub rest_of : List ℕ → List ℕ
rest_of [] = []
rest_of (w ∷ ws) = ws

abbrev pub is_cons : List ℕ → Bool
is_cons [] = false
is_cons (w ∷ ws) = true

-- the number in so many bytes of the lock's guard
abbrev pub guard_number : Shown → ℕ → List ℕ → ℕ → ℕ → ℕ
guard_number image lock bytes addr width = number_at (λ at. unwrap_or (byte_from (guard_at image lock).start bytes at) 0) addr width

-- a load in the guard of the lock itself takes its value from there
abbrev pub is_own_guard : ℕ → Region → Bool
is_own_guard lock region.Text = false
is_own_guard lock region.Private = false
is_own_guard lock region.Stack = false
is_own_guard lock (region.Guard k) = k == lock
is_own_guard lock region.Nothing = false

-- whether a turn takes a foreign word: each load elsewhere, and each lawful LOCK
abbrev pub takes_word : ℕ → Want → Option ℕ → Bool
takes_word lock (want.Load place addr width) next = not (is_own_guard lock place)
takes_word lock want.Nothing None = false
takes_word lock want.Nothing (Some k) = true

abbrev pub tape_answer : Shown → ℕ → Want → Option ℕ → Tape → ℕ
tape_answer image lock (want.Load place addr width) next tape =
    if is_own_guard lock place then guard_number image lock tape.lock.bytes addr width else first_or tape.foreign
tape_answer image lock want.Nothing None tape = 0
tape_answer image lock want.Nothing (Some k) tape = first_or tape.foreign

-- what the next turn does on these data
unfoldable pub tape_act : Shown → ℕ → Tape → Option Act
tape_act image lock tape =
    act_with image tape.thread (tape_answer image lock (wants_of image tape.thread.held tape.thread.regs) (next_lock image tape.thread) tape)

-- whether the turn takes a word from the tape
unfoldable pub tape_takes : Shown → ℕ → Tape → Bool
tape_takes image lock tape = if tape.thread.fuel == 0 then false else takes_word lock (wants_of image tape.thread.held tape.thread.regs) (next_lock image tape.thread)

-- a LOCK of the lock itself is told whether it is broken
abbrev pub fits_lock : ℕ → Option ℕ → Tape → Bool
fits_lock lock None tape = true
fits_lock lock (Some k) tape = if k == lock then first_or tape.foreign == lock_answer tape.lock else true

-- the turn has the words that it needs
unfoldable pub tape_ok : Shown → ℕ → Tape → Bool
tape_ok image lock tape = (not (tape_takes image lock tape) || is_cons tape.foreign) && fits_lock lock (next_lock image tape.thread) tape

-- stores elsewhere are dropped
unfoldable pub tape_after : Shown → ℕ → ℕ → Tape → Tape
tape_after image lock t tape = record {
  thread = bare (thread_after tape.thread (tape_act image lock tape));
  lock = unowned (mutex_after image t tape.thread.held (tape_act image lock tape) lock tape.lock);
  foreign = if tape_takes image lock tape then rest_of tape.foreign else tape.foreign;
}

abbrev pub tapes : Shown → ℕ → ℕ → Tape → ℕ → Tape
tapes image lock t tape zero = tape
tapes image lock t tape (suc n) = tape_after image lock t (tapes image lock t tape n)

-- how the block ends at its turn number n, from 0, if it ends there
abbrev pub tape_end : Shown → ℕ → ℕ → Tape → ℕ → Option End
tape_end image lock t tape n =
    end_rule (outcome_of (tape_act image lock (tapes image lock t tape n))) (n + 1) (next_lock image (tapes image lock t tape (suc n)).thread)

-- ---- the replay of an entry

-- the thread at the block's start: a block begins on a thread that runs
abbrev pub entry_thread : Entry → Thread
entry_thread e = record { regs = e.start; own = λ at. None; fuel = e.fuel; status = status.Running; held = held_before e.block }

abbrev pub tape_of : Entry → Mutex → Tape
tape_of e old = record { thread = entry_thread e; lock = old; foreign = e.foreign }

-- the tape after n of the entry's turns
abbrev pub tape_in : Shown → ℕ → Entry → Mutex → ℕ → Tape
tape_in image lock e old n = tapes image lock e.block.thread (tape_of e old) n

-- the entry's replay on the lock is defined: no turn lacks a word, the block's turns and end are those of the rule by which
-- blocks end, and at the end the registers are the entry's and no word is left
pub record Replays (image : Shown) (lock : ℕ) (e : Entry) (old : Mutex) : Type 0 where
  pub some : 0 < e.block.turns
  pub ok : (k : ℕ) → k < e.block.turns → tape_ok image lock (tape_in image lock e old k) ≡ true
  pub before : (k : ℕ) → k + 1 < e.block.turns → tape_end image lock e.block.thread (tape_of e old) k ≡ None
  pub ends : (k : ℕ) → k + 1 ≡ e.block.turns → tape_end image lock e.block.thread (tape_of e old) k ≡ Some e.block.end
  pub finish : (tape_in image lock e old e.block.turns).thread.regs ≡ e.finish
  pub used : (tape_in image lock e old e.block.turns).foreign ≡ []

-- a lock after a block that ended so: the end of a thread breaks it
abbrev pub ended : End → Mutex → Mutex
ended end l = record { bytes = l.bytes; broken = ends_thread end || l.broken; sections = l.sections; owner = l.owner }

-- what the entry makes of the lock
unfoldable pub replay_entry : Shown → ℕ → Entry → Mutex → Mutex
replay_entry image lock e old = ended e.block.end (tape_in image lock e old e.block.turns).lock

-- ---- the replay of a journal

abbrev pub replayed : Shown → ℕ → Mutex → List Entry → Mutex
replayed image lock old [] = old
replayed image lock old (e ∷ es) = replayed image lock (replay_entry image lock e old) es

-- each entry's replay is defined, from what those before it made of the lock
abbrev pub AreReplayed : Shown → ℕ → Mutex → List Entry → Type 0
AreReplayed image lock old [] = Unit {0}
AreReplayed image lock old (e ∷ es) = Replays image lock e old × AreReplayed image lock (replay_entry image lock e old) es

-- ---- what a block's turns give the journal of a lock

-- the foreign words of a thread's next turn, as that lock sees them: one, or none
unfoldable pub word_of : Shown → ℕ → Thread → (ℕ → Mutex) → List ℕ
word_of image lock d locks =
    if d.fuel == 0 then []
    else if takes_word lock (wants_of image d.held d.regs) (next_lock image d)
    then answer_to image (wants_of image d.held d.regs) (next_lock image d) d.own locks ∷ []
    else []

-- those of the turns from number k on, n of them, where the thread and the locks before turn j are `threads j` and `locks j`
abbrev pub words_from : Shown → ℕ → (ℕ → Thread) → (ℕ → ℕ → Mutex) → ℕ → ℕ → List ℕ
words_from image lock threads locks k zero = []
words_from image lock threads locks k (suc n) = word_of image lock (threads k) (locks k) ++ words_from image lock threads locks (k + 1) n

-- the entry of a block with these turns
abbrev pub entry_along : Shown → ℕ → (ℕ → Thread) → (ℕ → ℕ → Mutex) → Block → Entry
entry_along image lock threads locks b = record {
  block = b;
  start = (threads 0).regs;
  fuel = (threads 0).fuel;
  finish = (threads b.turns).regs;
  foreign = words_from image lock threads locks 0 b.turns;
}
