-- One turn of a thread: what it does, and what becomes of the thread and of each lock.
use Rattle.std.specs.Prelude.{ℕ, ◌+◌, ◌-◌, ◌^◌, ◌<◌, ◌≤◌, min, Bool, true, false, not, ◌&&◌, ◌||◌, ◌==◌, if◌then◌else◌, List, [], Option, Some, None, unwrap_or}
use Rattle.tc_isa.specs.Registers.{Registers, started}
use Rattle.tc_isa.specs.Sets.{has}
use Rattle.tc_elf.specs.Shown.{Shown, entry_at, guard_at}
use Rattle.tc_elf.specs.Places.{byte_of}
use Rattle.tc_elf.specs.declared.image.Region.{Region}
use Rattle.tc_elf.specs.declared.image.Region.TheVariants as region
use Rattle.tc_exec.specs.Step.{wants_of, act_of}
pub use Rattle.tc_exec.specs.Told.{taken_by}
use Rattle.tc_exec.specs.declared.outcome.Act.{Act}
use Rattle.tc_exec.specs.declared.outcome.Act.TheVariants.{Next, Called, Faulted}
use Rattle.tc_exec.specs.declared.outcome.Call.TheVariants.{Lock, Unlock, Sleep, Exit}
use Rattle.tc_exec.specs.declared.outcome.Put.{Put}
use Rattle.tc_exec.specs.declared.outcome.Want.{Want}
use Rattle.tc_exec.specs.declared.outcome.Want.TheVariants as want
use Rattle.tc_journal.specs.declared.rule.Outcome.{Outcome}
use Rattle.tc_journal.specs.declared.rule.Outcome.TheVariants as outcome
use Rattle.tc_turn.specs.declared.status.Status.{Status}
use Rattle.tc_turn.specs.declared.status.Status.TheVariants as status
use Rattle.tc_turn.specs.Memory.{number_at, with_number, byte_from, put_number, own_at_start, starting_bytes, Part, own_of}

-- what a thread has: its own memory is a map from addresses to bytes, its locks are those of which `held` is true
pub record Thread : Type 0 where
  pub regs : Registers
  pub own : ℕ → Option ℕ
  pub fuel : ℕ
  pub status : Status
  pub held : ℕ → Bool

-- a lock with the bytes of its guard, and the thread that owns it
pub record Mutex : Type 0 where
  pub bytes : List ℕ
  pub broken : Bool
  pub sections : ℕ
  pub owner : Option ℕ

abbrev pub is_running : Status → Bool
is_running status.Running = true
is_running status.Exited = false
is_running (status.Faulted f) = false
is_running status.SpentFuel = false

-- ---- sets of locks

abbrev pub nothing_held : ℕ → Bool
nothing_held lock = false

abbrev pub plus_lock : (ℕ → Bool) → ℕ → ℕ → Bool
plus_lock held lock k = (k == lock) || held k

abbrev pub less_lock : (ℕ → Bool) → ℕ → ℕ → Bool
less_lock held lock k = not (k == lock) && held k

-- ---- at the start

abbrev pub thread_at_start : Shown → ℕ → ℕ → Thread
thread_at_start image fuel t = record {
  regs = started (entry_at image t).address (entry_at image t).argument t;
  own = own_at_start image;
  fuel = fuel;
  status = status.Running;
  held = nothing_held;
}

-- a thread with another memory
abbrev pub with_own : (ℕ → Option ℕ) → Thread → Thread
with_own own d = record { regs = d.regs; own = own; fuel = d.fuel; status = d.status; held = d.held }

-- what stands for a thread that is none
abbrev pub no_thread : Thread
no_thread = record { regs = record { pc = 0; words = [] }; own = λ at. None; fuel = 0; status = status.Exited; held = nothing_held }

abbrev pub mutex_at_start : Shown → ℕ → Mutex
mutex_at_start image lock = record {
  bytes = starting_bytes image (guard_at image lock).start (guard_at image lock).length;
  broken = false;
  sections = 0;
  owner = None;
}

-- ---- what the next turn does

-- the lock of the next turn, where that is a lawful LOCK; its answer, not known yet, does not count there
unfoldable pub next_lock : Shown → Thread → Option ℕ
next_lock image d = if d.fuel == 0 then None else taken_by (act_of image d.held d.regs 0)

-- the byte at an address of a place
abbrev pub byte_at : Shown → (ℕ → Option ℕ) → (ℕ → Mutex) → Region → ℕ → ℕ
byte_at image own locks region.Text at = unwrap_or (byte_of image at) 0
byte_at image own locks region.Private at = unwrap_or (own at) 0
byte_at image own locks region.Stack at = unwrap_or (own at) 0
byte_at image own locks (region.Guard lock) at = unwrap_or (byte_from (guard_at image lock).start (locks lock).bytes at) 0
byte_at image own locks region.Nothing at = 0

-- whether the lock is broken
abbrev pub lock_answer : Mutex → ℕ
lock_answer l = if l.broken then 1 else 0

-- the answer to a load, or to a LOCK
abbrev pub answer_to : Shown → Want → Option ℕ → (ℕ → Option ℕ) → (ℕ → Mutex) → ℕ
answer_to image (want.Load place addr width) next own locks = number_at (byte_at image own locks place) addr width
answer_to image want.Nothing (Some lock) own locks = lock_answer (locks lock)
answer_to image want.Nothing None own locks = 0

-- what a thread does with an answer: None where its fuel is spent
abbrev pub act_with : Shown → Thread → ℕ → Option Act
act_with image d answer = if d.fuel == 0 then None else Some (act_of image d.held d.regs answer)

-- the answer that the next turn finds
abbrev pub answer_of : Shown → Thread → (ℕ → Mutex) → ℕ
answer_of image d locks = answer_to image (wants_of image d.held d.regs) (next_lock image d) d.own locks

-- what the next turn does
unfoldable pub next_act : Shown → Thread → (ℕ → Mutex) → Option Act
next_act image d locks = act_with image d (answer_of image d locks)

-- how a turn comes out for the block that it is in
abbrev pub outcome_of : Option Act → Outcome
outcome_of None = outcome.Spent
outcome_of (Some (Next regs put)) = outcome.Went
outcome_of (Some (Called (Lock lock) regs)) = outcome.Went
outcome_of (Some (Called (Unlock lock) regs)) = outcome.Unlocked lock
outcome_of (Some (Called (Sleep blocks) regs)) = outcome.Slept
outcome_of (Some (Called Exit regs)) = outcome.Exited
outcome_of (Some (Faulted f)) = outcome.Faulted f

-- ---- what becomes of the thread

-- a store into memory that is the thread's own
abbrev pub own_with : Region → (ℕ → Option ℕ) → ℕ → ℕ → ℕ → ℕ → Option ℕ
own_with region.Text own addr width value = own
own_with region.Private own addr width value = with_number own addr width value
own_with region.Stack own addr width value = with_number own addr width value
own_with (region.Guard lock) own addr width value = own
own_with region.Nothing own addr width value = own

abbrev pub own_after : Option Put → (ℕ → Option ℕ) → ℕ → Option ℕ
own_after None own = own
own_after (Some put) own = own_with put.region own put.addr put.width put.value

-- the thread after it ended so: it gives up all that it holds
abbrev pub with_end : Status → Thread → Thread
with_end status d = record d { status = status; held = nothing_held }

abbrev pub with_put : Option Put → Thread → Thread
with_put put d = record d { own = own_after put d.own }

abbrev pub thread_after : Thread → Option Act → Thread
thread_after d None = record { regs = d.regs; own = d.own; fuel = d.fuel; status = status.SpentFuel; held = nothing_held }
thread_after d (Some (Next regs put)) =
    record { regs = regs; own = own_after put d.own; fuel = d.fuel - 1; status = d.status; held = d.held }
thread_after d (Some (Called (Lock lock) regs)) =
    record { regs = regs; own = d.own; fuel = d.fuel - 1; status = d.status; held = plus_lock d.held lock }
thread_after d (Some (Called (Unlock lock) regs)) =
    record { regs = regs; own = d.own; fuel = d.fuel - 1; status = d.status; held = less_lock d.held lock }
thread_after d (Some (Called (Sleep blocks) regs)) =
    record { regs = regs; own = d.own; fuel = d.fuel - 1; status = d.status; held = d.held }
thread_after d (Some (Called Exit regs)) =
    record { regs = regs; own = d.own; fuel = d.fuel - 1; status = status.Exited; held = nothing_held }
thread_after d (Some (Faulted f)) =
    record { regs = d.regs; own = d.own; fuel = d.fuel - 1; status = status.Faulted f; held = nothing_held }

-- ---- what becomes of a lock

abbrev pub when : Bool → Mutex → Mutex → Mutex
when true new old = new
when false new old = old

-- a lock that its ending thread held
abbrev pub given_up : Bool → Mutex → Mutex
given_up held l = when held (record { bytes = l.bytes; broken = true; sections = l.sections; owner = None }) l

-- a section begins; a count that stands at the greatest of 64 bits stays there
abbrev pub taken : ℕ → Mutex → Mutex
taken t l = record { bytes = l.bytes; broken = l.broken; sections = min (l.sections + 1) (2 ^ 64 - 1); owner = Some t }

abbrev pub released : Mutex → Mutex
released l = record { bytes = l.bytes; broken = l.broken; sections = l.sections; owner = None }

-- a store into lock k's guard
abbrev pub guard_with : Shown → Region → ℕ → Mutex → ℕ → ℕ → ℕ → Mutex
guard_with image region.Text k l addr width value = l
guard_with image region.Private k l addr width value = l
guard_with image region.Stack k l addr width value = l
guard_with image (region.Guard lock) k l addr width value =
    when (k == lock) (record { bytes = put_number (guard_at image k).start l.bytes addr width value; broken = l.broken; sections = l.sections; owner = l.owner }) l
guard_with image region.Nothing k l addr width value = l

abbrev pub guard_after : Shown → Option Put → ℕ → Mutex → Mutex
guard_after image None k l = l
guard_after image (Some put) k l = guard_with image put.region k l put.addr put.width put.value

-- lock k after a turn of the thread t that held these locks before it
abbrev pub mutex_after : Shown → ℕ → (ℕ → Bool) → Option Act → ℕ → Mutex → Mutex
mutex_after image t held None k l = given_up (held k) l
mutex_after image t held (Some (Next regs put)) k l = guard_after image put k l
mutex_after image t held (Some (Called (Lock lock) regs)) k l = when (k == lock) (taken t l) l
mutex_after image t held (Some (Called (Unlock lock) regs)) k l = when (k == lock) (released l) l
mutex_after image t held (Some (Called (Sleep blocks) regs)) k l = l
mutex_after image t held (Some (Called Exit regs)) k l = given_up (held k) l
mutex_after image t held (Some (Faulted f)) k l = given_up (held k) l

-- ---- a thread as the code keeps it: its own memory in parts, its held locks as the number whose bits they are

pub record Guest : Type 0 where
  pub regs : Registers
  pub own : List Part
  pub fuel : ℕ
  pub status : Status
  pub held : ℕ

abbrev pub thread_of : Guest → Thread
thread_of g = record { regs = g.regs; own = own_of g.own; fuel = g.fuel; status = g.status; held = has g.held }

-- a store ends within the address space, and a lock is below 32
abbrev pub PutFits : Option Put → Type 0
PutFits None = Unit {0}
PutFits (Some put) = put.addr + put.width ≤ 2 ^ 32

abbrev pub ActFits : Act → Type 0
ActFits (Next regs put) = PutFits put
ActFits (Called (Lock lock) regs) = lock < 32
ActFits (Called (Unlock lock) regs) = lock < 32
ActFits (Called (Sleep blocks) regs) = Unit {0}
ActFits (Called Exit regs) = Unit {0}
ActFits (Faulted f) = Unit {0}

-- a thread with so much fuel may do this in its next turn
pub record CanAct (left : ℕ) (act : Act) : Type 0 where
  pub fuel : 0 < left
  pub fits : ActFits act
