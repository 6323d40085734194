-- The report of a run, line by line. Each line ends with the byte 10.
use Rattle.std.specs.Prelude.{ℕ, ◌+◌, ◌*◌, ◌/◌, Bool, if◌then◌else◌, List, [], ◌∷◌, ◌++◌, take, drop, codes, decimal, length}
use Rattle.std.specs.List.{range_with_len, flat_map, enumerate_from}
use Rattle.tc_elf.specs.Shown.{Shown, guard_at}
use Rattle.tc_isa.specs.Faults.{fault_number}
use Rattle.tc_isa.specs.Registers.{Registers, get}
use Rattle.tc_isa.specs.declared.options.Options.{Options}
use Rattle.tc_journal.specs.Line.{history_text}
use Rattle.tc_turn.specs.declared.status.Status.{Status}
use Rattle.tc_turn.specs.declared.status.Status.TheVariants as status
use Rattle.tc_journal.specs.Digits.{hex2, hex8}
use Rattle.tc_segment.specs.View.{LockView}
use Rattle.tc_context.specs.View.{PackageView, fuel_in, regs_in, status_in}
use Rattle.tc_report.specs.Results.{Results, Finished, Guarded}

-- how a thread ended; no thread of a report runs
abbrev pub status_text : Status → List ℕ
status_text status.Running = codes "running"
status_text status.Exited = codes "exit"
status_text (status.Faulted fault) = codes "fault " ++ decimal (fault_number fault)
status_text status.SpentFuel = codes "spent"

-- the version of the format
abbrev pub first_line : List ℕ
first_line = codes "tclocks 2\n"

-- how many threads and guards the guest has
unfoldable pub guest_line : ℕ → ℕ → List ℕ
guest_line threads guards = codes "guest threads " ++ decimal threads ++ codes " guards " ++ decimal guards ++ 10 ∷ []

-- how the guest was run
unfoldable pub run_line : Options → List ℕ
run_line o = codes "run workers " ++ decimal o.workers ++ codes " fuel " ++ decimal o.fuel ++ codes " batch " ++ decimal o.limit ++ 10 ∷ []

-- a register's word after a space
unfoldable pub register_text : Registers → ℕ → ℕ → List ℕ
register_text r from i = codes " " ++ hex8 (get r (from + i))

-- a line of eight registers from one on
unfoldable pub registers_line : Registers → ℕ → List ℕ
registers_line r from = codes "x" ++ decimal from ++ flat_map (register_text r from) (range_with_len 0 8) ++ 10 ∷ []

-- how a thread ended, the fuel that was left and its program counter
unfoldable pub thread_line : ℕ → Finished → List ℕ
thread_line number t =
    codes "thread " ++ decimal number ++ codes " " ++ status_text t.status ++ codes " fuel " ++ decimal t.fuel ++ codes " pc " ++ hex8 t.regs.pc ++ 10 ∷ []

-- a thread's line and those of its registers
unfoldable pub thread_text : ℕ × Finished → List ℕ
thread_text t =
    thread_line t.0 t.1 ++ registers_line t.1.regs 0 ++ registers_line t.1.regs 8 ++ registers_line t.1.regs 16 ++ registers_line t.1.regs 24

-- the lines of the threads, which are numbered from 0
abbrev pub threads_text : List Finished → List ℕ
threads_text threads = flat_map thread_text (enumerate_from 0 threads)

-- ---- locks

abbrev pub broken_text : Bool → List ℕ
broken_text broken = if broken then codes "1" else codes "0"

-- a lock's number, its sections, whether it is broken, and how many bytes it guards
unfoldable pub lock_line : ℕ → ℕ → Bool → ℕ → List ℕ
lock_line number sections broken count =
    codes "lock " ++ decimal number ++ codes " sections " ++ decimal sections ++ codes " broken " ++ broken_text broken
    ++ codes " bytes " ++ decimal count ++ 10 ∷ []

-- bytes from an address on
unfoldable pub data_line : ℕ → List ℕ → List ℕ
data_line start bytes = codes "data " ++ hex8 start ++ codes " " ++ flat_map hex2 bytes ++ 10 ∷ []

-- the bytes of the data line of this number: 32, or what is left
abbrev pub data_part : List ℕ → ℕ → List ℕ
data_part bytes i = take 32 (drop (32 * i) bytes)

-- that line, where the first of these bytes has the address `start`
unfoldable pub data_line_at : ℕ → List ℕ → ℕ → List ℕ
data_line_at start bytes i = data_line (start + 32 * i) (data_part bytes i)

-- a lock's line and its data lines
unfoldable pub lock_text : ℕ × Guarded → List ℕ
lock_text l =
    lock_line l.0 l.1.sections l.1.broken (length l.1.bytes)
    ++ flat_map (data_line_at l.1.start l.1.bytes) (range_with_len 0 ((length l.1.bytes + 31) / 32))

-- the lines of the locks, which are numbered from 0
abbrev pub locks_text : List Guarded → List ℕ
locks_text locks = flat_map lock_text (enumerate_from 0 locks)

abbrev pub last_line : List ℕ
last_line = codes "end\n"

-- the whole report
unfoldable pub report_text : Shown → Options → Results → List ℕ
report_text image o results =
    first_line ++ guest_line (length image.entries) (length image.guards) ++ run_line o ++ history_text results.history ++ threads_text results.threads ++ locks_text results.locks ++ last_line

-- ---- packages and lock states, as the report tells them

-- a thread, as its package has it
abbrev pub finished_of : PackageView → Finished
finished_of p = record { status = status_in p; fuel = fuel_in p; regs = regs_in p }

-- the lines of a package's thread
abbrev pub package_text : ℕ × PackageView → List ℕ
package_text p = thread_text (p.0, finished_of p.1)

-- a lock whose guard begins at this address, as its state has it
abbrev pub guarded_of : ℕ → LockView → Guarded
guarded_of start l = record { start = start; bytes = l.bytes; broken = l.broken; sections = l.sections }

-- the lines of a state's lock
abbrev pub state_text : Shown → ℕ × LockView → List ℕ
state_text image l = lock_text (l.0, guarded_of (guard_at image l.0).start l.1)

-- the lines of the threads of all packages, which are numbered from 0
abbrev pub packages_text : List PackageView → List ℕ
packages_text packages = flat_map package_text (enumerate_from 0 packages)

-- the lines of the locks of all states, which are numbered from 0
abbrev pub states_text : Shown → List LockView → List ℕ
states_text image states = flat_map (state_text image) (enumerate_from 0 states)

-- ---- the parts of a report that are written on their own

-- the lines before the history
abbrev pub head_text : Shown → Options → List ℕ
head_text image o = first_line ++ guest_line (length image.entries) (length image.guards) ++ run_line o

-- the lines behind it, as the packages and states have them
abbrev pub tail_text : Shown → List PackageView → List LockView → List ℕ
tail_text image packages states = packages_text packages ++ states_text image states ++ last_line
