-- What a report tells of a run: the results of a legal run to the end of every thread.
use Rattle.std.specs.Prelude.{◌≡◌, ℕ, ◌<◌, List, length, map, All}
use Rattle.std.specs.List.{range_with_len}
use Rattle.tc_isa.specs.declared.options.Options.{Options}
use Rattle.tc_elf.specs.Shown.{Shown, guard_at}
use Rattle.tc_journal.specs.Batch.{Obeys, PassesOn}
use Rattle.tc_journal.specs.Handing.{of_worker, HandsOver, RunsOn, StaysAt}
use Rattle.tc_journal.specs.History.{IsHistory, of_lock, of_thread}
use Rattle.tc_journal.specs.declared.block.Block.{Block}
use Rattle.tc_mutex_spec.specs.Machine.{State}
use Rattle.tc_mutex_spec.specs.Blocks.{Tells, IsComplete, end_after}
use Rattle.tc_mutex_spec.specs.Entries.{HasJournal}
use Rattle.tc_report.specs.Results.{Results, Finished, Guarded}

-- a thread of the machine, as the report prints it
abbrev pub finished_in : State → ℕ → Finished
finished_in m t = record { status = (m.threads t).status; fuel = (m.threads t).fuel; regs = (m.threads t).regs }

-- a lock of the machine, as the report prints it
abbrev pub guarded_in : Shown → State → ℕ → Guarded
guarded_in image m lock = record {
  start = (guard_at image lock).start;
  bytes = (m.locks lock).bytes;
  broken = (m.locks lock).broken;
  sections = (m.locks lock).sections;
}

-- what the machine's run with this history came to, where each thread has so much fuel
abbrev pub results_after : Shown → ℕ → List Block → Results
results_after image fuel h = record {
  history = h;
  threads = map (finished_in (end_after image fuel h)) (range_with_len 0 (length image.entries));
  locks = map (guarded_in image (end_after image fuel h)) (range_with_len 0 (length image.guards));
}

-- The history tells a run of the guest's threads under ordinary mutexes, with this fuel for each, to the end of every
-- thread; each block is of a worker that there is; and the threads and the locks are as that run leaves them. The blocks of
-- each lock obey the batch limit, each section of it that was passed on is of another thread than the one before it, and the
-- lock is the RV32IM replay of its journal, whose entries are those of the run. Delegation shows in the history: a worker that
-- unlocks a lock and adopts a waiter begins the waiter's section in its very next block; and a cut parts no thread from its
-- worker, which goes on with that thread in its very next block.
pub record IsLegalRun (image : Shown) (o : Options) (results : Results) : Type 0 where
  pub last : State
  pub history : IsHistory results.history
  pub tells : Tells image o.fuel results.history last
  pub complete : IsComplete image last
  pub workers : All (λ (b : Block). b.worker < o.workers) results.history
  pub obeys : (k : ℕ) → k < length image.guards → Obeys k o.limit (of_lock results.history k)
  pub passes : (k : ℕ) → k < length image.guards → PassesOn k (of_lock results.history k)
  pub handed : (worker : ℕ) → HandsOver (of_worker results.history worker)
  pub runs_on : (worker : ℕ) → RunsOn (of_worker results.history worker)
  pub stays : (thread : ℕ) → StaysAt (of_thread results.history thread)
  pub journals : (k : ℕ) → k < length image.guards → HasJournal image o.fuel results.history last k
  pub threads : results.threads ≡ map (finished_in last) (range_with_len 0 (length image.entries))
  pub locks : results.locks ≡ map (guarded_in image last) (range_with_len 0 (length image.guards))
