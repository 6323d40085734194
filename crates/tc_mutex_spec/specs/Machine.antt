-- The machine of ordinary mutexes: RV32IM threads that never leave a worker, and an owner field for each mutex.
use Rattle.std.specs.Prelude.{◌≡◌, ◌↔◌, ℕ, Bool, true, false, ◌&&◌, ◌==◌, nat_lt, if◌then◌else◌, List, [], ◌∷◌, ◌++◌, length, replicate, Option, Some, None, option_and_then}
use Rattle.tc_elf.specs.Shown.{Shown}
use Rattle.tc_turn.specs.Turn.{Thread, Mutex, thread_at_start, no_thread, mutex_at_start, is_running, next_lock, next_act, thread_after, mutex_after}

-- threads and locks by number. Numbers above the image's have none and never change
pub record State : Type 0 where
  pub threads : ℕ → Thread
  pub locks : ℕ → Mutex

abbrev pub start : Shown → ℕ → State
start image fuel =
    record {
      threads = λ t. if nat_lt t (length image.entries) then thread_at_start image fuel t else no_thread;
      locks = mutex_at_start image;
    }

-- ---- one step

abbrev pub is_free : Option ℕ → Bool
is_free None = true
is_free (Some t) = false

-- whether the lock that the next step takes, if it takes one, has no owner
abbrev pub is_open : Option ℕ → (ℕ → Mutex) → Bool
is_open None locks = true
is_open (Some lock) locks = is_free (locks lock).owner

-- whether t's step is defined: t is a thread, has not ended, and does not take a lock that has an owner
unfoldable pub can_turn : Shown → State → ℕ → Bool
can_turn image m t =
    nat_lt t (length image.entries) && (is_running (m.threads t).status && is_open (next_lock image (m.threads t)) m.locks)

-- the machine after t's step: t and the locks change by what the step does, independently
unfoldable pub after : Shown → State → ℕ → State
after image m t =
    record {
      threads = λ k. if k == t then thread_after (m.threads t) (next_act image (m.threads t) m.locks) else m.threads k;
      locks = λ k. mutex_after image t (m.threads t).held (next_act image (m.threads t) m.locks) k (m.locks k);
    }

unfoldable pub turn : Shown → State → ℕ → Option State
turn image m t = if can_turn image m t then Some (after image m t) else None

-- ---- runs

-- a step of each thread of the list, in order; None if one of them is undefined
abbrev pub turns : Shown → State → List ℕ → Option State
turns image m [] = Some m
turns image m (t ∷ ts) = option_and_then (λ n. turns image n ts) (turn image m t)

-- pairs of a thread and a number of steps, in order
abbrev pub run_from : Shown → State → List (ℕ × ℕ) → Option State
run_from image m [] = Some m
run_from image m (pair ∷ pairs) = option_and_then (λ n. run_from image n pairs) (turns image m (replicate pair.1 pair.0))

-- a run of a schedule from the start
abbrev pub run : Shown → ℕ → List (ℕ × ℕ) → Option State
run image fuel schedule = run_from image (start image fuel) schedule

-- the threads of a schedule, step by step
abbrev pub spread : List (ℕ × ℕ) → List ℕ
spread [] = []
spread (pair ∷ pairs) = replicate pair.1 pair.0 ++ spread pairs

-- ---- who holds what

-- mutual exclusion: a thread holds a lock if and only if it is the lock's owner
abbrev pub IsHeldByOwner : State → Type 0
IsHeldByOwner m = (t k : ℕ) → ((m.threads t).held k ≡ true) ↔ ((m.locks k).owner ≡ Some t)
