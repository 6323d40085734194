-- The threads and locks of the executable specification as the abstract machine.
use Rattle.std.specs.Prelude.{◌≡◌, ℕ, ◌<◌, true, false, Bool, List, [], length, slice_get, Option, Some, None}
use Rattle.std.specs.Option.{option_map}
use Rattle.tc_elf.specs.Shown.{Shown}
use Rattle.tc_exec.specs.declared.outcome.Act.{Act}
use Rattle.tc_turn.specs.Turn.{Thread, Mutex, Guest, thread_of, no_thread, mutex_after}
use Rattle.tc_mutex_spec.specs.Machine.{State, can_turn, after}

-- the threads and the locks, each by number
pub record Plain : Type 0 where
  pub threads : List Guest
  pub locks : List Mutex

abbrev pub thread_or : Option Guest → Thread
thread_or None = no_thread
thread_or (Some g) = thread_of g

abbrev pub no_mutex : Mutex
no_mutex = record { bytes = []; broken = false; sections = 0; owner = None }

abbrev pub mutex_or : Option Mutex → Mutex
mutex_or None = no_mutex
mutex_or (Some l) = l

abbrev pub thread_at : List Guest → ℕ → Thread
thread_at threads t = thread_or (slice_get threads t)

abbrev pub mutex_at : List Mutex → ℕ → Mutex
mutex_at locks k = mutex_or (slice_get locks k)

abbrev pub state_of : Plain → State
state_of s = record { threads = thread_at s.threads; locks = mutex_at s.locks }

-- the program has the image's threads and locks, and no other lock is held
pub record Suits (image : Shown) (s : Plain) : Type 0 where
  pub threads : length s.threads ≡ length image.entries
  pub locks : length s.locks ≡ length image.guards
  pub held : (t k : ℕ) → (thread_at s.threads t).held k ≡ true → k < length image.guards

-- each lock changed by the step in which thread t, which held these locks, did this
abbrev pub AreTurned : Shown → ℕ → (ℕ → Bool) → Option Act → List Mutex → List Mutex → Type 0
AreTurned image t held act old new = (k : ℕ) → slice_get new k ≡ option_map (mutex_after image t held act k) (slice_get old k)

-- what a requested step did
abbrev pub Turned : Shown → Plain → ℕ → Bool → Plain → Type 0
Turned image old t true new = (can_turn image (state_of old) t ≡ true) × (state_of new ≡ after image (state_of old) t)
Turned image old t false new = (can_turn image (state_of old) t ≡ false) × (new ≡ old)

-- the requested run leads to the new state, or is undefined
abbrev pub LeadsTo : Option State → Bool → Plain → Type 0
LeadsTo o true new = o ≡ Some (state_of new)
LeadsTo o false new = o ≡ None
