-- What an outline shows of the abstract machine between blocks.
use Rattle.std.specs.Prelude.{◌≡◌, ℕ, Option, None}
use Rattle.tc_journal.specs.declared.block.End.{End}
use Rattle.tc_turn.specs.Turn.{Thread, Mutex}
use Rattle.tc_turn.specs.Replay.{unowned}
use Rattle.tc_core.specs.Core.{Core}
use Rattle.tc_core.specs.declared.place.Course.{Course}
use Rattle.tc_core.specs.declared.place.ThreadPlace.{ThreadPlace}
use Rattle.tc_core.specs.declared.place.ThreadPlace.TheVariants.{Ready, Waiting, Parked, Done, At}
use Rattle.tc_core.specs.declared.place.LockPlace.{LockPlace}
use Rattle.tc_core.specs.declared.place.LockPlace.TheVariants.{With, Granted, Loose}
use Rattle.tc_core.specs.declared.place.LockPlace.TheVariants as place

-- where a lock is: in its slot, with a worker, or in the package of a thread
pub data Lying : Type 0 where
  at_home : Lying
  in_hand : ℕ → Lying
  packed : ℕ → Lying

-- for each thread its place, its state in the machine, and how its last block ended; for each lock
-- its state in the machine, except for the owner, and where it is
pub record Outline : Type 0 where
  pub place : ℕ → ThreadPlace
  pub thread : ℕ → Thread
  pub last : ℕ → Option End
  pub lock : ℕ → Mutex
  pub lies : ℕ → Lying

-- a lock of the thread t, which is at this place
abbrev pub lies_with : ThreadPlace → ℕ → Lying
lies_with (At w) t = in_hand w
lies_with Ready t = packed t
lies_with (Waiting lock) t = packed t
lies_with Parked t = packed t
lies_with Done t = packed t

abbrev pub lies_at : (ℕ → Course) → LockPlace → Lying
lies_at course place.Free = at_home
lies_at course (Loose w) = in_hand w
lies_at course (With t) = lies_with (course t).place t
lies_at course (Granted t) = lies_with (course t).place t

abbrev pub outline : Core → Outline
outline c = record {
  place = λ t. (c.course t).place;
  thread = c.machine.threads;
  last = λ t. (c.course t).last;
  lock = λ i. unowned (c.machine.locks i);
  lies = λ i. lies_at c.course (c.custody i).place;
}

-- no thread is inside a block
abbrev pub IsBetween : Core → Type 0
IsBetween c = (t : ℕ) → ((c.course t).turns ≡ 0) × ((c.course t).ended ≡ None)
