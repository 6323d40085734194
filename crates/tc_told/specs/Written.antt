-- The history that events of the abstract machine write: each Commit writes one block, as in the machine's state.
use Rattle.std.specs.Prelude.{◌≡◌, ℕ, ◌<◌, ◌==◌, if◌then◌else◌, List, [], ◌∷◌, ◌++◌, length, map, All, Option, Some, None}
use Rattle.std.specs.Option.{option_map}
use Rattle.tc_elf.specs.Shown.{Shown}
use Rattle.tc_journal.specs.Batch.{Obeys, PassesOn, last_of}
use Rattle.tc_journal.specs.History.{IsInOrder, of_lock, of_thread}
use Rattle.tc_journal.specs.declared.block.Block.{Block}
use Rattle.tc_journal.specs.declared.block.Kind.TheVariants as kind
use Rattle.tc_turn.specs.Turn.{is_running}
use Rattle.tc_mutex_spec.specs.Machine.{State, start}
use Rattle.tc_mutex_spec.specs.Blocks.{Tells, end_after}
use Rattle.tc_core.specs.declared.event.Event.{Event}
use Rattle.tc_core.specs.declared.event.Event.TheVariants.{Commit, Take, Adopt, Grant}
use Rattle.tc_core.specs.declared.place.Course.{Course}
use Rattle.tc_core.specs.declared.place.LockPlace.{LockPlace}
use Rattle.tc_core.specs.declared.place.LockPlace.TheVariants.{With}
use Rattle.tc_core.specs.declared.place.LockPlace.TheVariants as place
use Rattle.tc_core.specs.declared.place.ThreadPlace.{ThreadPlace}
use Rattle.tc_core.specs.declared.place.ThreadPlace.TheVariants.{Ready, Parked, Done}
use Rattle.tc_core.specs.Core.{Core, Limits, is_slept, first_core}
use Rattle.tc_core.specs.Events.{effect}
use Rattle.tc_core.specs.Stories.{AreEnabled, after_all}
pub use Rattle.tc_told.specs.declared.writer.Beginning.{Beginning}

-- ---- what events write

-- the machine; what is known of each thread's next block before its first step; and what was written so far
pub record Written : Type 0 where
  pub core : Core
  pub next : ℕ → Beginning
  pub history : List Block

abbrev pub first_written : Shown → ℕ → Written
first_written image fuel = record {
  core = first_core image fuel;
  next = λ t. record { kind = kind.Start; pc = ((start image fuel).threads t).regs.pc };
  history = [];
}

-- what an event determines of a thread's next block: with a lock that is granted, how it begins;
-- after a Commit, that it goes on from the thread's pc
abbrev pub said_by : Written → Event → Option (ℕ × Beginning)
said_by s (Take w t lock) = Some (t, record (s.next t) { kind = kind.Taken })
said_by s (Adopt w t lock) = Some (t, record (s.next t) { kind = kind.Adopted })
said_by s (Grant w t lock) = Some (t, record (s.next t) { kind = kind.Granted })
said_by s (Commit w t) = Some (t, record { kind = kind.On; pc = (s.core.machine.threads t).regs.pc })
said_by s _ = None

abbrev pub with_said : (ℕ → Beginning) → Option (ℕ × Beginning) → ℕ → Beginning
with_said next None = next
with_said next (Some said) = λ k. if k == said.0 then said.1 else next k

-- the block of t at w, once it has ended
abbrev pub block_at : ℕ → ℕ → ℕ → Beginning → Course → Option Block
block_at stamp w t a x =
    option_map
    (λ end. record { stamp = stamp; thread = t; turns = x.turns; held = x.held; kind = a.kind; worker = w; pc = a.pc; end = end })
    x.ended

-- the block that an event writes
abbrev pub block_by : Written → Event → Option Block
block_by s (Commit w t) = block_at (length s.history) w t (s.next t) (s.core.course t)
block_by s _ = None

abbrev pub with_block : List Block → Option Block → List Block
with_block h None = h
with_block h (Some b) = h ++ b ∷ []

abbrev pub write : Shown → Written → Event → Written
write image s e = record {
  core = effect image s.core e;
  next = with_said s.next (said_by s e);
  history = with_block s.history (block_by s e);
}

abbrev pub write_all : Shown → Written → List Event → Written
write_all image s [] = s
write_all image s (e ∷ es) = write_all image (write image s e) es

-- the history that a list of events writes from the start
abbrev pub history_of : Shown → ℕ → List Event → List Block
history_of image fuel events = (write_all image (first_written image fuel) events).history

-- ---- which histories are written

-- the history is written by enabled events of the machine
pub record IsWritten (image : Shown) (limits : Limits) (fuel : ℕ) (h : List Block) : Type 0 where
  pub events : List Event
  pub enabled : AreEnabled image limits (first_core image fuel) events
  pub writes : history_of image fuel events ≡ h

-- the blocks as if one worker had run all of them
abbrev pub as_of_one : List Block → List Block
as_of_one bs = map (λ (b : Block). record b { worker = 0 }) bs

-- the stamps are 0, 1, 2 and so on, the history is a trace of ordinary mutexes, the worker of each block exists,
-- and the blocks of each lock pass its sections on to other threads and, whoever ran them, obey the batch limit
pub record KeepsRules (image : Shown) (limits : Limits) (fuel : ℕ) (h : List Block) : Type 0 where
  pub last : State
  pub stamps : IsInOrder h
  pub tells : Tells image fuel h last
  pub workers : All (λ (b : Block). b.worker < limits.workers) h
  pub obeys : (k : ℕ) → k < length image.guards → Obeys k limits.batch (as_of_one (of_lock h k))
  pub passes : (k : ℕ) → k < length image.guards → PassesOn k (of_lock h k)

-- ---- how the events may end

-- where a thread rests after a history: done if it ended, parked if its last block ended with a SLEEP, else ready
abbrev pub place_after : State → List Block → ℕ → ThreadPlace
place_after last h t =
    if is_running (last.threads t).status
    then (if is_slept (option_map (λ (b : Block). b.end) (last_of (of_thread h t))) then Parked else Ready)
    else Done

-- where a lock is, by its owner
abbrev pub place_with : Option ℕ → LockPlace
place_with None = place.Free
place_with (Some t) = With t

-- and who is in its queue
abbrev pub line_with : Option ℕ → List ℕ
line_with None = []
line_with (Some t) = t ∷ []

-- no thread is at a worker or waits; each lock is with its owner, alone in its queue, or free with an empty queue
pub record IsAtRest (image : Shown) (last : State) (h : List Block) (c : Core) : Type 0 where
  pub threads : (t : ℕ) → t < length image.entries → (c.course t).place ≡ place_after last h t
  pub places : (k : ℕ) → k < length image.guards → (c.custody k).place ≡ place_with (last.locks k).owner
  pub lines : (k : ℕ) → k < length image.guards → (c.custody k).line ≡ line_with (last.locks k).owner

-- the history is written by enabled events of the machine, after which all is at rest
pub record IsWrittenToRest (image : Shown) (limits : Limits) (fuel : ℕ) (h : List Block) : Type 0 where
  pub events : List Event
  pub enabled : AreEnabled image limits (first_core image fuel) events
  pub writes : history_of image fuel events ≡ h
  pub rest : IsAtRest image (end_after image fuel h) h (after_all image (first_core image fuel) events)

-- and after which, if no thread can go on, each thread is done, each lock free, and its queue empty
pub record IsWrittenWhole (image : Shown) (limits : Limits) (fuel : ℕ) (h : List Block) : Type 0 where
  pub events : List Event
  pub enabled : AreEnabled image limits (first_core image fuel) events
  pub writes : history_of image fuel events ≡ h
  pub threads : (t : ℕ) → t < length image.entries → ((after_all image (first_core image fuel) events).course t).place ≡ Done
  pub places : (k : ℕ) → k < length image.guards → ((after_all image (first_core image fuel) events).custody k).place ≡ place.Free
  pub lines : (k : ℕ) → k < length image.guards → ((after_all image (first_core image fuel) events).custody k).line ≡ []

-- events write a prefix of the history, after which each thread rests, and further events write the rest of it
pub record IsWrittenInParts (image : Shown) (limits : Limits) (fuel : ℕ) (front back : List Block) : Type 0 where
  pub first : List Event
  pub more : List Event
  pub enabled : AreEnabled image limits (first_core image fuel) (first ++ more)
  pub writes_front : history_of image fuel first ≡ front
  pub writes : history_of image fuel (first ++ more) ≡ front ++ back
  pub threads : (t : ℕ) → t < length image.entries → ((after_all image (first_core image fuel) first).course t).place ≡ place_after (end_after image fuel front) front t

-- ---- who adopts

-- the last block that had lock k is of this worker
pub record IsOfLast (k w : ℕ) (h : List Block) : Type 0 where
  pub block : Block
  pub last : last_of (of_lock h k) ≡ Some block
  pub worker : block.worker ≡ w
