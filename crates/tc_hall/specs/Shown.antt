-- The outline that the words, the slots and the passes of a hall represent.
use Rattle.std.specs.Prelude.{◌≡◌, ℕ, ◌+◌, ◌-◌, ◌<◌, nat_lt, if◌then◌else◌, List, slice_index, Option, Some}
use Rattle.std.specs.Option.{option_map}
use mathlib.Core.Option.{some}
use lib.ListN.{get_elem?}
use Rattle.tc_journal.specs.Batch.{last_of}
use Rattle.tc_journal.specs.declared.block.Block.{Block}
use Rattle.tc_journal.specs.declared.block.End.{End}
use Rattle.tc_segment.specs.View.{LockView, lock_of}
use Rattle.tc_context.specs.Whole.{thread_in}
use Rattle.tc_context.specs.View.{PackageView}
use Rattle.tc_core.specs.declared.place.ThreadPlace.{ThreadPlace}
use Rattle.tc_core.specs.declared.place.ThreadPlace.TheVariants.{Ready, Waiting, Parked, Done, At}
use Rattle.tc_hall.specs.declared.board.Knows.{Knows}
use Rattle.tc_hall.specs.declared.board.HallTerms.{HallTerms}
use Rattle.tc_hall.specs.declared.board.Cargo.TheVariants.{Package, Lock}
use Rattle.tc_hall.specs.declared.place.TheConstants.{OUT}
use Rattle.tc_hall.specs.declared.place.Place.{Place}
use Rattle.tc_hall.specs.declared.place.Place.TheVariants as put
use Rattle.tc_hall.specs.Places.{place_of, slot_word}
use Rattle.tc_hall.specs.Rule.{threads, locks, Has, HasLock, locked_in}
use Rattle.tc_hall.specs.Effects.{Hall}
use Rattle.tc_hall.specs.Outline.{Outline, Lying, at_home, in_hand, packed}

-- the place of a thread whose package was put there
abbrev pub as_place : Place → ThreadPlace
as_place put.Ready = Ready
as_place put.Parked = Parked
as_place put.Done = Done
as_place (put.Waiting lock) = Waiting lock

-- the place that a thread's word stands for
unfoldable pub place_shown : ℕ → ThreadPlace
place_shown word = if nat_lt word OUT then as_place (place_of word) else At (word - OUT)

-- how the last block of a log ended
abbrev pub last_end : List Block → Option End
last_end log = option_map (λ (b : Block). b.end) (last_of log)

-- p is the package of thread t in its slot, or as a pass records it
pub data PackageAt (s : Hall) (t : ℕ) (p : PackageView) : Type 0 where
  in_slot : get_elem? s.homes t ≡ some (some (Some (Package p))) → PackageAt s t p
  with_pass : (id : ℕ) (v : Knows) → get_elem? s.views id ≡ some v → Has v t p → PackageAt s t p

-- l is the state of lock i in its slot, in a package that is in its slot, or as a pass records it; y says where it is
pub data LockAt (k : HallTerms) (s : Hall) (i : ℕ) (l : LockView) (y : Lying) : Type 0 where
  lock_in_slot : get_elem? s.homes (threads k + i) ≡ some (some (Some (Lock l))) → y ≡ at_home → LockAt k s i l y
  lock_in_package : (t : ℕ) (q : PackageView) → t < threads k → get_elem? s.homes t ≡ some (some (Some (Package q))) → locked_in q i ≡ Some l → y ≡ packed t → LockAt k s i l y
  lock_with_pass : (id : ℕ) (v : Knows) → get_elem? s.views id ≡ some v → HasLock v i l → y ≡ in_hand v.worker → LockAt k s i l y

pub record ShowsThread (o : Outline) (t : ℕ) (p : PackageView) : Type 0 where
  pub thread : o.thread t ≡ thread_in p.context
  pub last : o.last t ≡ last_end p.log

pub record ShowsLock (o : Outline) (i : ℕ) (l : LockView) (y : Lying) : Type 0 where
  pub lock : o.lock i ≡ lock_of l
  pub lies : o.lies i ≡ y

-- abstraction relation: the hall represents this outline, as far as its threads and locks go
pub record IsShown (k : HallTerms) (s : Hall) (o : Outline) : Type 0 where
  pub place : (t : ℕ) → t < threads k → o.place t ≡ place_shown (slice_index s.words (slot_word t))
  pub thread : (t : ℕ) (p : PackageView) → t < threads k → PackageAt s t p → ShowsThread o t p
  pub lock : (i : ℕ) (l : LockView) (y : Lying) → i < locks k → LockAt k s i l y → ShowsLock o i l y
