-- What `Hall::new` makes, and the loop invariants of it and of `Hall::close`.
use Rattle.std.specs.Prelude.{◌≡◌, ℕ, ◌+◌, ◌-◌, ◌<◌, ◌≤◌, Bool, true, false, List, [], length, slice_index_or, Option, Some}
use mathlib.Core.Option.{some}
use lib.ListN.{get_elem?}
use Rattle.atomic_table.specs.Seated.{TableId}
use Rattle.atomic_table.specs.declared.shared.Seat.{Seat}
use Rattle.tc_elf.specs.Shown.{Shown}
use Rattle.tc_segment.specs.View.{LockView, fresh_state}
use Rattle.tc_context.specs.View.{PackageView, IsFresh}
use Rattle.tc_hall.specs.declared.board.Knows.{Knows}
use Rattle.tc_hall.specs.declared.board.Cargo.{Cargo}
use Rattle.tc_hall.specs.declared.board.Cargo.TheVariants.{Package, Lock}
use Rattle.tc_hall.specs.PassView.{PassView, HallView}
use Rattle.tc_hall.specs.Rule.{clean}
use Rattle.tc_hall.specs.Steps.{IsNew}

-- the packages of n threads, ready to start, and then the states of m locks
pub record AreStocked (image : Shown) (n m fuel limit : ℕ) (slots : List (Option Cargo)) : Type 0 where
  pub count : length slots ≡ n + m
  pub packages : (t : ℕ) → t < n → (q : PackageView) × (get_elem? slots t ≡ some (Some (Package q))) × IsFresh image t fuel q
  pub locks : (i : ℕ) → i < m → (l : LockView) × (get_elem? slots (n + i) ≡ some (Some (Lock l))) × (l ≡ fresh_state image i limit)

pub record IsHallOf (x : Shown) (f w b : ℕ) (h : HallView) : Type 0 where
  pub image : h.terms.image.value ≡ x
  pub fuel : h.terms.fuel ≡ f
  pub workers : h.terms.workers ≡ w
  pub limit : h.terms.limit ≡ b

-- one pass for each worker
pub record AreDealt (image : Shown) (n m workers : ℕ) (table : TableId) (passes : List PassView) : Type 0 where
  pub count : length passes ≡ workers
  pub each : (i : ℕ) (p : PassView) → get_elem? passes i ≡ some p → (p.table ≡ table) × IsNew image n m i p.knows

-- the seat that makes the others has made so many
pub record IsMaker (image : Shown) (n m workers made : ℕ) (z : TableId) (seat : Seat (Option Cargo) Knows) : Type 0 where
  pub table : seat.table_id ≡ z
  pub free : seat.me.1 ≡ []
  pub view : seat.me.0 ≡ record (clean image n m (workers - 1) true) { made = made }

-- what was taken from the slots, from the index off on
pub record AreTaken {A : Type 0} (wrap : A → Cargo) (off n : ℕ) (slots : List (Option Cargo)) (xs : List A) : Type 0 where
  pub count : length xs ≡ n
  pub each : (i : ℕ) (a : A) → get_elem? xs i ≡ some a → get_elem? slots (off + i) ≡ some (Some (wrap a))

pub record IsEmptied (n all : ℕ) (filled : List Bool) : Type 0 where
  pub empty : (t : ℕ) → t < n → slice_index_or filled t false ≡ false
  pub full : (t : ℕ) → n ≤ t → t < all → slice_index_or filled t false ≡ true
