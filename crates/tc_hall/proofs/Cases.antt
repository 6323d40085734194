-- What an option, a place of a list, a slot or a spot is, it is nothing else.
use Rattle.std.proofs.Common.{◌≡◌, ◌⊎◌, ℕ, Bool, true, false, Option, Some, None, refl, inl, inr}
use Rattle.tc_hall.proofs.Vocabulary.{Cargo, Lock, LockView, Package, PackageView, Spot, home, inside, none, out, some}
use mathlib.Core.Option as maybe

pub apart : (b : Bool) → b ≡ false → b ≡ true → ⊥
apart b e f = cc (e, f)

module _ {A : Type 0} where
  pub some_or_none : (o : Option A) → ((a : A) × (o ≡ Some a)) ⊎ (o ≡ None)
  some_or_none (Some a) = inl (a, refl)
  some_or_none None = inr refl

  pub clash : (o : Option A) (a : A) → o ≡ None → o ≡ Some a → ⊥
  clash o a e f = cc (e, f)

  pub none_of : (o : Option A) → ((a : A) → o ≡ Some a → ⊥) → o ≡ None
  none_of None never = refl
  none_of (Some a) never = absurd (never a refl)

  pub same_some : (o : Option A) (a b : A) → o ≡ Some a → o ≡ Some b → b ≡ a
  same_some o a b e f = cc (e, f)

  pub clash_at : (x : maybe.Option (Option A)) (a : A) → x ≡ some None → x ≡ some (Some a) → ⊥
  clash_at x a e f = cc (e, f)

  pub same_at : (x : maybe.Option (Option A)) (a b : A) → x ≡ some (Some a) → x ≡ some (Some b) → a ≡ b
  same_at x a b e f = cc (e, f)

-- ---- what lies in a slot

abbrev Laid : Type 0
Laid = maybe.Option (maybe.Option (Option Cargo))

pub not_taken : (x : Laid) (c : Cargo) → x ≡ some none → x ≡ some (some (Some c)) → ⊥
not_taken x c e f = cc (e, f)

pub not_empty : (x : Laid) (c : Cargo) → x ≡ some (some None) → x ≡ some (some (Some c)) → ⊥
not_empty x c e f = cc (e, f)

pub same_package : (x : Laid) (a b : PackageView) → x ≡ some (some (Some (Package a))) → x ≡ some (some (Some (Package b))) → a ≡ b
same_package x a b e f = cc (e, f)

pub same_lock : (x : Laid) (a b : LockView) → x ≡ some (some (Some (Lock a))) → x ≡ some (some (Some (Lock b))) → a ≡ b
same_lock x a b e f = cc (e, f)

-- ---- where a lock is

pub home_out : (s : Spot) (j : ℕ) → s ≡ home → s ≡ out j → ⊥
home_out s j a b = cc (a, b)

pub out_inside : (j t : ℕ) (s : Spot) → s ≡ out j → s ≡ inside t → ⊥
out_inside j t s a b = cc (a, b)

pub same_out : (s : Spot) (a b : ℕ) → s ≡ out a → s ≡ out b → a ≡ b
same_out s a b e f = cc (e, f)
