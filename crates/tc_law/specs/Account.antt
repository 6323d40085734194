-- A guest's image and options, a history, the packages of all threads and the states of all locks, as one value.
use Rattle.std.specs.Prelude.{ℕ, List, [], ◌∷◌, ◌++◌, length, Option}
use Rattle.tc_elf.specs.Shown.{Shown}
use Rattle.tc_journal.specs.declared.block.Block.{Block}
use Rattle.tc_segment.specs.View.{LockView, sealed_block}
use Rattle.tc_context.specs.View.{PackageView, locks_in, with_seal}
use Rattle.tc_law.specs.Lawful.{Lawful, owner_after, with_package, with_states}

pub record Account : Type 0 where
  pub image : Shown
  pub fuel : ℕ
  pub limit : ℕ
  pub history : List Block
  pub packages : List PackageView
  pub states : List LockView

abbrev pub IsLawful : Account → Type 0
IsLawful a = Lawful a.image a.fuel a.limit a.history a.packages a.states

-- with the block b of the package p, sealed by this worker, appended to the history, and p and its locks updated
abbrev pub with_block : Account → Block → PackageView → ℕ → Account
with_block a b p worker =
    record a {
      history = a.history ++ sealed_block (length a.history) worker b ∷ [];
      packages = with_package (with_seal (length a.history) worker p) a.packages;
      states = with_states (locks_in (with_seal (length a.history) worker p)) a.states;
    }

-- who owns lock k at the history's end
abbrev pub owner_in : Account → ℕ → Option ℕ
owner_in a k = owner_after a.image a.fuel a.history k
