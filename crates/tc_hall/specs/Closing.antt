-- What a hall gives at its end: its packages and lock states, the history that leaves them so, and the one order of all
-- operations, which sealed that history.
use Rattle.std.specs.Prelude.{◌≡◌, ℕ, ◌<◌, ◌||◌, Bool, true, false, if◌then◌else◌, List, [], ◌∷◌, ◌++◌, map, None}
use mathlib.Core.Option.{some}
use lib.ListN.{get_elem?}
use Rattle.tc_journal.specs.Handing.{Delegates}
use Rattle.tc_journal.specs.declared.block.Block.{Block}
use Rattle.tc_turn.specs.Turn.{is_running}
use Rattle.tc_segment.specs.View.{LockView, kept, sealed_block}
use Rattle.tc_context.specs.View.{PackageView, bare}
use Rattle.tc_law.specs.Lawful.{Lawful, AreStrict}
use Rattle.tc_hall.specs.declared.board.HallTerms.{HallTerms}
use Rattle.tc_hall.specs.declared.board.Knows.{Knows}
use Rattle.tc_hall.specs.declared.board.PassCall.TheVariants.{Stop}
use Rattle.tc_hall.specs.Rule.{locked_in}
use Rattle.tc_hall.specs.Effects.{Hall}
use Rattle.tc_hall.specs.Order.{Operation, commit, stop, Made, IsOrdered, HasNoted, notes_of}

-- ---- the blocks that were sealed

abbrev pub sealed_by : Knows → Operation → List Block
sealed_by v (commit stamp b q) = sealed_block stamp v.worker b ∷ []
sealed_by v o = []

-- by an order, in that order
abbrev pub sealed_in : List Made → List Block
sealed_in [] = []
sealed_in (m ∷ before) = sealed_in before ++ sealed_by m.knew m.operation

-- ---- stops

abbrev pub is_stop : Operation → Bool
is_stop stop = true
is_stop o = false

abbrev pub has_stop : List Made → Bool
has_stop [] = false
has_stop (m ∷ before) = has_stop before || is_stop m.operation

-- an order up to its first stop
abbrev pub before_stop : List Made → List Made
before_stop [] = []
before_stop (m ∷ before) = if has_stop (m ∷ before) then before_stop before else m ∷ before

-- the pass's list shows no stop
abbrev pub MadeNone : Knows → Type 0
MadeNone v = (i : ℕ) → ¬ (get_elem? v.calls i ≡ some Stop)

-- ---- the end

-- the history is what the operations of all passes sealed, in their one order from a new hall on. The pass's lists are its part of
-- that order; where they show no stop, no pass made one
pub record HasSteps (k : HallTerms) (v : Knows) (history : List Block) : Type 0 where
  pub state : Hall
  pub ordered : IsOrdered k state
  pub pass : ℕ
  pub last : get_elem? state.views pass ≡ some v
  pub noted : HasNoted v (notes_of ordered.order pass)
  pub written : history ≡ sealed_in ordered.order
  pub unstopped : MadeNone v → has_stop ordered.order ≡ false

-- the packages and lock states in order, at the end, if this was the last pass
pub record IsEnd (k : HallTerms) (v : Knows) (qs : List PackageView) (ls : List LockView) : Type 0 where
  pub history : List Block
  pub law : Lawful k.image.value k.fuel k.limit history (map bare qs) (map kept ls)
  pub strict : AreStrict ls
  pub workers : (i : ℕ) (b : Block) → get_elem? history i ≡ some b → b.worker < k.workers
  pub delegates : Delegates history
  -- each block that it sealed, or that a pass joined into it sealed, is in the history at its stamp
  pub sealed : (i : ℕ) (b : Block) → get_elem? v.sealed i ≡ some b → get_elem? history b.stamp ≡ some b
  pub ended : (t : ℕ) (q : PackageView) → get_elem? qs t ≡ some q → (is_running q.context.guest.status ≡ false) × ((i : ℕ) → locked_in q i ≡ None)
  pub steps : HasSteps k v history
