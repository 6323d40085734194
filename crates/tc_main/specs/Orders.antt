-- Orders of the waiters of a lock.
use Rattle.std.specs.Prelude.{◌≡◌, ℕ, ◌≤◌, ◌%◌, List, All}
use mathlib.Core.Option.{some}
use lib.ListN.{get_elem?}
use Rattle.tc_nodes.specs.View.{NodeSeatView}
use Rattle.tc_main.specs.declared.policy.Policy.{Policy}
use Rattle.tc_main.specs.declared.policy.Policy.TheVariants.{Entry, Nodes}
use Rattle.tc_main.specs.declared.policy.TheConstants.{MAX_PASSES}

-- this order is possible for so many workers: each node has a worker, and the bound is not too great
abbrev pub IsOrderFor : ℕ → Policy → Type 0
IsOrderFor workers Entry = Unit {0}
IsOrderFor workers (Nodes nodes bound) = (1 ≤ nodes) × (nodes ≤ workers) × (bound ≤ MAX_PASSES)

-- the rows of seats are those of workers on so many nodes: each seat of worker w is on node w modulo their number
pub record AreOnNodes {X : Type 0} (nodes : ℕ) (seats : X → List NodeSeatView) (rows : List X) : Type 0 where
  pub each : (w : ℕ) (row : X) → get_elem? rows w ≡ some row → All (λ (s : NodeSeatView). s.node ≡ w % nodes) (seats row)
