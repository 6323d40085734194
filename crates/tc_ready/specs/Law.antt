-- What the invariant of a deque says of the offers, and what it can't say.
use Rattle.std.specs.Prelude.{◌≡◌, ℕ, ◌+◌, ◌<◌, ◌≤◌, ◌==◌, Bool, cond, List, map, sum_by}
use mathlib.Core.Option.{some}
use lib.ListN.{get_elem?}
use Rattle.tc_ready.specs.declared.ends.Offer.{Offer}
use Rattle.tc_ready.specs.declared.ends.Log.{Log}
use Rattle.tc_ready.specs.Rule.{KeptDeque, SawEmpty, thread_of}

abbrev pub bit : Bool → ℕ
bit b = cond b 1 0

-- how often the offer with this number is in the list
abbrev pub times : ℕ → List Offer → ℕ
times n xs = sum_by (λ x. bit (x.serial == n)) xs

-- the deque holds these offers, which together with those that were taken are those that were made, each once
pub record AreOnce (tasks : List ℕ) (views : List Log) (owner : Log) : Type 0 where
  pub rest : List Offer
  pub lies : tasks ≡ map thread_of rest
  pub each : (n : ℕ) → times n rest + sum_by (λ v. times n v.taken) views ≡ times n owner.given
  pub once : (n : ℕ) → times n owner.given ≤ 1

abbrev pub EachOnce : Type 0
EachOnce = (tasks : List ℕ) (views : List Log) (owner : Log) → KeptDeque tasks views → get_elem? views 0 ≡ some owner → AreOnce tasks views owner

-- `SawEmpty` follows from any state of a deque: others may take the rest while what the worker knows stays the same
abbrev pub Limit : Type 0
Limit = (tasks : List ℕ) (views : List Log) (v : Log) → 0 < v.threads → KeptDeque tasks views → get_elem? views 0 ≡ some v → SawEmpty v.threads v.given v.taken
