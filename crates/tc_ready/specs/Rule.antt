-- The invariant of one worker's deque, and what each step on it says.
use Rattle.std.specs.Prelude.{◌≡◌, ◌≢◌, ◌<◌, ◌≤◌, ◌+◌, ℕ, max, List, [], ◌∷◌, ◌++◌, length, map, sum_by}
use mathlib.Core.Option.{some}
use lib.ListN.{get_elem?}
use Rattle.tc_ready.specs.declared.ends.Offer.{Offer}
use Rattle.tc_ready.specs.declared.ends.Log.{Log}

abbrev pub offer : ℕ → ℕ → Offer
offer n t = record { serial = n; thread = t }

abbrev pub thread_of : Offer → ℕ
thread_of x = x.thread

-- a worker that has made and taken no offers, in a deque for n threads
abbrev pub opened : ℕ → Log
opened n = record { threads = n; given = []; taken = []; gone = 0 }

-- the worker of a deque that wasn't told yet how many threads there are
abbrev pub fresh : Log
fresh = opened 0

-- the serial numbers are 0, 1, 2 and so on, and each thread is below n
abbrev pub AreOffers : ℕ → List Offer → Type 0
AreOffers n xs = (i : ℕ) (x : Offer) → get_elem? xs i ≡ some x → (x.serial ≡ i) × (x.thread < n)

-- The first view is that of the deque's owner, who alone makes offers. These are the offers that are gone
-- and then those in the deque; those that are gone are what the workers took, with the same multiplicities
pub record KeptDeque (tasks : List ℕ) (views : List Log) : Type 0 where
  pub owner : Log
  pub left : List Offer
  pub rest : List Offer
  pub first : get_elem? views 0 ≡ some owner
  pub others : (id : ℕ) (v : Log) → get_elem? views id ≡ some v → id ≢ 0 → v.given ≡ []
  pub threads : (id : ℕ) (v : Log) → get_elem? views id ≡ some v → v.threads ≡ owner.threads
  pub sole : owner.threads ≡ 0 → length views ≡ 1
  pub offers : AreOffers owner.threads owner.given
  pub split : owner.given ≡ left ++ rest
  pub lies : tasks ≡ map thread_of rest
  pub taken : (f : Offer → ℕ) → sum_by (λ v. sum_by f v.taken) views ≡ sum_by f left
  pub gone : owner.gone ≤ length left

-- the worker gave one offer
abbrev pub given : Log → List ℕ → Log → Type 0
given v [] w = w ≡ v
given v (t ∷ ts) w = w ≡ record v { given = v.given ++ offer (length v.given) t ∷ [] }

pub record TookOne (t : ℕ) (v w : Log) : Type 0 where
  pub serial : ℕ
  pub thread : t < v.threads
  pub now : w ≡ record v { taken = v.taken ++ offer serial t ∷ [] }

-- another worker took one offer
abbrev pub took : Log → List ℕ → Log → Type 0
took v [] w = w ≡ v
took v (t ∷ ts) w = TookOne t v w

pub record PoppedOne (t : ℕ) (v w : Log) : Type 0 where
  pub serial : ℕ
  pub own : serial < length v.given
  pub thread : t < v.threads
  pub now : w ≡ record v { taken = v.taken ++ offer serial t ∷ []; gone = max v.gone (serial + 1) }

-- the worker took one of its own offers, so all before it are gone
abbrev pub popped : Log → List ℕ → Log → Type 0
popped v [] w = w ≡ v
popped v (t ∷ ts) w = PoppedOne t v w

-- there is a state of the deque with no offer in it, in which its owner has made and taken these
pub record SawEmpty (threads : ℕ) (given taken : List Offer) : Type 0 where
  pub views : List Log
  pub owner : Log
  pub rule : KeptDeque [] views
  pub first : get_elem? views 0 ≡ some owner
  pub same : (owner.threads ≡ threads) × (owner.given ≡ given) × (owner.taken ≡ taken)

abbrev pub found_empty : Log → Type 0
found_empty v = SawEmpty v.threads v.given v.taken
