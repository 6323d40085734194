-- What contracts see of a worker's ready threads.
use Rattle.std.specs.Prelude.{◌≡◌, ◌≢◌, ◌⊎◌, ℕ, ◌+◌, ◌<◌, ◌==◌, max, cond, List, [], ◌∷◌, ◌++◌, length, map, slice_get, slice_set, slice_index_or, Some}
use Rattle.tc_ready.specs.declared.ends.Offer.{Offer}
use Rattle.tc_ready.specs.Rule.{offer, SawEmpty}
use Rattle.tc_ready.specs.EndView.{OtherView}

-- `crew` has the deque of each worker by number, `own` what this worker took from its own deque,
-- and `stolen` what it took from each other deque
pub record ReadyView : Type 0 where
  pub number : ℕ
  pub threads : ℕ
  pub room : ℕ
  pub crew : List (ℕ × ℕ)
  pub given : List Offer
  pub gone : ℕ
  pub own : List Offer
  pub stolen : List (List Offer)

abbrev pub deque_of : OtherView → ℕ × ℕ
deque_of e = e.deque

abbrev pub taken_of : OtherView → List Offer
taken_of e = e.taken

-- the offers that the worker took from the deque with this number
abbrev pub taken : ReadyView → ℕ → List Offer
taken r j = cond (j == r.number) r.own (slice_index_or r.stolen j [])

abbrev pub no_offers : ℕ × ℕ → List Offer
no_offers d = []

-- worker i of a crew with these deques, which has made and taken no offers
abbrev pub member : ℕ → ℕ → List (ℕ × ℕ) → ℕ → ReadyView
member threads room crew i = record { number = i; threads = threads; room = room; crew = crew; given = []; gone = 0; own = []; stolen = map no_offers crew }

-- a crew of so many workers: each has its number, all have the same deques, and no offers were made or taken
pub record AreCrew (workers threads room : ℕ) (rs : List ReadyView) : Type 0 where
  pub crew : List (ℕ × ℕ)
  pub count : (length rs ≡ workers) × (length crew ≡ workers)
  pub each : (i : ℕ) (r : ReadyView) → slice_get rs i ≡ Some r → r ≡ member threads room crew i

-- it is the same worker, and its own offers are the same
pub record IsSameMember (r s : ReadyView) : Type 0 where
  pub number_is : s.number ≡ r.number
  pub threads_is : s.threads ≡ r.threads
  pub room_is : s.room ≡ r.room
  pub crew_is : s.crew ≡ r.crew
  pub given_is : s.given ≡ r.given

-- one offer of the thread t is added to the own ones
abbrev pub Offered : ℕ → ReadyView → ReadyView → Type 0
Offered t r s = s ≡ record r { given = r.given ++ offer (length r.given) t ∷ [] }

-- no offer was taken. All own offers are gone, since the own deque was found empty
pub record FoundNone (r s : ReadyView) : Type 0 where
  pub now : s ≡ record r { gone = length r.given }
  pub empty : SawEmpty r.threads r.given r.own

abbrev pub stole_at : ReadyView → ℕ → Offer → ReadyView
stole_at r j x = record r { stolen = slice_set r.stolen j (slice_index_or r.stolen j [] ++ x ∷ []) }

-- an offer of the thread t was taken from the deque with this number
pub record StoleAt (j t : ℕ) (r s : ReadyView) : Type 0 where
  pub serial : ℕ
  pub thread : t < r.threads
  pub now : s ≡ stole_at r j (offer serial t)

-- an offer of the thread t was taken from another worker's deque
pub record StoleOne (t : ℕ) (r s : ReadyView) : Type 0 where
  pub deque : ℕ
  pub other : deque ≢ r.number
  pub in_crew : deque < length r.stolen
  pub stole : StoleAt deque t r s

-- an own offer of the thread t was taken, so all before it are gone
pub record TookOwn (t : ℕ) (r s : ReadyView) : Type 0 where
  pub serial : ℕ
  pub own : serial < length r.given
  pub thread : t < r.threads
  pub now : s ≡ record r { own = r.own ++ offer serial t ∷ []; gone = max r.gone (serial + 1) }

-- the own deque was found empty, and an offer of the thread t was taken from another one
pub record TookOther (t : ℕ) (r s : ReadyView) : Type 0 where
  pub between : ReadyView
  pub none : FoundNone r between
  pub stole : StoleOne t between s

abbrev pub TookOne : ℕ → ReadyView → ReadyView → Type 0
TookOne t r s = TookOwn t r s ⊎ TookOther t r s
