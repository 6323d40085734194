-- What contracts see of the two ends of a deque, and what each call says.
use Rattle.std.specs.Prelude.{◌≡◌, ◌<◌, ◌+◌, ℕ, max, List, [], ◌∷◌, ◌++◌, length}
use Rattle.tc_ready.specs.declared.ends.Offer.{Offer}
use Rattle.tc_ready.specs.Rule.{offer, SawEmpty}

pub record OwnView : Type 0 where
  pub deque : ℕ × ℕ
  pub given : List Offer
  pub taken : List Offer
  pub gone : ℕ
  pub room : ℕ
  pub threads : ℕ

pub record OtherView : Type 0 where
  pub deque : ℕ × ℕ
  pub taken : List Offer
  pub threads : ℕ

pub record IsNew (threads room : ℕ) (o : OwnView) : Type 0 where
  pub given : o.given ≡ []
  pub taken : o.taken ≡ []
  pub gone : o.gone ≡ 0
  pub room_is : o.room ≡ room
  pub threads_is : o.threads ≡ threads

abbrev pub Gave : ℕ → OwnView → OwnView → Type 0
Gave t o p = p ≡ record o { given = o.given ++ offer (length o.given) t ∷ [] }

-- the deque was found empty, so all own offers are gone
pub record Emptied (o p : OwnView) : Type 0 where
  pub now : p ≡ record o { gone = length o.given }
  pub empty : SawEmpty o.threads o.given o.taken

-- one of the own offers was taken, of the thread t, so all before it are gone
pub record Popped (t : ℕ) (o p : OwnView) : Type 0 where
  pub serial : ℕ
  pub own : serial < length o.given
  pub thread : t < o.threads
  pub now : p ≡ record o { gone = max o.gone (serial + 1); taken = o.taken ++ offer serial t ∷ [] }

-- another worker's end of a deque, from which nothing was taken
abbrev pub new_end : OwnView → OtherView
new_end o = record { deque = o.deque; taken = []; threads = o.threads }

abbrev pub IsEndOf : OwnView → OtherView → Type 0
IsEndOf o e = e ≡ new_end o

abbrev pub IsEndFor : ℕ → OtherView → Type 0
IsEndFor n e = e.threads ≡ n

abbrev pub with_taken : OtherView → Offer → OtherView
with_taken e x = record e { taken = e.taken ++ x ∷ [] }

-- an offer of the thread t was taken
pub record Stole (t : ℕ) (e f : OtherView) : Type 0 where
  pub serial : ℕ
  pub thread : t < e.threads
  pub now : f ≡ with_taken e (offer serial t)
