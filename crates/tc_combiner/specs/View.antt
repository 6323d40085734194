-- What contracts see of a desk, and when it fits a bench.
use Rattle.std.specs.Prelude.{◌≡◌, ℕ, ◌<◌, ◌≤◌, List, [], length, get_or, map, Option, Some}
use Rattle.tc_combiner.specs.Vocabulary.{HallView, DeskParts, IsSeatOf, PackageView, PassView, QueueView, Sleeping, SeatView, Shown, HallTerms, locks, threads}
use Rattle.tc_combiner.specs.Packages.{IsAside}
use Rattle.tc_combiner.specs.Walks.{Owned, packed}

-- `now` is the number of blocks that it committed; `handed` are the threads that its last call put as ready
pub record DeskView : Type 0 where
  pub pass : PassView
  pub seats : List SeatView
  pub sleepers : List (Option ℕ)
  pub now : ℕ
  pub aside : Option PackageView
  pub handed : List ℕ

abbrev pub desk_of : PassView → List SeatView → List (Option ℕ) → ℕ → Option PackageView → List ℕ → DeskView
desk_of pass seats sleepers now aside handed = record { pass = pass; seats = seats; sleepers = sleepers; now = now; aside = aside; handed = handed }

-- the desk whose parts these are
abbrev pub desk_with : DeskParts → List SeatView → Sleeping → DeskView
desk_with h seats sleeping = desk_of h.pass seats sleeping.sleepers sleeping.clock h.aside h.ready.items

-- what the workers share
pub record BenchView : Type 0 where
  pub image : Shown
  pub hall : HallView
  pub queues : List QueueView

-- a seat of the queue, which was made for so many threads
pub record IsSeatFor (n : ℕ) (q : QueueView) (s : SeatView) : Type 0 where
  pub of : IsSeatOf q s
  pub made : q.threads ≡ n

-- each seat is one of its queue, which was made for the threads of the hall
abbrev pub AreSeats : HallTerms → List QueueView → List SeatView → Type 0
AreSeats k queues seats = (i : ℕ) (q : QueueView) (s : SeatView) → i < locks k → IsSeatFor (threads k) (get_or queues i q) (get_or seats i s)

-- each lock of the hall has its queue and its seat here
pub record HasSeats {X S : Type 0} (queue : X → QueueView) (seen : S → SeatView) (k : HallTerms) (qs : List X) (ss : List S) : Type 0 where
  pub queues : length qs ≡ locks k
  pub seats : length ss ≡ locks k
  pub of : AreSeats k (map queue qs) (map seen ss)

-- a desk fits a bench; its pass has the package set aside out
pub record FitsBench (bench : BenchView) (d : DeskView) : Type 0 where
  pub hall : bench.hall.terms.image.value ≡ bench.image
  pub own : d.pass.table ≡ bench.hall.table
  pub image : d.pass.knows.image ≡ bench.image
  pub count : length bench.queues ≡ locks bench.hall.terms
  pub seats : length d.seats ≡ locks bench.hall.terms
  pub of : AreSeats bench.hall.terms bench.queues d.seats
  pub sleepers : threads bench.hall.terms ≤ length d.sleepers
  pub aside : (a : PackageView) → d.aside ≡ Some a → IsAside bench.hall.terms a
  pub out : Owned d.pass.knows (packed d.aside)

-- the value of a list of seats past its end
abbrev pub no_seat : SeatView
no_seat = record { table = record { words = 0; slots = 0; views_name = 0; atom = 0; block = 0; offset = 0; slot_names = [] }; threads = 0; calls = [] }

abbrev pub seat_at : List SeatView → ℕ → SeatView
seat_at ss j = get_or ss j no_seat
