-- What a worker that looks for a package comes to, and why.
use Rattle.std.specs.Prelude.{◌≡◌, ◌⊎◌, ℕ, ◌<◌, ◌∷◌, max, IfSome, MatchOption, Option, Some, None}
use Rattle.tc_context.specs.View.{PackageView}
use Rattle.tc_hall.specs.declared.board.PassCall.TheVariants.{Stopped as Seen}
use Rattle.tc_hall.specs.declared.board.Knows.{Knows}
use Rattle.tc_hall.specs.declared.place.Origin.{Origin}
use Rattle.tc_hall.specs.declared.place.Origin.TheVariants.{Ready, Parked}
use Rattle.tc_hall.specs.Places.{origin_code, slot_word}
use Rattle.tc_hall.specs.Outs.{Called}
use Rattle.tc_hall.specs.Steps.{Gets, Missed}
use Rattle.tc_park.specs.Order.{IsFirstDue, IsLeast, NoneIsDue, NoneSleeps, without}
use Rattle.tc_ready.specs.ReadyView.{FoundNone, TookOne}
use Rattle.tc_ready.specs.Scan.{OnlyLooks, SawNone, SawReady}
use Rattle.tc_hall.specs.Rule.{threads}
use Rattle.tc_combiner.specs.View.{BenchView, DeskView}
use Rattle.tc_workers.specs.Worker.{IsIdle, IsStill, SawEnded, SawOneLeft, WorkerView, put_back, worker_of}
use Rattle.tc_workers.specs.declared.step.Step.{Step}
use Rattle.tc_workers.specs.declared.step.Step.TheVariants.{On, AllDone, Stopped}

-- ---- one try

-- one who saw the stop put back the package
abbrev pub SawStop : PackageView → Knows → Knows → Type 0
SawStop q v w = Called (Seen 1 ∷ put_back (Some q)) v w

-- a package that was claimed is in hand as it came, unless the stop was seen
abbrev pub IsTakenUp : DeskView → DeskView → PackageView → Step → Type 0
IsTakenUp d e q (On None) = ⊥
IsTakenUp d e q (On (Some p)) = (p ≡ q) × (e ≡ d)
IsTakenUp d e q AllDone = ⊥
IsTakenUp d e q Stopped = SawStop q d.pass.knows e.pass.knows

-- a thread was tried at this place: its package is in hand, or it was not there, or it was and the stop was seen
abbrev pub IsTry : Origin → ℕ → Knows → Knows → Step → Type 0
IsTry from t v w (On None) = (word : ℕ) × Missed (origin_code from) (slot_word t) word v w
IsTry from t v w (On (Some q)) = Gets (origin_code from) t q v w
IsTry from t v w AllDone = ⊥
IsTry from t v w Stopped = (q : PackageView) × (u : Knows) × Gets (origin_code from) t q v u × SawStop q u w

-- ---- which thread is tried

-- a worker with nothing in hand and nothing set aside
pub record MaySearch (b : BenchView) (x : WorkerView) : Type 0 where
  pub idle : IsIdle b x.desk
  pub ready : x.ready.threads ≡ threads b.hall.terms

-- a thread was proposed as ready: an offer of it was taken, or no offer was there and it was the first that was seen ready
abbrev pub IsProposal : ℕ → WorkerView → WorkerView → Type 0
IsProposal t x y = OnlyLooks x.desk.pass.knows y.desk.pass.knows × (TookOne t x.ready y.ready ⊎ (FoundNone x.ready y.ready × SawReady t x.desk.pass.knows y.desk.pass.knows))

-- the thread that a worker tries next, and how the worker is then: the first sleeper, where it is due, which sleeps no more, else
-- a thread that was proposed as ready
abbrev pub IsChoice : Origin → ℕ → WorkerView → WorkerView → Type 0
IsChoice Parked t x y = IsFirstDue x.desk.now x.desk.sleepers t × (y.desk ≡ record x.desk { sleepers = without (Some t) x.desk.sleepers }) × (y.ready ≡ x.ready)
IsChoice Ready t x y = NoneIsDue x.desk.now x.desk.sleepers × IsProposal t x y × (y.desk ≡ record x.desk { pass = y.desk.pass })

-- ---- nothing to do

-- why a worker waits: the clock was moved to the turn of the first sleeper, and nothing else was done; or nobody sleeps, and a
-- thread was seen that has not ended
pub data Waits (threads : ℕ) (d e : DeskView) : Type 0 where
  sleeps : (due : ℕ) → IsLeast d.sleepers due → e ≡ record d { now = max due d.now } → Waits threads d e
  one_left : NoneSleeps d.sleepers → SawOneLeft threads d.pass.knows e.pass.knows → e ≡ record d { pass = e.pass } → Waits threads d e

-- a worker with nothing to do waits, or ends where nobody sleeps and each thread was seen to have ended
abbrev pub IsPause : ℕ → DeskView → DeskView → Step → Type 0
IsPause n d e (On None) = Waits n d e
IsPause n d e (On (Some q)) = ⊥
IsPause n d e AllDone = NoneSleeps d.sleepers × SawEnded n d.pass.knows e.pass.knows × (e ≡ record d { pass = e.pass })
IsPause n d e Stopped = ⊥

-- no sleeper was due and no offer was there, and each of so many threads was looked at and none was ready
pub record FoundNothing (threads : ℕ) (x y : WorkerView) : Type 0 where
  pub due : NoneIsDue x.desk.now x.desk.sleepers
  pub offers : FoundNone x.ready y.ready
  pub ready : SawNone threads x.desk.pass.knows y.desk.pass.knows
  pub rest : y.desk ≡ record x.desk { pass = y.desk.pass }

-- it chose this thread and place, or found nothing, and may search on
pub record Chooses (b : BenchView) (x y : WorkerView) (o : Option (ℕ × Origin)) : Type 0 where
  pub still : IsStill x.desk.pass y.desk.pass
  pub may : MaySearch b y
  pub thread : IfSome o (λ c. c.0 < threads b.hall.terms)
  pub choice : MatchOption o (FoundNothing (threads b.hall.terms) x y) (λ c. IsChoice c.1 c.0 x y)

-- a thread was tried, or there was nothing to do, and this came of it
pub data IsSearch (threads : ℕ) (x z : WorkerView) (s : Step) : Type 0 where
  tried : (from : Origin) (t : ℕ) (y : WorkerView) → IsChoice from t x y → IsTry from t y.desk.pass.knows z.desk.pass.knows s → z.desk ≡ record y.desk { pass = z.desk.pass } → z.ready ≡ y.ready → IsSearch threads x z s
  nothing : (y : WorkerView) → FoundNothing threads x y → IsPause threads y.desk z.desk s → z.ready ≡ y.ready → IsSearch threads x z s

-- the package that is set aside goes on, where there is one, and nothing else was done; else the worker searched
abbrev pub Finds : BenchView → Option PackageView → WorkerView → WorkerView → Step → Type 0
Finds b None x z s = IsSearch (threads b.hall.terms) x z s
Finds b (Some q) x z s = (s ≡ On (Some q)) × (z ≡ worker_of (record x.desk { aside = None }) x.ready)
