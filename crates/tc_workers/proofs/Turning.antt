-- The steps of a worker: what comes of its search, its offers, and its end.
use Rattle.std.proofs.Common.{◌≡◌, ◌≢◌, ◌⊎◌, ℕ, ◌<◌, Bool, true, false, List, [], ◌∷◌, ◌++◌, All, length, map, Option, Some, None, refl, inl, inr, sym, ap, ◌∙◌, arith, append_assoc, append-nil, subst}
use Rattle.std.proofs.lemmas.List.{map-append}
use Rattle.std.proofs.Math.Nat.{le-min, min-le_left, min-le_right, mul-le-mul_left}
use Rattle.std.specs.Prelude.{MatchBool, ◌≤◌, ◌+◌, ◌*◌, ◌/◌, min}
use Rattle.tc_context.specs.View.{PackageView}
use Rattle.tc_hall.specs.declared.board.PassCall.{PassCall}
use Rattle.tc_hall.specs.declared.board.Knows.{Knows}
use Rattle.tc_hall.specs.declared.board.HallTerms.{HallTerms}
use Rattle.tc_hall.specs.declared.place.Origin.{Origin}
use Rattle.tc_hall.specs.PassView.{PassView}
use Rattle.tc_hall.specs.Places.{origin_code}
use Rattle.tc_hall.specs.Rule.{threads}
use Rattle.tc_hall.specs.Steps.{Gets, HasSeenAll, HasStop}
use Rattle.tc_ready.specs.ReadyView.{Offered, ReadyView}
use Rattle.tc_ready.specs.Rule.{offer, thread_of}
use Rattle.tc_combiner.specs.declared.settled.Settled.{Settled}
use Rattle.tc_combiner.specs.declared.settled.Settled.TheVariants.{Stopped as Was_stopped}
use Rattle.tc_combiner.specs.Settling.{TellsReady}
use Rattle.tc_combiner.specs.View.{BenchView, DeskView}
use Rattle.tc_combiner.specs.Walks.{TakesDown}
use Rattle.tc_workers.specs.StepWith.{CanHave, HasOffered, StepsWith}
use Rattle.tc_workers.specs.Search.{Finds, IsSearch, IsTakenUp, IsTry}
use Rattle.tc_workers.specs.Turns.{HasBegun, HasWorked, IsFinished, MakesStep, Proceeds, Reaches, Steps, TakesStep, last_step, more, proceeds}
use Rattle.tc_workers.specs.Worker.{HasLeft, IsAtDesk, IsAtWork, IsStill, LookedAtStop, WorkerSteps, WorkerView, worker_of}
use Rattle.tc_workers.specs.declared.step.Step.{Step}
use Rattle.tc_workers.specs.declared.step.Step.TheVariants.{On, AllDone, Stopped}
use Rattle.tc_workers.proofs.Leaving.{at_looked}
use Rattle.tc_workers.proofs.Passes.{still_then}
use Rattle.tc_workers.proofs.Running.{is_free}

-- the package that a try gave was taken up
pub taken_up : (from : Origin) (t : ℕ) (v : Knows) (d e : DeskView) (q : PackageView) (s : Step) → Gets (origin_code from) t q v d.pass.knows → IsTakenUp d e q s → IsTry from t v e.pass.knows s
taken_up from t v d e q (On None) g h = absurd h
taken_up from t v d e q (On (Some p)) g h = subst (λ (x : PackageView). Gets (origin_code from) t x v e.pass.knows) (sym h.0) (subst (λ (x : DeskView). Gets (origin_code from) t q v x.pass.knows) (sym h.1) g)
taken_up from t v d e q AllDone g h = absurd h
taken_up from t v d e q Stopped g h = (q, d.pass.knows, g, h)

-- nothing was set aside
pub found_alone : (b : BenchView) (x z : WorkerView) (e : DeskView) (s : Step) → x.desk.aside ≡ None → e ≡ record x.desk { aside = None } → IsSearch (threads b.hall.terms) (worker_of e x.ready) z s → Finds b x.desk.aside x z s
found_alone b x z e s alone rest h = subst (λ (o : Option PackageView). Finds b o x z s) (sym alone)
    (subst (λ (o : Option PackageView). IsSearch (threads b.hall.terms) (worker_of (record x.desk { aside = o }) x.ready) z s) (sym alone) (subst (λ (d : DeskView). IsSearch (threads b.hall.terms) (worker_of d x.ready) z s) rest h))

-- it goes on with what it has in hand, since it saw no stop
pub at_work_looked : (b : BenchView) (hand h : Option PackageView) (x : WorkerView) (e : DeskView) (saw : Bool) → IsAtWork b hand x → hand ≡ h → LookedAtStop saw x.desk e → IsAtWork b h (worker_of e x.ready)
at_work_looked b hand h x e saw work is l = record { desk = at_looked b h x.desk e saw (subst (λ (o : Option PackageView). IsAtDesk b o x.desk) is work.desk) l; ready = work.ready }

pub went_on : (b : BenchView) (hand h : Option PackageView) (x z : WorkerView) (e : DeskView) (saw : Bool) (s : Step) → LookedAtStop saw x.desk e → saw ≡ false → hand ≡ h → Proceeds b h (worker_of e x.ready) z s → TakesStep b hand x z s
went_on b hand h x z e saw s l went is go = subst (λ (o : Option PackageView). TakesStep b o x z s) (sym is) (proceeds (worker_of e x.ready) (record { desk = subst (λ (a : Bool). LookedAtStop a x.desk e) went l; ready = refl }) go)

-- a step that was begun, and what it came to
pub went_through : (b : BenchView) (hand : Option PackageView) (q : PackageView) (x y z : WorkerView) (s : Step) → WorkerSteps b x y (On (Some q)) → HasBegun hand q x y → WorkerSteps b y z s → StepsWith b.image q y z s → WorkerSteps b x z s × TakesStep b hand x z s
went_through b hand q x y z s did begun steps goes = (
  record {
    desk = record { still = still_then x.desk.pass y.desk.pass z.desk.pass did.desk.still steps.desk.still; after = steps.desk.after };
    ready = steps.ready ∙ did.ready;
  },
  subst (λ (o : Option PackageView). TakesStep b o x z s) (sym begun.hand_is) (proceeds y begun.saw goes),
)

-- steps, and one more where it was made
reached : (b : BenchView) (w : WorkerView) (hand : Option PackageView) (x : WorkerView) (at : Option PackageView) (y : WorkerView) → Steps b w hand x → Reaches b hand x at y → Steps b w at y
reached b w hand x at y steps reaches = go reaches.first
  where
    go : ((at ≡ hand) × (y ≡ x)) ⊎ TakesStep b hand x y (On at) → Steps b w at y
    go (inl same) = subst (λ (o : Option PackageView). Steps b w o y) (sym same.0) (subst (λ (v : WorkerView). Steps b w hand v) (sym same.1) steps)
    go (inr took) = more hand at x y steps took

-- steps that came to this one
pub record CameTo (b : BenchView) (w z : WorkerView) (r : Step) : Type 0 where
  pub at : Option PackageView
  pub y : WorkerView
  pub still : IsStill w.desk.pass y.desk.pass
  pub ready : y.ready.threads ≡ threads b.hall.terms
  pub steps : Steps b w at y
  pub did : WorkerSteps b y z r × TakesStep b at y z r

pub came_to : (b : BenchView) (w x z : WorkerView) (hand : Option PackageView) (r : Step) → IsStill w.desk.pass x.desk.pass → x.ready.threads ≡ threads b.hall.terms → Steps b w hand x → MakesStep b hand x z r → CameTo b w z r
came_to b w x z hand r still ready steps made = record {
  at = made.at;
  y = made.y;
  still = still_then w.desk.pass x.desk.pass made.y.desk.pass still made.reached.still;
  ready = made.reached.ready ∙ ready;
  steps = reached b w hand x made.at made.y steps made.reached;
  did = (made.steps, made.takes);
}

finished : (k : HallTerms) (p q : PassView) (e : DeskView) (a : Bool) → IsStill p e.pass → HasLeft e → (a ≡ true → HasSeenAll (threads k) e.pass.knows) → (a ≡ false → HasStop e.pass.knows) → q ≡ e.pass → IsFinished k p q a
finished k p q e a still left done stopped is = subst (λ (x : PassView). IsFinished k p x a) (sym is) record { still = still; free = is_free e.pass.knows left.out; done = done; stopped = stopped }

-- after a last step
ended : (b : BenchView) (x y z : WorkerView) (hand : Option PackageView) (p : PassView) (a : Bool) → IsStill x.desk.pass y.desk.pass → Steps b x hand y → WorkerSteps b y z (last_step a) → TakesStep b hand y z (last_step a) → p ≡ z.desk.pass → IsFinished b.hall.terms x.desk.pass p a × HasWorked b x p a
ended b x y z hand p true still steps did last is = (finished b.hall.terms x.desk.pass p z.desk true (still_then x.desk.pass y.desk.pass z.desk.pass still did.desk.still) did.desk.after.0 (λ t. did.desk.after.1) (λ t. absurd (cc)) is, record { hand = hand; y = y; steps = steps; z = z; last = last; pass = is })
ended b x y z hand p false still steps did last is = (finished b.hall.terms x.desk.pass p z.desk false (still_then x.desk.pass y.desk.pass z.desk.pass still did.desk.still) did.desk.after.0 (λ t. absurd (cc)) (λ t. did.desk.after.1) is, record { hand = hand; y = y; steps = steps; z = z; last = last; pass = is })

pub came_to_end : (b : BenchView) (w x z : WorkerView) (hand : Option PackageView) (r : Step) (p : PassView) (a d : Bool) → IsStill w.desk.pass x.desk.pass → x.ready.threads ≡ threads b.hall.terms → Steps b w hand x → MakesStep b hand x z r → r ≡ last_step a → p ≡ z.desk.pass → d ≡ a
    → IsFinished b.hall.terms w.desk.pass p d × HasWorked b w p d
came_to_end b w x z hand r p a d still ready steps made is pass done =
    let came = came_to b w x z hand r still ready steps made in
    subst (λ (e : Bool). IsFinished b.hall.terms w.desk.pass p e × HasWorked b w p e) (sym done)
    (ended b w came.y z came.at p a came.still came.steps (subst (λ (s : Step). WorkerSteps b came.y z s) is came.did.0) (subst (λ (s : Step). TakesStep b came.at came.y z s) is came.did.1) pass)

-- ---- offers, one after another, and room for them

pub offers_none : (r : ReadyView) → HasOffered [] r r
offers_none r = record { threads = refl; room = refl; offered = []; rest = []; parts = refl; given = sym (append-nil (map thread_of r.given)); full = λ ne. absurd (ne refl) }

none_left : (rest : List ℕ) → (rest ≢ [] → ⊥) → rest ≡ []
none_left [] h = refl
none_left (t ∷ ts) h = absurd (h (λ e. let n : ⊥ = cc in n))

pub offers_more : (ts : List ℕ) (t : ℕ) (b : Bool) (r s u : ReadyView) → HasOffered ts r s → MatchBool b ((length s.given < s.room) × Offered t s u) ((length s.given ≡ s.room) × (u ≡ s)) → HasOffered (ts ++ t ∷ []) r u
offers_more ts t true r s u h m =
    let low : length s.given < s.room = m.0 in
    let whole : h.rest ≡ [] = none_left h.rest (λ ne. let f : length s.given ≡ r.room = h.full ne in let e : s.room ≡ r.room = h.room in let n : ⊥ = omega arith in n) in
    record {
      threads = ap (λ (x : ReadyView). x.threads) m.1 ∙ h.threads;
      room = ap (λ (x : ReadyView). x.room) m.1 ∙ h.room;
      offered = h.offered ++ t ∷ [];
      rest = [];
      parts = ap (λ (l : List ℕ). l ++ t ∷ []) (h.parts ∙ (ap (λ (l : List ℕ). h.offered ++ l) whole ∙ append-nil h.offered)) ∙ sym (append-nil (h.offered ++ t ∷ []));
      given = ap (λ (x : ReadyView). map thread_of x.given) m.1 ∙ (map-append thread_of s.given (offer (length s.given) t ∷ []) ∙ (ap (λ (l : List ℕ). l ++ t ∷ []) h.given ∙ append_assoc (map thread_of r.given) h.offered (t ∷ [])));
      full = λ ne. absurd (ne refl);
    }
offers_more ts t false r s u h m = record {
  threads = ap (λ (x : ReadyView). x.threads) m.1 ∙ h.threads;
  room = ap (λ (x : ReadyView). x.room) m.1 ∙ h.room;
  offered = h.offered;
  rest = h.rest ++ t ∷ [];
  parts = ap (λ (l : List ℕ). l ++ t ∷ []) h.parts ∙ append_assoc h.offered h.rest (t ∷ []);
  given = ap (λ (x : ReadyView). map thread_of x.given) m.1 ∙ h.given;
  full = λ ne. ap (λ (x : ReadyView). length x.given) m.1 ∙ (m.0 ∙ h.room);
}

took_down : (n : ℕ) (ts : List ℕ) (cs : List PassCall) → TakesDown n [] ts cs → All (λ t. t < n) ts
took_down n ts cs h = subst (λ (l : List ℕ). All (λ t. t < n) l) (sym h.0) h.1

pub handed_known : (k : HallTerms) (r : Settled) (d e : DeskView) → TellsReady k r d e → All (λ t. t < threads k) e.handed
handed_known k Was_stopped d e h = subst (λ (l : List ℕ). All (λ t. t < threads k) l) (sym h.2) (λ i x deep. absurd (omega arith))
handed_known k r d e h = took_down (threads k) e.handed h.0 h.2

pub room_enough : (threads fuel sections most : ℕ) → CanHave fuel sections → min (threads * sections) most ≤ min (threads * (fuel / 2 + 2)) most
room_enough threads fuel sections most can =
    let few : sections ≤ fuel / 2 + 2 = omega arith in
    let all : threads * sections ≤ threads * (fuel / 2 + 2) = mul-le-mul_left threads few in
    let least = min-le_left (threads * sections) most in
    le-min (omega arith) (min-le_right (threads * sections) most)
