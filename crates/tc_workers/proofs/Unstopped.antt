-- A step after which its worker goes on, or has seen that all is done, makes no stop; so a run that ends well has none.
use Rattle.std.proofs.Common.{◌≡◌, ◌≢◌, ℕ, ◌+◌, Bool, true, false, List, [], ◌∷◌, ◌++◌, length, refl, sym, ap, ◌∙◌, subst, append-nil, append_assoc, Option, Some, None}
use Rattle.std.proofs.lemmas.Bool.{and_parts}
use mathlib.Core.Option.{some}
use lib.ListN.{get_elem?}
use Rattle.atomic_table.proofs.Lists.{at_longer, at_last}
use Rattle.tc_elf.specs.Shown.{Shown}
use Rattle.tc_journal.specs.declared.block.Block.{Block}
use Rattle.tc_journal.specs.declared.block.End.{End}
use Rattle.tc_journal.specs.declared.block.End.TheVariants.{Cut, Slept, Unlocked, Wants}
use Rattle.tc_segment.specs.View.{sealed_block}
use Rattle.tc_context.specs.View.{PackageView}
use Rattle.tc_hall.specs.declared.board.Knows.{Knows}
use Rattle.tc_hall.specs.declared.board.PassCall.{PassCall}
use Rattle.tc_hall.specs.declared.board.PassCall.TheVariants.{Commit, Look, Stopped as Seen}
use Rattle.tc_hall.specs.declared.place.Origin.{Origin}
use Rattle.tc_hall.specs.declared.place.Origin.TheVariants as origin
use Rattle.tc_hall.specs.PassView.{PassView}
use Rattle.tc_hall.specs.Places.{origin_code}
use Rattle.tc_hall.specs.Rule.{threads}
use Rattle.tc_hall.specs.Steps.{claim_call}
use Rattle.tc_ready.specs.Scan.{looks_from}
use Rattle.tc_combiner.specs.declared.settled.Settled.{Settled}
use Rattle.tc_combiner.specs.declared.settled.Settled.TheVariants.{GoesOn, Parked as Did_park}
use Rattle.tc_combiner.specs.Settling.{SettledAs}
use Rattle.tc_combiner.specs.View.{BenchView, DeskView}
use Rattle.tc_combiner.specs.Walks.{Adds, HaveNoStop}
use Rattle.tc_combiner.proofs.Acting.{no_stops}
use Rattle.tc_workers.specs.Crew.{HaveWorked, more as joined, one}
use Rattle.tc_workers.specs.Search.{Finds, IsChoice, IsPause, IsSearch, IsTry, nothing, one_left, sleeps, tried}
use Rattle.tc_workers.specs.StepWith.{StepsWith, acquires, gives_up, runs}
use Rattle.tc_workers.specs.Turns.{HasWorked, Proceeds, Steps, TakesStep, leaves, more, none, proceeds}
use Rattle.tc_workers.specs.Worker.{WorkerView}
use Rattle.tc_workers.specs.declared.step.Step.{Step}
use Rattle.tc_workers.specs.declared.step.Step.TheVariants.{On, AllDone, Stopped}

-- calls were added, none of which is a stop
record AddsNoStop (v w : Knows) : Type 0 where
  calls : List PassCall
  added : w.calls ≡ v.calls ++ calls
  none_stops : HaveNoStop calls

same_calls : (v w : Knows) → w.calls ≡ v.calls → AddsNoStop v w
same_calls v w e = record { calls = []; added = e ∙ sym (append-nil v.calls); none_stops = tt }

both_add : (v w x : Knows) → AddsNoStop v w → AddsNoStop w x → AddsNoStop v x
both_add v w x a b = record {
  calls = a.calls ++ b.calls;
  added = b.added ∙ (ap (λ (l : List PassCall). l ++ b.calls) a.added ∙ append_assoc v.calls a.calls b.calls);
  none_stops = no_stops a.calls b.calls a.none_stops b.none_stops;
}

-- one more that is none
adds_one : (v w x : Knows) (c : PassCall) → HaveNoStop (c ∷ []) → AddsNoStop v w → x.calls ≡ w.calls ++ c ∷ [] → AddsNoStop v x
adds_one v w x c free a e = both_add v w x a record { calls = c ∷ []; added = e; none_stops = free }

looks_none : (n : ℕ) (words : List ℕ) → HaveNoStop (looks_from n words)
looks_none n [] = tt
looks_none n (x ∷ words) = looks_none (n + 1) words

adds_looks : (v w : Knows) (words : List ℕ) → w.calls ≡ v.calls ++ looks_from 0 words → AddsNoStop v w
adds_looks v w words e = record { calls = looks_from 0 words; added = e; none_stops = looks_none 0 words }

of_adds : (cs : List PassCall) (v w : Knows) → Adds cs v w → AddsNoStop v w
of_adds cs v w h = record { calls = h.calls; added = h.told.calls; none_stops = h.stops }

-- ---- a search

chosen : (from : Origin) (t : ℕ) (x y : WorkerView) → IsChoice from t x y → AddsNoStop x.desk.pass.knows y.desk.pass.knows
chosen origin.Parked t x y h = same_calls x.desk.pass.knows y.desk.pass.knows (ap (λ (d : DeskView). d.pass.knows.calls) h.1)
chosen origin.Ready t x y h = adds_looks x.desk.pass.knows y.desk.pass.knows h.1.0.words (ap (λ (v : Knows). v.calls) h.1.0.looked)

tried_so : (from : Origin) (t : ℕ) (v w : Knows) (s : Step) → s ≢ Stopped → IsTry from t v w s → AddsNoStop v w
tried_so from t v w (On None) goes h = same_calls v w (ap (λ (k : Knows). k.calls) h.1.1)
tried_so from t v w (On (Some q)) goes h = adds_one v v w (claim_call v q (origin_code from)) tt (same_calls v v refl) h.called.calls
tried_so from t v w AllDone goes h = absurd h
tried_so from t v w Stopped goes h = absurd (goes refl)

paused : (n : ℕ) (d e : DeskView) (s : Step) → IsPause n d e s → AddsNoStop d.pass.knows e.pass.knows
paused n d e (On None) (sleeps due first is) = same_calls d.pass.knows e.pass.knows (ap (λ (z : DeskView). z.pass.knows.calls) is)
paused n d e (On None) (one_left nobody saw is) =
    adds_one d.pass.knows saw.between e.pass.knows (Look saw.thread saw.word) tt (adds_looks d.pass.knows saw.between saw.ended.words (ap (λ (v : Knows). v.calls) saw.ended.looked)) (ap (λ (v : Knows). v.calls) saw.looked)
paused n d e (On (Some q)) h = absurd h
paused n d e AllDone h = adds_looks d.pass.knows e.pass.knows h.1.words (ap (λ (v : Knows). v.calls) h.1.looked)
paused n d e Stopped h = absurd h

searched_so : (n : ℕ) (x z : WorkerView) (s : Step) → s ≢ Stopped → IsSearch n x z s → AddsNoStop x.desk.pass.knows z.desk.pass.knows
searched_so n x z s goes (tried from t y choice try rest ready) = both_add x.desk.pass.knows y.desk.pass.knows z.desk.pass.knows (chosen from t x y choice) (tried_so from t y.desk.pass.knows z.desk.pass.knows s goes try)
searched_so n x z s goes (nothing y found pause ready) =
    both_add x.desk.pass.knows y.desk.pass.knows z.desk.pass.knows (adds_looks x.desk.pass.knows y.desk.pass.knows found.ready.words (ap (λ (v : Knows). v.calls) found.ready.looked)) (paused n y.desk z.desk s pause)

found_so : (b : BenchView) (o : Option PackageView) (x z : WorkerView) (s : Step) → s ≢ Stopped → Finds b o x z s → AddsNoStop x.desk.pass.knows z.desk.pass.knows
found_so b None x z s goes h = searched_so (threads b.hall.terms) x z s goes h
found_so b (Some q) x z s goes h = same_calls x.desk.pass.knows z.desk.pass.knows (ap (λ (w : WorkerView). w.desk.pass.knows.calls) h.1)

-- ---- a package in hand

settled_so : (end : End) (q : PackageView) (x : Block) (d e : DeskView) (r : Settled) → SettledAs end q x d e r → AddsNoStop d.pass.knows e.pass.knows
settled_so (Wants i) q x d e r h = of_adds h.calls d.pass.knows e.pass.knows h.adds
settled_so (Unlocked i) q x d e r h = of_adds h.calls d.pass.knows e.pass.knows h.adds
settled_so Slept q x d e Did_park h = of_adds _ d.pass.knows e.pass.knows h.adds
settled_so Slept q x d e r h = absurd h
settled_so Cut q x d e (GoesOn p) h = same_calls d.pass.knows e.pass.knows (ap (λ (z : DeskView). z.pass.knows.calls) h.1)
settled_so Cut q x d e r h = absurd h
settled_so end q x d e r h = of_adds h.calls d.pass.knows e.pass.knows h.adds

went_so : (image : Shown) (p : PackageView) (x z : WorkerView) (s : Step) → s ≢ Stopped → StepsWith image p x z s → AddsNoStop x.desk.pass.knows z.desk.pass.knows
went_so image p x z s goes (acquires a offered) = of_adds a.acquired.2.calls x.desk.pass.knows z.desk.pass.knows a.acquired.2.adds
went_so image p x z s goes (runs want r offered) =
    both_add x.desk.pass.knows r.between.pass.knows z.desk.pass.knows
    (adds_one x.desk.pass.knows x.desk.pass.knows r.between.pass.knows (Commit r.block.pending.context.thread (sealed_block r.block.stamp x.desk.pass.knows.worker r.block.sealed.block)) tt (same_calls x.desk.pass.knows x.desk.pass.knows refl) (ap (λ (v : Knows). v.calls) r.block.sealed.now))
    (settled_so r.end r.sealed r.settled.0 r.between z.desk r.answer r.settled.2)
went_so image p x z s goes (gives_up want q room gave is ready) = absurd (goes is)

-- ---- steps

proceeded : (b : BenchView) (hand : Option PackageView) (y z : WorkerView) (s : Step) → s ≢ Stopped → Proceeds b hand y z s → AddsNoStop y.desk.pass.knows z.desk.pass.knows
proceeded b None y z s goes h = found_so b y.desk.aside y z s goes h
proceeded b (Some q) y z s goes h = went_so b.image q y z s goes h

stepped_so : (b : BenchView) (hand : Option PackageView) (x z : WorkerView) (s : Step) → s ≢ Stopped → TakesStep b hand x z s → AddsNoStop x.desk.pass.knows z.desk.pass.knows
stepped_so b hand x z s goes (leaves told rest ready is) = absurd (goes is)
stepped_so b hand x z s goes (proceeds y saw go) =
    both_add x.desk.pass.knows y.desk.pass.knows z.desk.pass.knows
    (adds_one x.desk.pass.knows x.desk.pass.knows y.desk.pass.knows (Seen saw.desk.saw.word) tt (same_calls x.desk.pass.knows x.desk.pass.knows refl) (ap (λ (v : Knows). v.calls) saw.desk.saw.now))
    (proceeded b hand y z s goes go)

steps_so : (b : BenchView) (x : WorkerView) (hand : Option PackageView) (y : WorkerView) → Steps b x hand y → AddsNoStop x.desk.pass.knows y.desk.pass.knows
steps_so b x hand y none = same_calls x.desk.pass.knows x.desk.pass.knows refl
steps_so b x hand y (more before next w z steps step) = both_add x.desk.pass.knows w.desk.pass.knows z.desk.pass.knows (steps_so b x before w steps) (stepped_so b before w z (On next) (λ e. let n : ⊥ = cc in n) step)

worked_so : (b : BenchView) (x : WorkerView) (p : PassView) (a : Bool) → HasWorked b x p a → a ≡ true → AddsNoStop x.desk.pass.knows p.knows
worked_so b x p false h e = absurd (cc e)
worked_so b x p true h e = subst (λ (q : PassView). AddsNoStop x.desk.pass.knows q.knows) (sym h.pass) (both_add x.desk.pass.knows h.y.desk.pass.knows h.z.desk.pass.knows (steps_so b x h.hand h.y h.steps) (stepped_so b h.hand h.y h.z AllDone (λ e. let n : ⊥ = cc in n) h.last))

-- ---- a crew

from_new : (v w : Knows) → v.calls ≡ [] → AddsNoStop v w → HaveNoStop w.calls
from_new v w new a = subst HaveNoStop (sym (a.added ∙ ap (λ (l : List PassCall). l ++ a.calls) new)) a.none_stops

-- where none of them had begun
pub none_stopped : (b : BenchView) (ws : List WorkerView) (v : Knows) (a : Bool) → HaveWorked b ws v a → a ≡ true → ((i : ℕ) (w : WorkerView) → get_elem? ws i ≡ some w → w.desk.pass.knows.calls ≡ []) → HaveNoStop v.calls
none_stopped b ws v a (one w p d worked) all new = from_new w.desk.pass.knows p.knows (new 0 w refl) (worked_so b w p d worked all)
none_stopped b ws v a (joined us u c w p d others worked) all new =
    let both = and_parts d c all in
    no_stops p.knows.calls u.calls (from_new w.desk.pass.knows p.knows (new (length us) w (at_last us w (length us) refl)) (worked_so b w p d worked both.0))
    (none_stopped b us u c others both.1 (λ i x e. new i x (at_longer us (w ∷ []) i x e)))
