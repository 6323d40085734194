-- The passes of workers that have ended, joined into one, and the whole run.
use Rattle.std.proofs.Common.{◌≡◌, ℕ, suc, ◌-◌, Bool, true, false, ◌&&◌, List, [], ◌∷◌, ◌++◌, length, refl, sym, ap, ◌∙◌, subst, ⊎_elim, inl, inr, arith, None, get_or, map, Result, Ok, Err}
use Rattle.std.specs.Prelude.{IfOk, MatchResult}
use Rattle.std.proofs.lemmas.Bool.{and_cases, and_parts}
use Rattle.std.proofs.lemmas.List.{map-append, nil_from_length}
use Rattle.tc_hall.proofs.Listing.{at_append}
use mathlib.Core.Option.{some}
use lib.ListN.{get_elem?, length-map}
use Rattle.tc_isa.specs.declared.options.Options.{Options}
use Rattle.atomic_table.proofs.Lists.{at_longer, at_last, at_map}
use Rattle.tc_elf.specs.Shown.{Shown}
use Rattle.tc_turn.specs.Turn.{Thread, is_running}
use Rattle.tc_mutex_spec.proofs.ListLaws.{there}
use Rattle.tc_segment.specs.View.{kept}
use Rattle.tc_context.specs.View.{bare}
use Rattle.tc_law.specs.Lawful.{Lawful}
use Rattle.tc_hall.specs.declared.board.PassCall.TheVariants.{Look, Stop, Stopped}
use Rattle.tc_hall.specs.declared.board.Knows.{Knows}
use Rattle.tc_hall.specs.Made.{IsHallOf}
use Rattle.tc_hall.specs.PassView.{ClosedView, HallView, PassView}
use Rattle.tc_hall.specs.Rule.{threads}
use Rattle.tc_hall.specs.Steps.{HasSeenAll, HasStop, IsFree, IsSamePass, made, merged, seen}
use Rattle.tc_hall.specs.Closing.{IsEnd}
use Rattle.tc_queue.specs.Lines.{SeatView}
use Rattle.tc_ready.specs.ReadyView.{ReadyView}
use Rattle.tc_combiner.specs.View.{BenchView}
use Rattle.tc_combiner.specs.Walks.{HaveNoStop}
use Rattle.tc_workers.specs.Worker.{IsAtWork, WorkerView, view_of}
use Rattle.tc_workers.specs.Turns.{HasWorked, IsFinished}
use Rattle.tc_workers.specs.Crew.{AreAtWork, Counts, CrewRan, HasRun, HaveFinished, HaveWorked, more, one}
use Rattle.tc_workers.specs.declared.worker.Worker.{Worker}
use Rattle.tc_workers.specs.Run.{HaveRoom, IsCrewsRun, IsWholeRun}
use Rattle.tc_workers.proofs.Hiring.{hired_of}
use Rattle.tc_workers.proofs.Unstopped.{none_stopped}
use Rattle.tc_lemmas.proofs.Lists.{at_end, at_itself, something_at}
use Rattle.tc_hall.proofs.Stops.{stop_later}

-- a worker that counts in the joined pass, counts in both
counts_joined : (v w : Knows) (u : ℕ) → Counts w u → Counts (merged v w) u
counts_joined v w u c = ⊎_elim
    (λ (e : u ≡ w.worker). inr (at_append v.joined (w.worker ∷ w.joined) 0 u (ap some (sym e))))
    (λ (h : (e : ℕ) × (get_elem? w.joined e ≡ some u)). inr (at_append v.joined (w.worker ∷ w.joined) (suc h.0) u h.1))
    c

seen_first : (n : ℕ) (v w : Knows) → HasSeenAll n v → HasSeenAll n (merged v w)
seen_first n v w all t lt = let h = all t lt in (h.0, at_longer v.calls w.calls h.0 (Look t 2) h.1)

seen_joined : (n : ℕ) (v w : Knows) → HasSeenAll n w → HasSeenAll n (merged v w)
seen_joined n v w all t lt = let h = all t lt in at_append v.calls w.calls h.0 (Look t 2) h.1

stop_joined : (v w : Knows) → HasStop w → HasStop (merged v w)
stop_joined v w (made i h) = let at = at_append v.calls w.calls i Stop h in made at.0 at.1
stop_joined v w (seen i h) = let at = at_append v.calls w.calls i (Stopped 1) h in seen at.0 at.1

module _ {Q S P : Type 0} where
  -- the last worker, and the others
  pub at_work_last : (b : BenchView) (ws vs : List (Worker Q S P)) (w : Worker Q S P) → AreAtWork b vs → vs ≡ ws ++ w ∷ [] → IsAtWork b None (view_of w) × AreAtWork b ws
  at_work_last b ws vs w all is = (
    all (length ws) w (ap (λ (l : List (Worker Q S P)). get_elem? l (length ws)) is ∙ at_last ws w (length ws) refl),
    λ i v e. all i v (ap (λ (l : List (Worker Q S P)). get_elem? l i) is ∙ at_longer ws (w ∷ []) i v e),
  )

  -- as contracts see them
  views_last : (ws vs : List (Worker Q S P)) (w : Worker Q S P) → vs ≡ ws ++ w ∷ [] → map view_of vs ≡ map view_of ws ++ view_of w ∷ []
  views_last ws vs w is = ap (map view_of) is ∙ map-append view_of ws (w ∷ [])

  -- a single worker
  pub one_finished : (b : BenchView) (w : Worker Q S P) (ws vs : List (Worker Q S P)) (p : PassView) (a : Bool) → IsAtWork b None (view_of w) → IsFinished b.hall.terms w.desk.pass p a → HasWorked b (view_of w) p a → vs ≡ ws ++ w ∷ [] → length ws ≡ 0 → HaveFinished b (map view_of vs) p a
  one_finished b w ws vs p a work end worked is none = subst (λ (l : List (Worker Q S P)). HaveFinished b (map view_of l) p a) (sym (is ∙ ap (λ (l : List (Worker Q S P)). l ++ w ∷ []) (nil_from_length ws none))) record {
    all = λ i v e. ⊎_elim
        (λ (h : get_elem? [] i ≡ some v). let low = (there [] i v v h).0 in absurd (omega arith))
        (λ (h : (i ≡ 0) × (view_of w ≡ v)). inl (sym (ap (λ (x : WorkerView). x.desk.pass.knows.worker) h.1) ∙ sym end.still.worker))
        (at_end [] (view_of w) v i e);
    worked = one (view_of w) p a worked;
    end = record { own = end.still.own.0 ∙ work.desk.seat.fits.own; free = end.free; done = end.done; stopped = end.stopped };
  }

  -- a worker and others before it in the list, where their pass q was joined into its pass p, which then is r
  pub all_finished : (b : BenchView) (w : Worker Q S P) (ws vs : List (Worker Q S P)) (p q r : PassView) (a c : Bool) → IsAtWork b None (view_of w) → IsFinished b.hall.terms w.desk.pass p a × HasWorked b (view_of w) p a → HaveFinished b (map view_of ws) q c → vs ≡ ws ++ w ∷ [] → IsSamePass p r → r.knows ≡ merged p.knows q.knows
      → HaveFinished b (map view_of vs) r (a && c)
  all_finished b w ws vs p q r a c work own others is same now =
      let end = own.0 in
      let before = map view_of ws in
      subst (λ (l : List WorkerView). HaveFinished b l r (a && c)) (sym (views_last ws vs w is)) record {
        all = λ i v e. subst (λ (k : Knows). Counts k v.desk.pass.knows.worker) (sym now) (⊎_elim
            (λ (h : get_elem? before i ≡ some v). counts_joined p.knows q.knows v.desk.pass.knows.worker (others.all i v h))
            (λ (h : (i ≡ length before) × (view_of w ≡ v)). inl (sym (ap (λ (x : WorkerView). x.desk.pass.knows.worker) h.1) ∙ sym end.still.worker))
            (at_end before (view_of w) v i e));
        worked = subst (λ (k : Knows). HaveWorked b (before ++ view_of w ∷ []) k (a && c)) (sym now) (more before q.knows c (view_of w) p a others.worked own.1);
        end = record {
          own = same.0 ∙ (end.still.own.0 ∙ work.desk.seat.fits.own);
          free = subst IsFree (sym now) record { packages = end.free.packages; locks = end.free.locks };
          done = λ e. subst (HasSeenAll (threads b.hall.terms)) (sym now) (seen_first (threads b.hall.terms) p.knows q.knows (end.done (and_parts a c e).0));
          stopped = λ e. subst HasStop (sym now) (⊎_elim
              (λ (h : a ≡ false). stop_later p.knows (merged p.knows q.knows) q.knows.calls refl (end.stopped h))
              (λ (h : c ≡ false). stop_joined p.knows q.knows (others.end.stopped h))
              (and_cases a c e));
        };
      }

-- so all workers of the run have ended
pub has_run : (b : BenchView) (rows : List (List SeatView)) (ready : List ReadyView) (p : PassView) (a : Bool) → CrewRan b rows ready p a → HasRun b.hall (length rows) p a
has_run b rows ready p a ran = record {
  all = λ u lt. let all = ran.hired.all in
      let at = something_at ran.crew (length rows - 1 - u) (omega arith) in
      let of = hired_of b rows ready ran.crew ran.members ran.hired (length rows - 1 - u) u at.0 at.1 (omega arith) in
      subst (Counts p.knows) (ap (λ (v : Knows). v.worker) of.2.pass.now) (ran.finished.all (length rows - 1 - u) at.0 at.1);
  end = ran.finished.end;
}

-- where each of them saw all threads done, none made a stop
pub unstopped : (b : BenchView) (rows : List (List SeatView)) (ready : List ReadyView) (p : PassView) (a : Bool) → CrewRan b rows ready p a → a ≡ true → HaveNoStop p.knows.calls
unstopped b rows ready p a ran all = none_stopped b ran.crew p.knows a ran.finished.worked all (λ i w e.
    let low = (there ran.crew i w w e).0 in
    let count = ran.hired.all in
    ap (λ (v : Knows). v.calls) (hired_of b rows ready ran.crew ran.members ran.hired i (length rows - 1 - i) w e (omega arith)).2.pass.now)

-- where the hall was closed, each worker saw all threads done
abbrev pub crews_run : (b : BenchView) (x : Shown) (o : Options) (rows : List (List SeatView)) (ready : List ReadyView) (p : PassView) (a : Bool) (c : ClosedView) → IsHallOf x o.fuel o.workers o.limit b.hall → HaveRoom x o ready → CrewRan b rows ready p a
    → IsEnd b.hall.terms p.knows c.packages c.locks → a ≡ true → IsCrewsRun x o rows c
crews_run b x o rows ready p a c of room ran end done = record { bench = b; hall = of; ready = ready; room = room; pass = p; ran = subst (CrewRan b rows ready p) done ran; unstopped = unstopped b rows ready p a ran done; end = end }

pub closed_so : {E : Type 0} (b : BenchView) (x : Shown) (o : Options) (rows : List (List SeatView)) (ready : List ReadyView) (p : PassView) (a : Bool) (r : Result ClosedView E) → IsHallOf x o.fuel o.workers o.limit b.hall → HaveRoom x o ready → CrewRan b rows ready p a
    → IfOk r (λ c. IsEnd b.hall.terms p.knows c.packages c.locks) → MatchResult r (λ c. a ≡ true) (λ e. a ≡ false) → IfOk r (IsCrewsRun x o rows)
closed_so b x o rows ready p a (Ok c) of room ran end done = crews_run b x o rows ready p a c of room ran end done
closed_so b x o rows ready p a (Err e) of room ran end done = tt

-- from the end of the hall to the whole run
pub whole : (x : Shown) (o : Options) (h : HallView) (v : Knows) (c : ClosedView) → IsHallOf x o.fuel o.workers o.limit h → IsEnd h.terms v c.packages c.locks → IsWholeRun x o c
whole x o h v c of end =
    let law : Lawful x o.fuel o.limit end.history (map bare c.packages) (map kept c.locks) = subst (λ (z : Shown × ℕ × ℕ). Lawful z.0 z.1 z.2 end.history (map bare c.packages) (map kept c.locks)) (λ i. (of.image i, of.fuel i, of.limit i)) end.law in record {
      history = end.history;
      law = law;
      strict = end.strict;
      complete = λ t lt. let l = law.all_packages in let m = length-map c.packages bare in let at = something_at c.packages t (omega arith) in
          sym (ap (λ (d : Thread). is_running d.status) (law.packages_after t (bare at.0) (at_map bare c.packages t at.0 at.1)).follows.thread) ∙ (end.ended t at.0 at.1).0;
      workers = λ i d lt. let b = end.workers i (get_or end.history i d) (at_itself end.history i d lt) in let w = of.workers in omega arith;
      delegates = end.delegates;
    }
