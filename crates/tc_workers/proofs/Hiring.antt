-- Workers that have not begun.
use Rattle.std.proofs.Common.{◌≡◌, ℕ, zero, suc, ◌+◌, ◌-◌, List, [], ◌∷◌, ◌++◌, All, length, map, replicate, get_or, refl, sym, ap, ◌∙◌, subst, ⊎_elim, arith, Option, Some, None, length-append}
use mathlib.Core.Option.{some, some-injective}
use lib.ListN.{get_elem?, length-map, length-replicate}
use Rattle.atomic_table.proofs.Lists.{at_longer, at_last, at_map}
use Rattle.tc_elf.specs.Shown.{Shown}
use Rattle.tc_journal.specs.Handing.{was_cut}
use Rattle.tc_mutex_spec.proofs.ListLaws.{there}
use Rattle.tc_queue.specs.Lines.{SeatView}
use Rattle.tc_queue.specs.View.{QueueView}
use Rattle.tc_hall.specs.declared.board.Knows.{Knows}
use Rattle.tc_hall.specs.Made.{AreDealt}
use Rattle.tc_hall.specs.Outs.{nothing, outs}
use Rattle.tc_hall.specs.PassView.{PassView}
use Rattle.tc_hall.specs.Rule.{last_by, threads, locks}
use Rattle.tc_hall.specs.Steps.{IsNew}
use Rattle.tc_hall.proofs.Outs.{same_outs}
use Rattle.std.proofs.lemmas.List.Elements.{All-pop}
use Rattle.std.proofs.lemmas.Option.{slice_get-get_or}
use Rattle.tc_ready.proofs.Crews.{last_all}
use Rattle.tc_ready.specs.ReadyView.{ReadyView, AreCrew}
use Rattle.tc_combiner.specs.View.{BenchView, AreSeats, FitsBench, desk_of}
use Rattle.tc_workers.specs.Worker.{IsSeated, WorkerView, view_of, worker_of}
use Rattle.tc_workers.proofs.Stances.{no_lines}
use Rattle.tc_workers.specs.Crew.{AreForHire, AreHired, AreLines, AreSeatsOf, IsBench, IsForHire, IsHired, AreAtWork}
use Rattle.tc_workers.specs.declared.worker.Worker.{Worker}
use Rattle.tc_lemmas.proofs.Lists.{at_end, at_itself, something_at}

none_at : {A : Type 0} (n u : ℕ) → get_or {A = Option A} (replicate n None) u None ≡ None
none_at zero u = refl
none_at (suc n) zero = refl
none_at (suc n) (suc u) = none_at n u

-- a new pass has nothing out
new_out : (image : Shown) (n m i : ℕ) (v : Knows) → IsNew image n m i v → outs v ≡ nothing
new_out image n m i v new = same_outs (outs v) nothing
    (λ u. ap (λ (w : Knows). get_or w.packages u None) new.now ∙ none_at n u)
    (λ j. ap (λ (w : Knows). get_or w.locks j None) new.now ∙ none_at m j)

-- a list is one longer than without its last
pub one_longer : {A : Type 0} (xs ys : List A) (x : A) → xs ≡ ys ++ x ∷ [] → length xs ≡ length ys + 1
one_longer xs ys x is = ap (λ l. length l) is ∙ length-append ys (x ∷ [])

-- a worker with a new pass
module _ (b : BenchView) (p : PassView) (ss : List SeatView) (r : ReadyView) (h : IsForHire b p ss r) where
  locks_are : locks b.hall.terms ≡ length b.image.guards
  locks_are = ap (λ (x : Shown). length x.guards) h.bench.hall

  threads_are : threads b.hall.terms ≡ length b.image.entries
  threads_are = ap (λ (x : Shown). length x.entries) h.bench.hall

  all_seats : AreSeats b.hall.terms b.queues ss
  all_seats i q s low = let l = locks_are in let c = h.bench.queues.count in let d = h.seats.count in let at = at_itself b.queues i q (omega arith) in record {
    of = h.seats.each i (get_or b.queues i q) (get_or ss i s) at (at_itself ss i s (omega arith));
    made = h.bench.queues.made i (get_or b.queues i q) at ∙ sym threads_are;
  }

  pub new_worker : (sleepers : List (Option ℕ)) (n : ℕ) → n ≡ length b.image.entries → sleepers ≡ replicate n None → IsHired b p.knows.worker ss r (worker_of (desk_of p ss sleepers 0 None []) r)
  new_worker sleepers n few asleep =
      let rooms : length sleepers ≡ threads b.hall.terms = ap (λ (l : List (Option ℕ)). length l) asleep ∙ (length-replicate n None ∙ (few ∙ sym threads_are)) in
      let count = h.bench.queues.count ∙ sym locks_are in
      let fits : FitsBench b (desk_of p ss sleepers 0 None []) = record {
        hall = h.bench.hall;
        own = h.own;
        image = h.new.of;
        count = count;
        seats = h.seats.count ∙ count;
        of = all_seats;
        sleepers = omega arith;
        aside = λ a e. absurd (cc e);
        out = (outs p.knows, refl);
      } in
      let seat : IsSeated b [] (desk_of p ss sleepers 0 None []) = record { fits = fits; sleepers = rooms; out = new_out b.image (length b.image.entries) (length b.image.guards) p.knows.worker p.knows h.new } in record {
        work = record { desk = record { seat = seat; lines = no_lines b.hall.terms p.knows (ap (λ (v : Knows). v.calls) h.new.now); fit = tt; next = ap (λ (v : Knows). was_cut (last_by v)) h.new.now }; ready = h.ready };
        pass = h.new;
        is = ap (λ (l : List (Option ℕ)). worker_of (desk_of p ss l 0 None []) r) (asleep ∙ ap (λ (k : ℕ). replicate k None) (few ∙ sym threads_are));
      }

-- the last one that is for hire, and the others
pub last_hired : {X : Type 0} (b : BenchView) (seen : X → List SeatView) (ps qs : List PassView) (xs ys : List X) (rs us : List ReadyView) (p : PassView) (x : X) (r : ReadyView) → AreForHire b seen ps xs rs → ps ≡ qs ++ p ∷ [] → xs ≡ ys ++ x ∷ [] → rs ≡ us ++ r ∷ []
    → AreForHire b seen qs ys us × IsForHire b p (seen x) r × (p.knows.worker ≡ length qs)
last_hired {X = X} b seen ps qs xs ys rs us p x r h pass row ready =
    let last = h.passes.each (length qs) p (ap (λ (l : List PassView). get_elem? l (length qs)) pass ∙ at_last qs p (length qs) refl) in
    let number : p.knows.worker ≡ length qs = ap (λ (w : Knows). w.worker) last.1.now in
    let fewer = one_longer ps qs p pass in
    let rows = one_longer xs ys x row in
    let members = one_longer rs us r ready in
    let seats = h.seats.0 in
    let crew = h.ready.0 in (
      record {
        bench = h.bench;
        passes = record { count = refl; each = λ i q e. h.passes.each i q (ap (λ (l : List PassView). get_elem? l i) pass ∙ at_longer qs (p ∷ []) i q e) };
        seats = (omega arith, (All-pop (λ (y : X). AreSeatsOf b.queues (seen y)) xs ys (Some x) row h.seats.1).0);
        ready = (omega arith, (All-pop (λ (u : ReadyView). u.threads ≡ threads b.hall.terms) rs us (Some r) ready h.ready.1).0);
      },
      record {
        bench = h.bench;
        own = last.0;
        new = subst (λ (j : ℕ). IsNew b.image (length b.image.entries) (length b.image.guards) j p.knows) (sym number) last.1;
        seats = last_all (λ (y : X). AreSeatsOf b.queues (seen y)) ys xs x row h.seats.1;
        ready = last_all (λ (u : ReadyView). u.threads ≡ threads b.hall.terms) us rs r ready h.ready.1;
      },
      number,
    )

module _ (b : BenchView) (rows : List (List SeatView)) (ready : List ReadyView) where
  -- one worker more
  pub hired_more : (k number : ℕ) (ws vs : List WorkerView) (w : WorkerView) (row : List SeatView) (r : ReadyView) → AreHired b rows ready k ws → IsHired b number row r w → get_elem? rows number ≡ some row → get_elem? ready number ≡ some r → number + k + 1 ≡ length rows → vs ≡ ws ++ w ∷ []
      → AreHired b rows ready (k + 1) vs
  hired_more k number ws vs w row r old new own proposed sum is = subst (AreHired b rows ready (k + 1)) (sym is) record {
    all = let l = length-append ws (w ∷ []) in let a = old.all in omega arith;
    each = λ i other v s q e same of at. ⊎_elim
        (λ (h : get_elem? ws i ≡ some v). old.each i other v s q h same of at)
        (λ (h : (i ≡ length ws) × (w ≡ v)).
        let a = old.all in
        let place = h.0 in
        let n : number ≡ other = omega arith in
        let its_row : row ≡ s = some-injective row s (sym own ∙ (ap (get_elem? rows) n ∙ of)) in
        let its_ready : r ≡ q = some-injective r q (sym proposed ∙ (ap (get_elem? ready) n ∙ at)) in
        subst (λ (z : ℕ × List SeatView × ReadyView × WorkerView). IsHired b z.0 z.1 z.2 z.3) (λ j. (n j, its_row j, its_ready j, h.1 j)) new)
        (at_end ws w v i e);
  }

  pub none_hired : (ws : List WorkerView) → ws ≡ [] → AreHired b rows ready 0 ws
  none_hired ws is = subst (AreHired b rows ready 0) (sym is) record { all = refl; each = λ i number w s q e. let low = (there [] i w w e).0 in absurd (omega arith) }

  -- the worker with this number
  pub hired_of : (ws : List WorkerView) → length ready ≡ length rows → AreHired b rows ready (length rows) ws → (i number : ℕ) (w : WorkerView) → get_elem? ws i ≡ some w → number + i + 1 ≡ length rows → (row : List SeatView) × (r : ReadyView) × IsHired b number row r w
  hired_of ws same hired i number w e sum =
      let row = something_at rows number (omega arith) in
      let r = something_at ready number (omega arith) in
      (row.0, r.0, hired.each i number w row.0 r.0 e sum row.1 r.1)

  -- all of them are at work
  pub at_work : {Q S P : Type 0} (n : ℕ) (ws : List (Worker Q S P)) → length ready ≡ length rows → length rows ≡ n → AreHired b rows ready n (map view_of ws) → AreAtWork b ws
  at_work n ws same count all i w e =
      let h = there ws i w w e in
      let low = h.0 in
      let many = length-map ws view_of in
      let each = all.all in
      (hired_of (map view_of ws) same (subst (λ (k : ℕ). AreHired b rows ready k (map view_of ws)) (sym count) all) i (n - 1 - i) (view_of w) (at_map view_of ws i w e) (omega arith)).2.work

-- the queues of all locks, as a slice has them
pub same_lines : {X : Type 0} (image : Shown) (workers : ℕ) (qs rs : List QueueView) (seen : X → List SeatView) (xs : List X) → AreLines image workers qs seen xs → rs ≡ qs → AreLines image workers rs seen xs
same_lines image workers qs rs seen xs lines same = subst (λ (l : List QueueView). AreLines image workers l seen xs) (sym same) lines

-- all of a hall are for hire, with the rows and the ready threads of as many workers
pub for_hire : {X : Type 0} (b : BenchView) (seen : X → List SeatView) (workers n room : ℕ) (ps : List PassView) (xs : List X) (rs : List ReadyView) → IsBench b → AreDealt b.image (length b.image.entries) (length b.image.guards) workers b.hall.table ps
    → length xs ≡ workers → All (λ row. AreSeatsOf b.queues (seen row)) xs → AreCrew workers n room rs → n ≡ threads b.hall.terms → AreForHire b seen ps xs rs
for_hire b seen workers n room ps xs rs bench dealt count rows crew same = record {
  bench = bench;
  passes = record { count = refl; each = dealt.each };
  seats = (count ∙ sym dealt.count, rows);
  ready = (crew.count.0 ∙ sym dealt.count, λ k d lt. ap (λ (r : ReadyView). r.threads) (crew.each k (get_or rs k d) (slice_get-get_or rs k d lt)) ∙ same);
}
