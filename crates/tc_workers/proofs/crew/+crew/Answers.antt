use Rattle.std.proofs.Common.{rules, ◌≡◌, ◌<◌, ◌∙◌, ◌&&◌, Bool, sym, ap, subst, length, map}
use denote.Param.{param}
use denote.Ref.{NamedLft}
use denote.Param.Send.{IsSend, IsSync, sendable}
use Rattle.std.proofs.Crossing.{crosses}
use Rattle.tc_combiner.specs.View.{BenchView}
use Rattle.tc_combiner.specs.contracts.desk.Bench as Bench
use Rattle.tc_workers.specs.contracts.worker.Worker as Worker
use Rattle.tc_workers.specs.Crew.{HaveFinished}
use Rattle.tc_workers.specs.Worker.{view_of}
use Rattle.tc_workers.proofs.Crossing.{bench_sync, worker_send, finished_send}
use Rattle.tc_workers.proofs.Joining.{at_work_last, one_finished, all_finished}
use Rattle.tc_workers.proofs.crew.+crew.Goals as goal
use Rattle.tc_workers.proofs.crew.+crew.Goals.{then-all_done, else-all_done}

pub serve-requires-clause-work : goal.serve-requires-clause-work
serve-requires-clause-work g t c κs within = (at_work_last c.args.bench.now c.pop.new.self.items c.args.crew.items c.in-Some.worker c.requires.work c.in-Some.ensures.items).0

pub returns-then-is_empty : goal.returns-then-is_empty
returns-then-is_empty g t c =
    let work = (at_work_last c.args.bench.now c.pop.new.self.items c.args.crew.items c.in-Some.worker c.requires.work c.in-Some.ensures.items).0 in
    let none : length c.pop.new.self.items ≡ 0 = search rules in
    one_finished c.args.bench.now c.in-Some.worker c.pop.new.self.items c.args.crew.items c.serve.result.pass c.serve.result.all_done work c.serve.ensures.finished c.serve.ensures.worked c.in-Some.ensures.items none

pub join-own-requires-send-F : goal.join-own-requires-send-F
join-own-requires-send-F g t c κs within =
    let seat : IsSend (param 3 g.row.Q-Seat) = search (rules, sendable) in
    let queue : IsSync (param 2 g.row.Q) = search (rules, sendable) in
    let gate : IsSync (param 1 g.row.G) = search (rules, sendable) in
    let rt : IsSync (param 0 g.row.R) = search (rules, sendable) in
    let worker : IsSend (Worker.the_row (param 2 g.row.Q) (param 3 g.row.Q-Seat) (param 4 g.row.Q-Place) g.Q.Order) = worker_send (param 2 g.row.Q) (param 3 g.row.Q-Seat) (param 4 g.row.Q-Place) g.Q.Order seat in
    let bench : (l : NamedLft) → IsSync (Bench.the_row l (param 2 g.row.Q) (param 3 g.row.Q-Seat) (param 4 g.row.Q-Place) g.Q.Order) = λ l. bench_sync (param 2 g.row.Q) (param 3 g.row.Q-Seat) (param 4 g.row.Q-Place) g.Q.Order l queue in
    search (sendable, crosses, bench) depth 20

pub join-own-requires-send-A : goal.join-own-requires-send-A
join-own-requires-send-A g t c κs within = search (sendable, finished_send)

pub join-own-requires-after_bounds : goal.join-own-requires-after_bounds
join-own-requires-after_bounds g t c κs within =
    let both = at_work_last c.args.bench.now c.pop.new.self.items c.args.crew.items c.in-Some.worker c.requires.work c.in-Some.ensures.items in
    let some : 0 < length c.pop.new.self.items = search rules in
    search (rules, sendable) depth 20

pub join-requires-clause-own : goal.join-requires-clause-own
join-requires-clause-own g t c =
    let table = ap (λ (b : BenchView). b.hall.table) c.bench.view_is in
    let work = (at_work_last c.args.bench.now c.pop.new.self.items c.args.crew.items c.in-Some.worker c.requires.work c.in-Some.ensures.items).0 in
    let own = c.join-own.ensures.first in
    let rest = c.join-own.ensures.second in
    ((own.0.still.own.0 ∙ work.desk.seat.fits.own) ∙ sym table, rest.end.own ∙ sym table)

pub join-requires-clause-both : goal.join-requires-clause-both
join-requires-clause-both g t c = λ lined. c.join-own.ensures.first.0.free

pub returns : goal.returns
returns g t c =
    let work = (at_work_last c.args.bench.now c.pop.new.self.items c.args.crew.items c.in-Some.worker c.requires.work c.in-Some.ensures.items).0 in
    let own = c.join-own.ensures.first in
    let rest = c.join-own.ensures.second in
    let own_done = c.join-own.result.0.all_done in
    let rest_done = c.join-own.result.1.all_done in
    let done : (own_done && rest_done) ≡ c.if-all_done.result = elim c.if-all_done.branch [ then-all_done w ↦ ap (λ (x : Bool). x && rest_done) w.if-all_done.true ∙ sym w.result-is | else-all_done w ↦ ap (λ (x : Bool). x && rest_done) w.if-all_done.false ∙ (sym w.if-all_done.false ∙ sym w.result-is) ] in
    subst (λ (x : Bool). HaveFinished c.args.bench.now (map view_of c.args.crew.items) c.join.new.pass x) done
    (all_finished c.args.bench.now c.in-Some.worker c.pop.new.self.items c.args.crew.items c.join-own.result.0.pass c.join-own.result.1.pass c.join.new.pass own_done rest_done work own rest c.in-Some.ensures.items c.join.ensures.own c.join.ensures.merged)
