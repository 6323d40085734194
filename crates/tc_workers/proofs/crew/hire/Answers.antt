use Rattle.std.proofs.Common.{rules, ◌≡◌, ℕ, length, map, ap, subst, arith, ◌∙◌, sym}
use Rattle.std.proofs.lemmas.List.{map-append}
use lib.ListN.{length-map}
use Rattle.atomic_table.proofs.Lists.{at_map}
use mathlib.Core.Option.{some}
use lib.ListN.{get_elem?}
use Rattle.tc_workers.specs.Crew.{AreHired}
use Rattle.tc_workers.specs.Worker.{view_of}
use Rattle.tc_workers.proofs.Hiring.{hired_more, last_hired, none_hired, one_longer}
use Rattle.tc_workers.proofs.Rows.{all_first, firsts_less, last_first}
use Rattle.tc_workers.proofs.crew.hire.Goals as goal

pub hire_one-requires-after_bounds : goal.hire_one-requires-after_bounds
hire_one-requires-after_bounds g c κs within = (last_hired c.args.bench.now (λ row. map g.Q.Order.seen row.items) c.loop-hired.passes.items c.pop.new.self.items c.loop-hired.seats.items c.pop-in-loop-hired.new.self.items c.loop-hired.crew.items c.pop-in-loop-hired-2.new.self.items
    c.in-Some.pass c.in-Some-pop.row c.in-Some-pop-2.ready c.loop-hired.invariant.hire c.in-Some.ensures.items c.in-Some-pop.ensures.items c.in-Some-pop-2.ensures.items).1

pub loop-hired-init : goal.loop-hired-init
loop-hired-init g c = record {
  left = search rules;
  hire = c.requires;
  seats = all_first c.args.seats.items;
  ready = all_first c.args.crew.items;
  hired = none_hired c.args.bench.now (map (λ row. map g.Q.Order.seen row.items) c.args.seats.items) c.args.crew.items (map view_of c.in_ok-workers.workers.items) (ap (map view_of) c.in_ok-workers.ensures.items);
  room = search rules;
}

pub loop-hired-preserved : goal.loop-hired-preserved
loop-hired-preserved g c =
    let i = c.loop-hired.invariant in
    let b = c.args.bench.now in
    let rest = c.pop-in-loop-hired.new.self.items in
    let others = c.pop-in-loop-hired-2.new.self.items in
    let last = last_hired b (λ row. map g.Q.Order.seen row.items) c.loop-hired.passes.items c.pop.new.self.items c.loop-hired.seats.items rest c.loop-hired.crew.items others c.in-Some.pass c.in-Some-pop.row c.in-Some-pop-2.ready i.hire c.in-Some.ensures.items c.in-Some-pop.ensures.items c.in-Some-pop-2.ensures.items in
    let number : c.in-Some.pass.knows.worker ≡ length c.pop.new.self.items = last.2 in
    let rows_left : length rest ≡ length c.pop.new.self.items = last.0.seats.0 in
    let ready_left : length others ≡ length c.pop.new.self.items = last.0.ready.0 in
    let left = i.left in
    let room = i.room in
    let fewer = one_longer c.loop-hired.passes.items c.pop.new.self.items c.in-Some.pass c.in-Some.ensures.items in
    let capacity = c.push_reserved.ensures.capacity in
    let row : get_elem? c.args.seats.items c.in-Some.pass.knows.worker ≡ some c.in-Some-pop.row = ap (get_elem? c.args.seats.items) (number ∙ sym rows_left) ∙ last_first c.args.seats.items c.loop-hired.seats.items rest c.in-Some-pop.row i.seats c.in-Some-pop.ensures.items in
    let ready : get_elem? c.args.crew.items c.in-Some.pass.knows.worker ≡ some c.in-Some-pop-2.ready = ap (get_elem? c.args.crew.items) (number ∙ sym ready_left) ∙ last_first c.args.crew.items c.loop-hired.crew.items others c.in-Some-pop-2.ready i.ready c.in-Some-pop-2.ensures.items in
    let all : c.len-hired-end.result ≡ length c.args.passes.items = search rules in
    let count = length-map c.args.seats.items (λ row. map g.Q.Order.seen row.items) in
    let same = c.requires.seats.0 in record {
      left = omega arith;
      hire = last.0;
      seats = firsts_less c.args.seats.items c.loop-hired.seats.items rest c.in-Some-pop.row i.seats c.in-Some-pop.ensures.items;
      ready = firsts_less c.args.crew.items c.loop-hired.crew.items others c.in-Some-pop-2.ready i.ready c.in-Some-pop-2.ensures.items;
      hired = hired_more b (map (λ row. map g.Q.Order.seen row.items) c.args.seats.items) c.args.crew.items c.loop-hired.hired c.in-Some.pass.knows.worker (map view_of c.loop-hired.workers.items) (map view_of c.push_reserved.new.self.items) (view_of c.in_ok-worker.worker) (map g.Q.Order.seen c.in-Some-pop.row.items) c.in-Some-pop-2.ready
          i.hired c.in_ok-worker.ensures (at_map (λ row. map g.Q.Order.seen row.items) c.args.seats.items c.in-Some.pass.knows.worker c.in-Some-pop.row row) ready (omega arith)
          (ap (map view_of) c.push_reserved.ensures.items ∙ map-append view_of c.loop-hired.workers.items _);
      room = omega arith;
    }

pub returns : goal.returns
returns g c =
    let all : c.len-hired-end.result ≡ length c.args.passes.items = search rules in
    let last = c.loop-hired-test.false in
    let end : c.loop-hired.hired ≡ length c.args.passes.items = omega arith in
    subst (λ (k : ℕ). AreHired c.args.bench.now (map (λ row. map g.Q.Order.seen row.items) c.args.seats.items) c.args.crew.items k (map view_of c.loop-hired.workers.items)) end c.loop-hired.invariant.hired
