use Rattle.std.proofs.Common.{◌∙◌, ℕ, length, map, sym, subst}
use lib.ListN.{length-map}
use Rattle.tc_workers.specs.Crew.{AreHired}
use Rattle.tc_workers.specs.Worker.{view_of}
use Rattle.tc_workers.proofs.Hiring.{at_work}
use Rattle.tc_workers.proofs.run.run_at.Goals as goal

pub together-requires-clause-work : goal.together-requires-clause-work
together-requires-clause-work g c κs within =
    let rows = length-map c.args.seats.items (λ row. map g.Q.Order.seen row.items) in
    at_work c.args.bench.now _ c.args.ready.items (length c.args.passes.items) c.in_ok-crew.crew.items (c.requires.hire.ready.0 ∙ sym (rows ∙ c.requires.hire.seats.0)) (rows ∙ c.requires.hire.seats.0) c.in_ok-crew.ensures

pub returns : goal.returns
returns g c =
    let rows = length-map c.args.seats.items (λ row. map g.Q.Order.seen row.items) in
    let count = rows ∙ c.requires.hire.seats.0 in record {
      crew = map view_of c.in_ok-crew.crew.items;
      hired = subst (λ (k : ℕ). AreHired c.args.bench.now (map (λ row. map g.Q.Order.seen row.items) c.args.seats.items) c.args.ready.items k (map view_of c.in_ok-crew.crew.items)) (sym count) c.in_ok-crew.ensures;
      members = c.requires.hire.ready.0 ∙ sym count;
      finished = c.together.ensures;
    }
