use Rattle.std.proofs.Common.{rules, ◌∙◌, Some, sym}
use Rattle.tc_workers.specs.Worker.{view_of}
use Rattle.tc_workers.proofs.Desks.{taken_back}
use Rattle.tc_workers.proofs.Turning.{found_alone}
use Rattle.tc_workers.proofs.find.find.Goals as goal

pub returns-in-None-clause-found : goal.returns-in-None-clause-found
returns-in-None-clause-found g c = found_alone c.args.bench.now (view_of c.args.worker.now) (view_of c.seek.new.worker) c.back.new.self c.seek.result (sym c.back.ensures.given ∙ c.in-None.is) c.back.ensures.rest c.seek.ensures.search

pub returns-in-Some-clause-steps : goal.returns-in-Some-clause-steps
returns-in-Some-clause-steps g c =
    let after = taken_back c.args.bench.now c.args.worker.now.desk c.back.new.self (Some c.in-Some.«package») c.requires.work.desk (sym c.in-Some.is ∙ c.back.ensures.given) c.back.ensures.rest in
    search rules
