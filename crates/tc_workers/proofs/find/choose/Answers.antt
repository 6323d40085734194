use Rattle.std.proofs.Common.{rules}
use Rattle.tc_workers.specs.Worker.{view_of}
use Rattle.tc_workers.proofs.Desks.{searched}
use Rattle.tc_workers.proofs.find.choose.Goals as goal

pub returns-in_err-t : goal.returns-in_err-t
returns-in_err-t g c =
    let h = searched c.args.bench.now (view_of c.args.worker.now) c.due.result c.due.new.self c.sleepers.result.now c.pass.result.now c.next.new.pass c.next.new.self c.requires c.due.ensures.taken c.sleepers.ensures.value c.pass.ensures.value c.next.ensures.own c.next.ensures.looks c.next.ensures.same.threads_is in
    record { still = h.0; may = h.1; thread = search rules; choice = search rules }

pub returns : goal.returns
returns g c =
    let h = searched c.args.bench.now (view_of c.args.worker.now) c.due.result c.due.new.self c.sleepers.result.now c.pass.result.now c.next.new.pass c.next.new.self c.requires c.due.ensures.taken c.sleepers.ensures.value c.pass.ensures.value c.next.ensures.own c.next.ensures.looks c.next.ensures.same.threads_is in
    record { still = h.0; may = h.1; thread = search rules; choice = search rules }
