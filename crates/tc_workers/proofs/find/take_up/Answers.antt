use Rattle.std.proofs.Common.{rules, ◌≡◌, false, Some}
use Rattle.tc_hall.specs.Rule.{is_pinned}
use Rattle.tc_workers.proofs.Desks.{claimed_fits}
use Rattle.tc_workers.proofs.Leaving.{left_alone, left_rest, left_still, may_leave}
use Rattle.tc_workers.proofs.Passes.{still_same}
use Rattle.tc_workers.proofs.find.take_up.Goals as goal

pub leave-requires-after_bounds : goal.leave-requires-after_bounds
leave-requires-after_bounds g c κs within =
    may_leave c.args.bench.now (Some c.args.«package») c.args.desk.now c.sees_stop.new.desk c.sees_stop.result c.requires.claimed.seat c.requires.claimed.back c.sees_stop.ensures c.if-sees_stop.true

pub returns-then-sees_stop-clause-steps : goal.returns-then-sees_stop-clause-steps
returns-then-sees_stop-clause-steps g c =
    record { still = left_still (Some c.args.«package») c.args.desk.now c.sees_stop.new.desk c.leave.new.desk c.sees_stop.result c.sees_stop.ensures c.leave.ensures; after = (c.leave.ensures.left, c.leave.ensures.stop) }

pub returns-then-sees_stop-clause-rest : goal.returns-then-sees_stop-clause-rest
returns-then-sees_stop-clause-rest g c =
    left_alone c.args.desk.now c.leave.new.desk c.requires.claimed.free (left_rest (Some c.args.«package») c.args.desk.now c.sees_stop.new.desk c.leave.new.desk c.sees_stop.result c.sees_stop.ensures c.leave.ensures)

pub returns-then-not-is_pinned-clause-steps : goal.returns-then-not-is_pinned-clause-steps
returns-then-not-is_pinned-clause-steps g c =
    let free : is_pinned c.args.«package» ≡ false = search rules in
    record { still = still_same c.args.desk.now.pass; after = claimed_fits c.args.bench.now c.args.desk.now c.args.«package» c.requires.claimed free }
