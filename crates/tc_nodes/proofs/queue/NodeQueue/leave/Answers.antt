use Rattle.std.proofs.Common.{◌∙◌, ap, sym, subst}
use Rattle.tc_nodes.specs.View.{IsTaken, DidLeave, NodeSeatView}
use Rattle.tc_nodes.specs.Order.{stand_left}
use Rattle.tc_nodes.proofs.Calling.{still_same, of_seat, holds_exchanged, leave_told}
use Rattle.tc_nodes.proofs.queue.NodeQueue.leave.Goals as goal

pub put_back-requires : goal.put_back-requires
put_back-requires g c =
    let d = c.exchange-answer.ensures.did in
    record {
      own = c.exchange-answer.ensures.same.0 ∙ (c.has_waiter.ensures.same.0 ∙ (c.take.ensures.same.0 ∙ (ap (λ (s : NodeSeatView). s.table) c.seat.view_is ∙ c.requires.seat.0)));
      holds = (stand_left c.exchange-answer.result d.stand, holds_exchanged c.args.own c.exchange-answer.result c.has_waiter.new.place.me c.exchange-answer.new.place.me d);
    }

pub returns : goal.returns
returns g c =
    let place = c.seat.inside.place in
    let taken : IsTaken place.me c.has_waiter.new.place.me = subst (IsTaken place.me) (sym c.has_waiter.ensures.did.0) c.take.ensures.did in
    let told = leave_told place.table_id place.id c.seat.inside.node place.me c.has_waiter.new.place.me c.exchange-answer.new.place.me c.put_back.new.place.me c.args.own c.exchange-answer.result taken c.exchange-answer.ensures.did c.put_back.ensures.did in
    let asked = still_same place c.take.new.place c.has_waiter.new.place c.take.ensures.same c.has_waiter.ensures.same in
    let tried = still_same place c.has_waiter.new.place c.exchange-answer.new.place asked c.exchange-answer.ensures.same in
    let same = still_same place c.exchange-answer.new.place c.put_back.new.place tried c.put_back.ensures.same in
    of_seat (DidLeave c.args.own c.exchange-answer.result) c.args.seat.now place c.put_back.new.place c.seat.inside.node c.seat.view_is same told
