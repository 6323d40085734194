use Rattle.std.proofs.Common.{◌<◌, length, get_or, arith}
use Rattle.tc_combiner.proofs.Vocabulary.{Acquires, SeatView, by_parts, change}
use Rattle.tc_combiner.proofs.Acquiring.{same_seat}
use Rattle.tc_combiner.proofs.Seats.{at_one, at_seat}
use Rattle.tc_combiner.proofs.settle.acquire_at.Goals as goal

pub acquire_with-requires-clause-seat : goal.acquire_with-requires-clause-seat
acquire_with-requires-clause-seat g c = λ κs b. at_one g.Q.Order.seen g.Q.Order.queue c.args.shared.now.hall.now.terms c.args.shared.now.queues.now c.args.seats.now c.args.lock c.index-shared-lock.result c.index-seats-lock.result c.requires.seats.of c.requires.may.lock

pub returns-clause-acquired : goal.returns-clause-acquired
returns-clause-acquired g c =
    let low = c.requires.may.lock in
    let count = c.requires.seats.seats in
    let deep : c.args.lock < length c.args.seats.now = omega arith in
    let parts = change c.args.parts.now c.acquire_with.new.parts in
    let same = same_seat (by_parts c.args.shared.now.hall.now.terms c.args.«package» (change _ _) parts) c.args.lock c.acquire_with.ensures.acquired.calls c.acquire_with.result c.acquire_with.ensures.acquired.became in
    at_seat g.Q.Order.seen (λ (s t : SeatView). Acquires c.args.shared.now.hall.now.terms c.args.lock c.args.«package» (change s t) parts c.acquire_with.result) c.args.seats.now c.args.lock c.index-seats-lock.result c.acquire_with.new.seat deep c.index-seats-lock.is same c.acquire_with.ensures.acquired

pub returns-clause-enters : goal.returns-clause-enters
returns-clause-enters g c =
    let low = c.requires.may.lock in
    let size = c.requires.seats.queues in
    let enters = c.acquire_with.ensures.enters in
    record {
      line = get_or c.args.shared.now.queues.now c.args.lock c.index-shared-lock.result;
      fitting = (c.requires.lines.0 c.args.lock c.index-shared-lock.result (omega arith), c.requires.lines.1 c.args.lock c.index-shared-lock.result (omega arith));
      answer = enters.0;
      begins = enters.1;
    }

pub acquire_with-requires-clause-line : goal.acquire_with-requires-clause-line
acquire_with-requires-clause-line g c = λ κs b.
    let low = c.requires.may.lock in
    let size = c.requires.seats.queues in
    (c.requires.lines.0 c.args.lock c.index-shared-lock.result (omega arith), c.requires.lines.1 c.args.lock c.index-shared-lock.result (omega arith))

pub acquire_with-requires-clause-lines : goal.acquire_with-requires-clause-lines
acquire_with-requires-clause-lines g c = λ κs b. c.requires.knows

pub returns-clause-knows : goal.returns-clause-knows
returns-clause-knows g c = c.acquire_with.ensures.lines
