use Rattle.std.proofs.Common.{◌<◌, length, arith}
use Rattle.tc_combiner.proofs.Vocabulary.{SeatView, Unlocks, change}
use Rattle.tc_combiner.proofs.Seats.{at_one, at_seat}
use Rattle.tc_combiner.proofs.settle.unlocked_at.Goals as goal

pub unlocked_with-requires-clause-seat : goal.unlocked_with-requires-clause-seat
unlocked_with-requires-clause-seat g c = λ κs b. at_one g.Q.Order.seen g.Q.Order.queue c.args.shared.now.hall.now.terms c.args.shared.now.queues.now c.args.seats.now c.args.lock c.index-shared-lock.result c.index-seats-lock.result c.requires.seats.of c.requires.may.release.lock

pub returns-clause-unlocks : goal.returns-clause-unlocks
returns-clause-unlocks g c =
    let low = c.requires.may.release.lock in
    let count = c.requires.seats.seats in
    let deep : c.args.lock < length c.args.seats.now = omega arith in
    let parts = change c.args.parts.now c.unlocked_with.new.parts in
    let asks = c.unlocked_with.ensures.unlocks.became.0 in
    at_seat g.Q.Order.seen (λ (s t : SeatView). Unlocks c.args.shared.now.hall.now.terms c.args.lock c.args.block c.args.«package» (change s t) parts c.unlocked_with.result) c.args.seats.now c.args.lock c.index-seats-lock.result c.unlocked_with.new.seat deep c.index-seats-lock.is (asks.table, asks.threads) c.unlocked_with.ensures.unlocks

pub unlocked_with-requires-clause-line : goal.unlocked_with-requires-clause-line
unlocked_with-requires-clause-line g c = λ κs b.
    let low = c.requires.may.release.lock in
    let size = c.requires.seats.queues in
    (c.requires.lines c.args.lock c.index-shared-lock.result (omega arith), c.requires.order c.args.lock c.index-shared-lock.result (omega arith))

pub unlocked_with-requires-clause-lines : goal.unlocked_with-requires-clause-lines
unlocked_with-requires-clause-lines g c = λ κs b. c.requires.knows

pub returns-clause-knows : goal.returns-clause-knows
returns-clause-knows g c = c.unlocked_with.ensures.lines
