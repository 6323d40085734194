use Rattle.std.proofs.Common.{◌<◌, false, map, length, arith, rules}
use Rattle.tc_combiner.proofs.Vocabulary.{Change, DidLeave, DeskParts, PackageView, SeatView, change, length-map, locks}
use Rattle.tc_combiner.proofs.Ending.{leaves_first, leaves_home, leaves_more, left_all, less_falls, may_next, may_release, none_left, seat_in}
use Rattle.tc_combiner.proofs.Leaving.{still_at, stop_at}
use Rattle.tc_combiner.proofs.Seats.{at_seat}
use Rattle.tc_combiner.proofs.ends.end_all.Goals as goal

pub loop-lock-init : goal.loop-lock-init
loop-lock-init g c = leaves_first c.args.shared.now.hall.now c.args.block.now c.args.«package».now (map g.Q.Order.seen c.args.seats.now) c.args.parts.now c.requires.parts c.requires.may.locks c.requires.knows

pub offset_bounds-shared-lock : goal.offset_bounds-shared-lock
offset_bounds-shared-lock g c =
    let low : c.in-Some.lock < locks c.args.shared.now.hall.now.terms = c.requires.may.known c.in-Some.lock (c.loop-lock.invariant.within c.in-Some.lock c.in-Some.ensures.value.0) in
    let deep : c.in-Some.lock < length c.args.shared.now.queues.now = (let size = c.requires.seats.queues in omega arith) in search (rules, deep)

pub bounds-shared-lock : goal.bounds-shared-lock
bounds-shared-lock g c =
    let low : c.in-Some.lock < locks c.args.shared.now.hall.now.terms = c.requires.may.known c.in-Some.lock (c.loop-lock.invariant.within c.in-Some.lock c.in-Some.ensures.value.0) in
    let size = c.requires.seats.queues in omega arith

pub offset_bounds-seats-lock : goal.offset_bounds-seats-lock
offset_bounds-seats-lock g c =
    let low : c.in-Some.lock < locks c.args.shared.now.hall.now.terms = c.requires.may.known c.in-Some.lock (c.loop-lock.invariant.within c.in-Some.lock c.in-Some.ensures.value.0) in
    let deep : c.in-Some.lock < length c.loop-lock.seats = (let size = c.requires.seats.seats in let count = c.loop-lock.invariant.count in let old = length-map c.args.seats.now g.Q.Order.seen in let new = length-map c.loop-lock.seats g.Q.Order.seen in omega arith) in search (rules, deep)

pub bounds-seats-lock : goal.bounds-seats-lock
bounds-seats-lock g c =
    let low : c.in-Some.lock < locks c.args.shared.now.hall.now.terms = c.requires.may.known c.in-Some.lock (c.loop-lock.invariant.within c.in-Some.lock c.in-Some.ensures.value.0) in
    let size = c.requires.seats.seats in let count = c.loop-lock.invariant.count in let old = length-map c.args.seats.now g.Q.Order.seen in let new = length-map c.loop-lock.seats g.Q.Order.seen in omega arith

pub end_one-stopped-requires-clause-may : goal.end_one-stopped-requires-clause-may
end_one-stopped-requires-clause-may g c = λ κs b. record {
  parts = may_next c.less-rest.result c.in-Some.lock c.requires.parts c.loop-lock.invariant c.in-Some.ensures.value.0 c.in-Some.ensures.bound c.less-rest.ensures.each;
  release = may_release c.requires.may c.loop-lock.invariant c.in-Some.ensures.value.0;
}

pub end_one-stopped-requires-clause-seat : goal.end_one-stopped-requires-clause-seat
end_one-stopped-requires-clause-seat g c = λ κs b.
    let low : c.in-Some.lock < locks c.args.shared.now.hall.now.terms = c.requires.may.known c.in-Some.lock (c.loop-lock.invariant.within c.in-Some.lock c.in-Some.ensures.value.0) in
    let deep : c.in-Some.lock < length c.loop-lock.seats = (let size = c.requires.seats.seats in let count = c.loop-lock.invariant.count in let old = length-map c.args.seats.now g.Q.Order.seen in let new = length-map c.loop-lock.seats g.Q.Order.seen in omega arith) in
    let wait = c.loop-lock.invariant.wait c.in-Some.lock c.in-Some.ensures.value.0 in
    seat_in g.Q.Order.seen g.Q.Order.queue c.args.shared.now.hall.now.terms c.args.shared.now.queues.now c.args.seats.now c.loop-lock.seats c.in-Some.lock c.index-shared-lock.result c.index-seats-lock.result c.index-seats-lock.is c.requires.seats.of wait low deep

pub loop-lock-smaller : goal.loop-lock-smaller
loop-lock-smaller g c = less_falls c.loop-lock.rest c.in-Some.lock c.less-rest.result c.less-rest.ensures.value c.in-Some.ensures.value.0

pub loop-lock-preserved : goal.loop-lock-preserved
loop-lock-preserved g c =
    let low : c.in-Some.lock < locks c.args.shared.now.hall.now.terms = c.requires.may.known c.in-Some.lock (c.loop-lock.invariant.within c.in-Some.lock c.in-Some.ensures.value.0) in
    let deep : c.in-Some.lock < length c.loop-lock.seats = (let size = c.requires.seats.seats in let count = c.loop-lock.invariant.count in let old = length-map c.args.seats.now g.Q.Order.seen in let new = length-map c.loop-lock.seats g.Q.Order.seen in omega arith) in
    let p : Change PackageView = change c.loop-lock.«package» c.end_one-stopped.new.«package» in
    let parts : Change DeskParts = change c.loop-lock.parts c.end_one-stopped.new.parts in
    let e = c.end_one-stopped.ensures.left in
    let at = at_seat g.Q.Order.seen (λ (s t : SeatView). DidLeave c.args.shared.now.hall.now.terms c.in-Some.lock c.args.block.now p (change s t) parts (change false c.end_one-stopped.result)) c.loop-lock.seats c.in-Some.lock c.index-seats-lock.result c.end_one-stopped.new.seat deep c.index-seats-lock.is (e.asks.table, e.asks.threads) e in
    leaves_more c.loop-lock.invariant c.if-stopped.false c.in-Some.ensures.value.0 c.in-Some.ensures.value.1 c.in-Some.ensures.bound c.less-rest.ensures.each at c.requires.parts.at.out c.end_one-stopped.ensures.lines

pub returns-clause-left : goal.returns-clause-left
returns-clause-left g c = left_all (none_left _ _ c.first_release.result c.first_release.ensures.value c.in_default.not-Some) c.loop-lock.invariant

pub returns-clause-knows : goal.returns-clause-knows
returns-clause-knows g c = c.loop-lock.invariant.lines

pub free_one-requires-clause-stop : goal.free_one-requires-clause-stop
free_one-requires-clause-stop g c = stop_at c.args.shared.now.hall.now.terms c.args.parts.now.pass.knows c.loop-lock.parts.pass.knows c.loop-lock.«package» c.loop-lock.stopped c.if-stopped.true c.loop-lock.invariant.lines

pub free_one-requires-clause-may : goal.free_one-requires-clause-may
free_one-requires-clause-may g c = record {
  parts = may_next c.less-rest.result c.in-Some.lock c.requires.parts c.loop-lock.invariant c.in-Some.ensures.value.0 c.in-Some.ensures.bound c.less-rest.ensures.each;
  release = may_release c.requires.may c.loop-lock.invariant c.in-Some.ensures.value.0;
}

pub loop-lock-preserved-then-stopped : goal.loop-lock-preserved-then-stopped
loop-lock-preserved-then-stopped g c = leaves_home c.loop-lock.invariant c.if-stopped.true c.in-Some.ensures.value.0 c.in-Some.ensures.value.1 c.in-Some.ensures.bound c.less-rest.ensures.each c.free_one.ensures

pub loop-lock-smaller-then-stopped : goal.loop-lock-smaller-then-stopped
loop-lock-smaller-then-stopped g c = less_falls c.loop-lock.rest c.in-Some.lock c.less-rest.result c.less-rest.ensures.value c.in-Some.ensures.value.0

pub end_one-stopped-requires-clause-line : goal.end_one-stopped-requires-clause-line
end_one-stopped-requires-clause-line g c = λ κs b.
    let low : c.in-Some.lock < locks c.args.shared.now.hall.now.terms = c.requires.may.known c.in-Some.lock (c.loop-lock.invariant.within c.in-Some.lock c.in-Some.ensures.value.0) in
    let size = c.requires.seats.queues in (c.requires.lines c.in-Some.lock c.index-shared-lock.result (omega arith), c.requires.order c.in-Some.lock c.index-shared-lock.result (omega arith))

pub end_one-stopped-requires-clause-lines : goal.end_one-stopped-requires-clause-lines
end_one-stopped-requires-clause-lines g c = λ κs b. (still_at c.args.shared.now.hall.now.terms c.args.parts.now.pass.knows c.loop-lock.parts.pass.knows c.loop-lock.«package» c.loop-lock.stopped c.if-stopped.false c.loop-lock.invariant.lines).lines
