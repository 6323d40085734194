use Rattle.std.proofs.Common.{sym, ap, ◌∙◌, refl, arith}
use Rattle.tc_queue.specs.View.{OwnView, QueueView}
use Rattle.tc_seats.specs.Seats.{with_call}
use Rattle.tc_seats.proofs.seats.Seats.add.Goals as goal

pub load-requires : goal.load-requires
load-requires g c = (
  ap (λ (s : OwnView). s.table) c.seat.view_is ∙ c.requires.seat.0 ∙ sym (ap (λ (q : QueueView). q.table) c.self.view_is),
  (let one = c.self.invariant in omega arith),
  λ s any homes at low. (with_call c.seat.inside.place.me.0 g.J.Noted.call, Rattle.atomic_table.specs.Table.Act.keeps, tt, tt, refl),
)
