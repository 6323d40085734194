-- What crosses threads in a run: workers, what they share, and what their ends give.
use denote.RattleType.{RattleType}
use denote.Ref.{NamedLft}
use denote.Param.Send.{IsSend, IsSync, sendable}
use Rattle.std.proofs.Crossing.{crosses}
use Rattle.tc_order.specs.declared.order.Order.{Ghosts}
use Rattle.tc_hall.proofs.Crossing.{image_sync, hall_sync, package_send, pass_send}
use Rattle.tc_combiner.specs.contracts.desk.Desk as Desk
use Rattle.tc_combiner.specs.contracts.desk.Bench as Bench
use Rattle.tc_park.specs.contracts.sleepers.Sleepers as Sleepers
use Rattle.tc_ready.proofs.ready.Ready.TheSendSync as Ready_moves
use Rattle.tc_ready.specs.contracts.ready.Ready as Ready
use Rattle.tc_workers.specs.contracts.worker.Worker as Worker
use Rattle.tc_workers.specs.contracts.finished.Finished as Finished

sleepers_send : IsSend Sleepers.the_row
sleepers_send = search (sendable, crosses) depth 20

ready_send : IsSend Ready.the_row
ready_send = Ready_moves.the_send

pub finished_send : IsSend Finished.the_row
finished_send = search (sendable, pass_send) depth 20

module _ (Q S P : RattleType) (g : Ghosts Q.Denot S.Denot P.Denot) where
  pub desk_send : IsSend S → IsSend (Desk.the_row Q S P g)
  desk_send s = search (sendable, crosses, pass_send, sleepers_send, package_send) depth 40 fits 20000

  pub worker_send : IsSend S → IsSend (Worker.the_row Q S P g)
  worker_send s = let desk : IsSend (Desk.the_row Q S P g) = desk_send s in search (sendable, ready_send) depth 40 fits 20000

  pub bench_sync : (l : NamedLft) → IsSync Q → IsSync (Bench.the_row l Q S P g)
  bench_sync l y = search (sendable, image_sync, hall_sync) depth 40 fits 20000
