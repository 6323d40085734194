use denote.Param.Send.{sendable}
use Rattle.std.proofs.Crossing.{crosses}
use Rattle.tc_hall.proofs.Crossing.{hall_sync, pass_send}
use Rattle.tc_hall_tests.proofs.hall.race.Goals as goal

pub join-requires-send-F : goal.join-requires-send-F
join-requires-send-F g c κs within = search (sendable, crosses, hall_sync, pass_send) depth 20
