use denote.Param.{param}
use denote.Param.Send.{IsSend, IsSync, sendable}
use Rattle.std.proofs.Common.{rules}
use Rattle.std.proofs.Crossing.{crosses}
use Rattle.tc_hall.proofs.Crossing.{hall_sync, pass_send}
use Rattle.tc_workers_tests.proofs.stops.stop_behind.Goals as goal

pub together-pass-requires-sync-G : goal.together-pass-requires-sync-G
together-pass-requires-sync-G g c κs within =
    let rt : IsSync (param 0 g.row.R) = search (rules, sendable) in
    search (sendable, crosses, hall_sync, pass_send) depth 40 fits 20000
