-- The number and the name of each reason.
use Rattle.std.specs.Prelude.{ℕ, List, codes}
use Rattle.tc_replay.specs.declared.reason.Reason.{Reason}
use Rattle.tc_replay.specs.declared.reason.Reason.TheVariants as reason

unfoldable pub reason_number : Reason → ℕ
reason_number reason.Text = 1
reason_number reason.Thread = 2
reason_number reason.Owner = 3
reason_number reason.Block = 4
reason_number reason.Kind = 5
reason_number reason.Worker = 6
reason_number reason.Incomplete = 7

unfoldable pub reason_name : Reason → List ℕ
reason_name reason.Text = codes "Text"
reason_name reason.Thread = codes "Thread"
reason_name reason.Owner = codes "Owner"
reason_name reason.Block = codes "Block"
reason_name reason.Kind = codes "Kind"
reason_name reason.Worker = codes "Worker"
reason_name reason.Incomplete = codes "Incomplete"
