use Rattle.tc_nodes.proofs.Served.{keeps_picks}
use Rattle.tc_nodes.proofs.Alone.{keeps_room}
use Rattle.tc_nodes.proofs.Arriving.{keeps_arrivals, keeps_entry}
use Rattle.tc_nodes.proofs.laws.serving.Goals as goal

pub returns : goal.returns
returns c = record { picks = keeps_picks; room = keeps_room; arrivals = keeps_arrivals; entry = keeps_entry }
