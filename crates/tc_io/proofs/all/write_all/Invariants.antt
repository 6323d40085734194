use Rattle.std.proofs.Common.{◌-◌, ◌≤◌, length, take, drop}
use Rattle.std.specs.Prelude.{Result}
use Rattle.tc_io.specs.Calls.{Writes}
use Rattle.tc_io.specs.Taken.{Gives}
use Rattle.tc_io.specs.declared.source.Failed.{Failed}
use Rattle.tc_io.proofs.all.write_all.Given as goal

-- what finishes from here finishes from the start
abbrev pub invariant-loop-done : goal.invariant-loop-done
invariant-loop-done g l = record {
  within : l.done ≤ length l.bytes;
  gives : Gives (g.K.Sink.stream l.initial.sink) (g.K.Sink.stream l.sink) (take l.done l.bytes);
  writes : (result : Result (Unit {0}) Failed) (k : _) → Writes g.K.Sink.write_gives (drop l.done l.bytes) l.sink result k → Writes g.K.Sink.write_gives l.bytes l.initial.sink result k;
}

abbrev pub decreases-loop-done : goal.decreases-loop-done
decreases-loop-done g l = length l.bytes - l.done
