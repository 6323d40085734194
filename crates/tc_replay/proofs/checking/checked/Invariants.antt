use Rattle.std.proofs.Common.{◌≡◌, take}
use Rattle.tc_replay.specs.Taken.{HasTaken}
use Rattle.tc_replay.proofs.checking.checked.Given as goal

abbrev pub invariant-loop-i : goal.invariant-loop-i
invariant-loop-i l = record {
  taken : HasTaken l.checker (take l.i l.history);
  image : l.checker.image ≡ l.image;
  terms : l.checker.terms ≡ l.fn.terms;
}
