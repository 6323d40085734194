use Rattle.std.proofs.Common.{◌-◌, drop, arith, take_all, length-drop}
use Rattle.std.proofs.lemmas.Str.{IsUtf8-had}
use Rattle.tc_journal.specs.declared.buffer.TheConstants.{ROOM}
use Rattle.tc_journal.proofs.buffer.Buffer.into_str.Goals as goal

pub from_utf8_unchecked-requires : goal.from_utf8_unchecked-requires
from_utf8_unchecked-requires c =
    rw (take_all (ROOM - c.self.inside.start) (drop c.self.inside.start c.self.inside.bytes.now) (omega (arith, length-drop c.self.inside.start c.self.inside.bytes.now)))
    (IsUtf8-had _ c.self.invariant.2)
