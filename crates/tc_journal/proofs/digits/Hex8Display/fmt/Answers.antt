use Rattle.tc_journal.proofs.Buffers.{IsUtf8-hex8}
use Rattle.tc_journal.proofs.digits.Hex8Display.fmt.Goals as goal

pub from_utf8_unchecked-requires : goal.from_utf8_unchecked-requires
from_utf8_unchecked-requires g c = rw c.eight_of-digits.ensures (IsUtf8-hex8 c.args.self.now.0)
