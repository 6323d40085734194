use Rattle.tc_journal.proofs.digits.Hex2Display.fmt.Goals as goal

pub from_utf8_unchecked-requires : goal.from_utf8_unchecked-requires
from_utf8_unchecked-requires g c = rw c.pair_of-digits.ensures.digits c.pair_of-digits.ensures.text
