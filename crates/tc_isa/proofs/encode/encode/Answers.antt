use Rattle.tc_isa.proofs.RoundTrip.{decodes_again}
use Rattle.tc_isa.proofs.encode.encode.Goals as goal

pub returns-clause-decodes : goal.returns-clause-decodes
returns-clause-decodes c = decodes_again _ _ c.requires c.word_of.ensures
