use Rattle.tc_hall.proofs.Ordering.{kept_of}
use Rattle.tc_hall.proofs.Parts.{parts}
use Rattle.tc_hall.proofs.Exact.{exact_words, line_words}
use Rattle.tc_hall.proofs.showing.order.Goals as goal

pub returns-clause-kept : goal.returns-clause-kept
returns-clause-kept c = kept_of

pub returns-clause-parts : goal.returns-clause-parts
returns-clause-parts c = parts

pub returns-clause-words : goal.returns-clause-words
returns-clause-words c = exact_words

pub returns-clause-lines : goal.returns-clause-lines
returns-clause-lines c = line_words
