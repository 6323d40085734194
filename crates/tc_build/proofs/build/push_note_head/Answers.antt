use Rattle.tc_build.proofs.build.push_note_head.Goals as goal

pub returns : goal.returns
returns c = rw (← c.note_version.ensures) c.push_words.ensures.written
