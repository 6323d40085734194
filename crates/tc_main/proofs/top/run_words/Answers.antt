use Rattle.tc_main.proofs.top.run_words.Goals as goal

pub returns-in-Ok-clause-ends : goal.returns-in-Ok-clause-ends
returns-in-Ok-clause-ends g c = c.status_of.ensures c.args.words.now (g.S.Source.stream c.args.source.now) (g.S.Source.stream c.answer_words.new.source) (g.K.Sink.stream c.args.sink.now) (g.K.Sink.stream c.answer_words.new.sink) c.in-Ok.ensures.answer
