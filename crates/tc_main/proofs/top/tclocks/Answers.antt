use Rattle.tc_main.proofs.Statuses.{completes, refuses}
use Rattle.tc_main.proofs.top.tclocks.Goals as goal

pub returns-clause-refuses : goal.returns-clause-refuses
returns-clause-refuses g c = refuses c.args.words.now
    (g.S.Source.stream c.args.source.now) (g.S.Source.stream c.run_words.new.source)
    (g.K.Sink.stream c.args.sink.now) (g.K.Sink.stream c.run_words.new.sink) c.run_words.result c.run_words.ensures.ends

pub returns-clause-complete : goal.returns-clause-complete
returns-clause-complete g c = completes c.args.words.now
    (g.S.Source.stream c.args.source.now) (g.S.Source.stream c.run_words.new.source)
    (g.K.Sink.stream c.args.sink.now) (g.K.Sink.stream c.run_words.new.sink) c.run_words.result c.run_words.ensures.ends
