use Rattle.std.proofs.Common.{subst}
use Rattle.tc_main.specs.Ends.{Ends}
use Rattle.tc_main.specs.Own.{run_words}
use Rattle.tc_main.specs.declared.status.Status.TheVariants.{Done}
use Rattle.tc_main.proofs.RunReport.{report_wanted}
use Rattle.tc_main.proofs.Statuses.{completes, refuses}
use Rattle.tc_main.proofs.own.run_guest.Goals as goal

pub returns-clause-ends : goal.returns-clause-ends
returns-clause-ends g c = c.end_of.ensures

pub returns-clause-done : goal.returns-clause-done
returns-clause-done g c = λ is.
    let before = g.S.Source.stream c.args.source.now in
    let now = g.S.Source.stream c.end_of.new.source in
    let had = g.K.Sink.stream c.args.sink.now in
    let has = g.K.Sink.stream c.end_of.new.sink in
    let ends : Ends (run_words c.args.options) before now had has Done = subst (Ends (run_words c.args.options) before now had has) is c.end_of.ensures in
    let report = report_wanted c.args.options before now ends.0 ends.1 in (report.0, ends.0, report.1, report.2, ends.2)

pub returns-clause-refuses : goal.returns-clause-refuses
returns-clause-refuses g c = refuses (run_words c.args.options)
    (g.S.Source.stream c.args.source.now) (g.S.Source.stream c.end_of.new.source)
    (g.K.Sink.stream c.args.sink.now) (g.K.Sink.stream c.end_of.new.sink) c.end_of.result c.end_of.ensures

pub returns-clause-complete : goal.returns-clause-complete
returns-clause-complete g c = completes (run_words c.args.options)
    (g.S.Source.stream c.args.source.now) (g.S.Source.stream c.end_of.new.source)
    (g.K.Sink.stream c.args.sink.now) (g.K.Sink.stream c.end_of.new.sink) c.end_of.result c.end_of.ensures
