use Rattle.std.proofs.Common.{ℕ, List, IfOk, subst}
use Rattle.tc_io.specs.Stream.{Stream}
use Rattle.tc_main.specs.Ends.{Verdict}
use Rattle.tc_report.specs.Written.{Wrote}
use Rattle.tc_main.proofs.answer.answer_bytes.Goals as goal

pub returns-in-Err-clause-answer : goal.returns-in-Err-clause-answer
returns-in-Err-clause-answer g c =
    let asked = c.args.asked in
    let bytes = c.args.bytes.items in
    let now = g.K.Sink.stream c.answer_wrong.new.sink in
    let from : Stream → Type 0 = λ before. IfOk c.answer_wrong.result (λ a. (text : List ℕ) × Verdict asked bytes text a.status × Wrote before now text a.written) in
    subst from c.in-Err.ensures.unwritten (c.answer_wrong.ensures.answer asked bytes c.in-Err.ensures.wrong)
