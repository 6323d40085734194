use Rattle.std.proofs.Common.{subst}
use Rattle.std.proofs.lemmas.Result.{IfOk-weaker}
use Rattle.tc_main.specs.Refusals.{named, short_input}
use Rattle.tc_main.specs.Top.{refused_line, rejected_line}
use Rattle.tc_main.specs.Wrong.{IsWrong}
use Rattle.tc_main.proofs.Replaying.{answer_short, answer_file, answer_history}
use Rattle.tc_main.proofs.answer.answer_wrong.Goals as goal

pub returns-in-Short-clause-answer : goal.returns-in-Short-clause-answer
returns-in-Short-clause-answer g c = λ asked bytes w.
    IfOk-weaker c.refused.result _ _
    (λ a is. (refused_line short_input, answer_short asked bytes a.status (subst (IsWrong asked bytes) c.in-Short.is w) is.0, is.1)) c.refused.ensures.answer

pub returns-in-File-clause-answer : goal.returns-in-File-clause-answer
returns-in-File-clause-answer g c = λ asked bytes w.
    let reason = c.in-File.refusal in
    IfOk-weaker c.refused-in-File.result _ _
    (λ a was. let is = rw (c.number.ensures, c.name.ensures) at was in (refused_line (named reason), answer_file asked bytes a.status reason (subst (IsWrong asked bytes) c.in-File.is w) is.0, is.1)) c.refused-in-File.ensures.answer

pub returns-in-History-clause-answer : goal.returns-in-History-clause-answer
returns-in-History-clause-answer g c = λ asked bytes w.
    IfOk-weaker c.rejected.result _ _
    (λ a is. (rejected_line c.in-History.reason, answer_history asked bytes a.status c.in-History.reason (subst (IsWrong asked bytes) c.in-History.is w) is.0, is.1)) c.rejected.ensures.answer
