use Rattle.std.proofs.Common.{◌≡◌, ◌≢◌, ◌+◌, subst, ◌∙◌}
use Rattle.std.proofs.lemmas.Result.{on_err_weaker}
use Rattle.tc_io.specs.Taken.{TakesAtMost}
use Rattle.tc_main.specs.Words.{AskFor, Nothing, most_of, needs_of}
use Rattle.tc_main.proofs.Replaying.{unread_needs}
use Rattle.tc_main.proofs.SameAsked.{one_needs}
use Rattle.tc_main.proofs.answer.answer_words.Goals as goal

pub returns-in-Some-clause-answer : goal.returns-in-Some-clause-answer
returns-in-Some-clause-answer g c =
    let asks : AskFor c.args.words.now c.in-Some.asked = rw c.in-Some.is at c.asked_of.ensures.some in
    c.answer_asked.ensures.answer c.args.words.now asks

pub returns-in-Some-clause-unread : goal.returns-in-Some-clause-unread
returns-in-Some-clause-unread g c = λ other.
    let asks : AskFor c.args.words.now c.in-Some.asked = rw c.in-Some.is at c.asked_of.ensures.some in
    c.answer_asked.ensures.unread (unread_needs c.args.words.now c.in-Some.asked asks other)

pub returns-in-Some-clause-further : goal.returns-in-Some-clause-further
returns-in-Some-clause-further g c =
    let asks : AskFor c.args.words.now c.in-Some.asked = rw c.in-Some.is at c.asked_of.ensures.some in
    on_err_weaker c.answer_asked.result (λ far needs other.
    let is : needs_of c.in-Some.asked ≡ needs = one_needs c.args.words.now c.in-Some.asked other.asked asks other.asks ∙ other.needs_are in
    subst (λ n. n ≢ Nothing → TakesAtMost (g.S.Source.stream c.args.source.now) (g.S.Source.stream c.answer_asked.new.source) (most_of n + 1)) is far other.some) c.answer_asked.ensures.further
