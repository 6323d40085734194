use Rattle.std.proofs.Common.{rules, ◌≡◌, ◌≢◌, ◌+◌, ◌∙◌, refl, subst}
use Rattle.tc_io.specs.Taken.{TakesAtMost}
use Rattle.tc_main.specs.Own.{run_words}
use Rattle.tc_main.specs.Words.{AskFor, GuestFile, Nothing, most_of}
use Rattle.tc_main.specs.declared.policy.Policy.TheVariants.{Entry}
use Rattle.tc_main.specs.declared.words.Command.TheVariants.{Run}
use Rattle.tc_main.proofs.SameAsked.{one_needs}
use Rattle.tc_main.proofs.own.end_of.Goals as goal

pub returns-in-Ok : goal.returns-in-Ok
returns-in-Ok g c =
    let words = run_words c.args.options in
    let asks : AskFor words (Run Entry c.args.options) = (tt, refl) in
    let comes = rw c.in-Ok.is at c.answer_asked.ensures.answer words asks in
    c.status_of.ensures words (g.S.Source.stream c.args.source.now) (g.S.Source.stream c.answer_asked.new.source)
    (g.K.Sink.stream c.args.sink.now) (g.K.Sink.stream c.answer_asked.new.sink) comes

pub returns-in-Err : goal.returns-in-Err
returns-in-Err g c =
    let words = run_words c.args.options in
    let asks : AskFor words (Run Entry c.args.options) = (tt, refl) in
    let unwritten = c.in-Err.ensures.memory in (
      λ needs other.
          let is : GuestFile ≡ needs = one_needs words (Run Entry c.args.options) other.asked asks other.asks ∙ other.needs_are in
          subst (λ n. n ≢ Nothing → TakesAtMost (g.S.Source.stream c.args.source.now) (g.S.Source.stream c.answer_asked.new.source) (most_of n + 1)) is c.in-Err.ensures.further other.some,
      search (rules, unwritten),
    )
