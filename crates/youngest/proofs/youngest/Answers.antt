use Rattle.std.proofs.Common.{◌≡◌, ◌∙◌, sym, subst}
use Rattle.tc_isa.specs.declared.options.Options.{Options}
use Rattle.tc_main.specs.Ends.{Ends}
use Rattle.tc_main.specs.Own.{run_words}
use Rattle.tc_main.specs.Words.{option_words}
use Rattle.tc_main.proofs.SameAsked.{same_options}
use Rattle.youngest.proofs.youngest.Goals as goal

pub returns-in_default-clause-ends : goal.returns-in_default-clause-ends
returns-in_default-clause-ends g c = λ o words. absurd ((rw c.in_default.is at c.options_of.ensures.none) o words)

pub returns-clause-done : goal.returns-clause-done
returns-clause-done g c = λ is. (c.in-Some.options, rw c.in-Some.is at c.options_of.ensures.some, c.run_guest.ensures.done is)

pub returns-clause-ends : goal.returns-clause-ends
returns-clause-ends g c = λ o words.
    let own : c.args.words.now ≡ option_words c.in-Some.options = rw c.in-Some.is at c.options_of.ensures.some in
    subst (λ (p : Options). Ends (run_words p) (g.S.Source.stream c.args.source.now) (g.S.Source.stream c.run_guest.new.source) (g.K.Sink.stream c.args.sink.now) (g.K.Sink.stream c.run_guest.new.sink) c.run_guest.result)
    (same_options c.in-Some.options o (sym own ∙ words)) c.run_guest.ensures.ends

pub returns-clause-usage : goal.returns-clause-usage
returns-clause-usage g c = λ none.
    let own : c.args.words.now ≡ option_words c.in-Some.options = rw c.in-Some.is at c.options_of.ensures.some in
    absurd (none c.in-Some.options own)
