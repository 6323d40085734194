use Rattle.std.proofs.Common.{arith, below_more}
use Rattle.std.proofs.lemmas.Grind.{common_steps}
use Rattle.std.proofs.lemmas.List.Elements.{All-from_get_or}
use Rattle.tc_build.specs.Build.{AreWords}
use Rattle.tc_build.proofs.build.push_pairs.Goals as goal

pub loop-pair-preserved : goal.loop-pair-preserved
loop-pair-preserved c =
    let before = c.loop-pair.invariant.0 in
    let more = c.in_ok-push_words.ensures.written in (
      grind (arith, common_steps),
      below_more _ _ c.loop-pair.invariant.1 (let w = c.in_ok-push_words.ensures.words in record { first = w 0 0 (omega arith); second = w 1 0 (omega arith) }),
    )

pub returns-clause-words : goal.returns-clause-words
returns-clause-words c = All-from_get_or AreWords c.args.pairs.now (0, 0) (λ k below. c.loop-pair.invariant.1 k (omega arith))
