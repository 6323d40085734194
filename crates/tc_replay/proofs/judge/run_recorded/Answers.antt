use Rattle.std.proofs.Common.{◌∙◌, sym, arith}
use Rattle.tc_replay.proofs.Judging.{wrong_block, wrong_kind, wrong_worker, may_seal, nothing_wrong}
use Rattle.tc_replay.proofs.judge.run_recorded.Goals as goal

pub returns-then-not-have_same_turns : goal.returns-then-not-have_same_turns
returns-then-not-have_same_turns c h prepared =
    wrong_block c.args.image.now c.args.terms h c.args.«package».now c.run_block.new.self c.args.block.now c.last-ran.result prepared c.keeps.ensures.sound (omega (arith, c.if-prove.false, c.bits.ensures)) c.run_block.ensures.ran c.last-ran.ensures
    (c.if-not-have_same_turns.ensures)

pub returns-then-not-is_kind : goal.returns-then-not-is_kind
returns-then-not-is_kind c h prepared =
    wrong_kind c.args.image.now c.args.terms h c.args.«package».now c.run_block.new.self c.args.block.now c.last-ran.result prepared c.keeps.ensures.sound (omega (arith, c.if-prove.false, c.bits.ensures)) c.run_block.ensures.ran c.last-ran.ensures
    (c.if-not-have_same_turns.ensures) (λ kind fits. c.if-not-is_kind.ensures kind)

pub returns-then-not-fits : goal.returns-then-not-fits
returns-then-not-fits c h prepared =
    wrong_kind c.args.image.now c.args.terms h c.args.«package».now c.run_block.new.self c.args.block.now c.last-ran.result prepared c.keeps.ensures.sound (omega (arith, c.if-prove.false, c.bits.ensures)) c.run_block.ensures.ran c.last-ran.ensures
    (c.if-not-have_same_turns.ensures) (λ kind fits. absurd (cc (c.if-not-fits.true, c.fits-fits.ensures, fits)))

pub returns-then-block-terms : goal.returns-then-block-terms
returns-then-block-terms c h prepared =
    wrong_worker c.args.image.now c.args.terms h c.args.«package».now c.run_block.new.self c.args.block.now c.last-ran.result prepared c.keeps.ensures.sound (omega (arith, c.if-prove.false, c.bits.ensures)) c.run_block.ensures.ran c.last-ran.ensures
    (c.if-not-have_same_turns.ensures) (c.if-not-is_kind.ensures) (sym c.fits-fits.ensures ∙ c.if-not-fits.false) (λ lt. absurd (omega (arith, c.if-block-terms.true, lt)))

pub seal-requires-clause-allows : goal.seal-requires-clause-allows
seal-requires-clause-allows c =
    may_seal c.args.image.now c.args.terms c.requires.0 c.args.«package».now c.run_block.new.self c.args.block.now c.last-ran.result c.requires.1 c.keeps.ensures.sound (omega (arith, c.if-prove.false, c.bits.ensures)) c.run_block.ensures.ran c.last-ran.ensures
    (sym c.fits-fits.ensures ∙ c.if-not-fits.false)

pub returns : goal.returns
returns c h prepared =
    nothing_wrong c.args.image.now c.args.terms h c.args.«package».now c.run_block.new.self c.args.block.now c.last-ran.result prepared c.keeps.ensures.sound (omega (arith, c.if-prove.false, c.bits.ensures)) c.run_block.ensures.ran c.last-ran.ensures
    (c.if-not-have_same_turns.ensures) (c.if-not-is_kind.ensures) (sym c.fits-fits.ensures ∙ c.if-not-fits.false) (omega (arith, c.if-block-terms.false)) c.seal.new.self c.seal.ensures
