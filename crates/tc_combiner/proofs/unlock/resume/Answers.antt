use Rattle.std.proofs.Common.{ℕ, [], ◌∷◌, ◌++◌, refl, sym, subst, ap, ◌∙◌, Option}
use Rattle.tc_combiner.proofs.Vocabulary.{HoldsNone, Pack, PackageView, Ready, packed}
use Rattle.tc_combiner.proofs.Acting.{acts_none}
use Rattle.tc_combiner.proofs.Unlocking.{goes_other, goes_same, may_ready}
use Rattle.tc_combiner.specs.Stances.{KnowsLines}
use Rattle.tc_combiner.proofs.Lining.{put_lines, puts_as}
use Rattle.tc_combiner.proofs.Packages.{no_other}
use Rattle.tc_combiner.proofs.unlock.resume.Goals as goal

pub returns-then-not-holds_none-clause-goes : goal.returns-then-not-holds_none-clause-goes
returns-then-not-holds_none-clause-goes c = goes_same c.args.hall.now c.args.«package» c.args.parts.now c.args.parts.now c.requires.parts c.requires.may (acts_none c.args.parts.now.pass (Pack c.args.«package» ∷ packed c.args.parts.now.aside)) refl refl (λ n. absurd (c.holds_none.ensures.some (cc) n))

pub returns-in-None-clause-goes : goal.returns-in-None-clause-goes
returns-in-None-clause-goes c = goes_same c.args.hall.now c.args.«package» c.args.parts.now _ c.requires.parts c.requires.may (acts_none c.args.parts.now.pass (Pack c.args.«package» ∷ packed c.args.parts.now.aside)) refl (cc) (λ n. cc)

pub put-requires-clause-may : goal.put-requires-clause-may
put-requires-clause-may c = may_ready c.args.hall.now c.args.«package» (packed c.args.parts.now.aside) c.args.parts.now.pass c.args.parts.now.aside c.requires.parts.at c.requires.may

pub returns-in-Some-clause-goes : goal.returns-in-Some-clause-goes
returns-in-Some-clause-goes c =
    let none : HoldsNone c.args.«package» = c.holds_none.ensures.none (cc) in
    goes_other c.args.hall.now c.args.«package» c.args.parts.now _ c.requires.parts c.in-Some.other c.requires.may (cc) c.take.ensures.after none c.put.ensures.acts (c.push.ensures.items ∙ ap (λ (t : ℕ). c.args.parts.now.ready.items ++ t ∷ []) c.thread.ensures)

pub returns-then-not-holds_none-clause-lines : goal.returns-then-not-holds_none-clause-lines
returns-then-not-holds_none-clause-lines c = c.requires.lines

pub returns-in-None-clause-lines : goal.returns-in-None-clause-lines
returns-in-None-clause-lines c = subst (λ (o : Option PackageView). KnowsLines c.args.hall.now.terms c.args.parts.now.pass.knows (Pack c.args.«package» ∷ packed o)) ((sym c.take.ensures.value ∙ c.in-None.is) ∙ sym c.take.ensures.after) c.requires.lines

pub put-requires-clause-stands : goal.put-requires-clause-stands
put-requires-clause-stands c = puts_as c.args.hall.now.terms c.args.parts.now.pass.knows c.args.«package» c.args.parts.now.aside (λ a e. (c.requires.parts.at.aside a e).free) c.requires.lines Ready (λ i e. let n : ⊥ = cc e in n) (λ e. let n : ⊥ = cc e in absurd n)

pub returns-in-Some-clause-lines : goal.returns-in-Some-clause-lines
returns-in-Some-clause-lines c =
    let lines = put_lines c.args.hall.now.terms c.args.parts.now.pass.knows c.args.«package» c.args.parts.now.aside (λ a e. (c.requires.parts.at.aside a e).free) c.requires.lines c.put.new.pass.knows Ready (no_other c.args.«package» c.requires.may.plain.locks) c.put.ensures.told in
    subst (λ (o : Option PackageView). KnowsLines c.args.hall.now.terms c.put.new.pass.knows (Pack c.in-Some.other ∷ packed o)) (sym c.take.ensures.after)
    (subst (λ (o : Option PackageView). KnowsLines c.args.hall.now.terms c.put.new.pass.knows (packed o)) (sym c.take.ensures.value ∙ c.in-Some.is) lines)
