use Rattle.std.proofs.Common.{ℕ, [], ◌∷◌, ◌++◌, refl, sym, ap, subst, ◌∙◌, Option}
use Rattle.tc_combiner.proofs.Vocabulary.{Pack, PackageView, packed}
use Rattle.tc_combiner.proofs.Acting.{acts_none}
use Rattle.tc_combiner.proofs.Unlocking.{may_ready, sets_alone, sets_behind}
use Rattle.tc_hall.specs.Standing.{is_of}
use Rattle.tc_combiner.specs.Stances.{KnowsLines}
use Rattle.tc_combiner.proofs.Lining.{hand_shows}
use Rattle.tc_combiner.proofs.Packages.{no_other, not_some}
use Rattle.tc_combiner.proofs.Releasing.{first_free, readies_as, ready_lines, shows_apart}
use Rattle.tc_combiner.proofs.unlock.set_aside.Goals as goal

pub put-requires-clause-may : goal.put-requires-clause-may
put-requires-clause-may c = may_ready c.args.hall.now c.args.«package» (packed c.args.parts.now.aside) c.args.parts.now.pass c.args.parts.now.aside c.requires.parts.at c.requires.may.goes

pub returns-then-is_some-clause-set : goal.returns-then-is_some-clause-set
returns-then-is_some-clause-set c = sets_behind c.args.hall.now c.args.«package» c.args.parts.now _ c.requires.parts c.requires.may (sym c.is_some.ensures ∙ c.if-is_some.true) refl c.put.ensures.acts (c.push.ensures.items ∙ ap (λ (t : ℕ). c.args.parts.now.ready.items ++ t ∷ []) c.thread.ensures)

pub returns-clause-set : goal.returns-clause-set
returns-clause-set c = sets_alone c.args.hall.now c.args.«package» c.args.parts.now _ c.requires.parts c.requires.may (not_some c.args.parts.now.aside (sym c.is_some.ensures ∙ c.if-is_some.false)) refl (acts_none c.args.parts.now.pass (Pack c.args.«package» ∷ [])) refl

pub put-requires-clause-stands : goal.put-requires-clause-stands
put-requires-clause-stands c =
    let k = c.args.hall.now.terms in
    let v = c.args.parts.now.pass.knows in
    let p = c.args.«package» in
    let a = c.args.parts.now.aside in
    let q = c.requires.lines.0 in
    readies_as k v p (Pack q ∷ packed a) (λ i. ap (is_of p.context.thread) (hand_shows q a (λ d e. (c.requires.parts.at.aside d e).free) i) ∙ shows_apart q p.context.thread i c.requires.lines.2)
    (first_free k v q p (packed a) c.requires.may.free c.requires.lines.1)

pub returns-then-is_some-clause-lines : goal.returns-then-is_some-clause-lines
returns-then-is_some-clause-lines c = λ q lines apart.
    let k = c.args.hall.now.terms in
    let v = c.args.parts.now.pass.knows in
    let p = c.args.«package» in
    let a = c.args.parts.now.aside in
    ready_lines k v p (Pack q ∷ packed a) (λ i. ap (is_of p.context.thread) (hand_shows q a (λ d e. (c.requires.parts.at.aside d e).free) i) ∙ shows_apart q p.context.thread i apart)
    (first_free k v q p (packed a) c.requires.may.free lines) (no_other p c.requires.may.goes.plain.locks)
    (λ i l e. let none = c.requires.may.free i in let n : ⊥ = cc (e, none) in absurd n) c.put.new.pass.knows c.put.ensures.told

pub returns-clause-lines : goal.returns-clause-lines
returns-clause-lines c = λ q lines apart. subst (λ (o : Option PackageView). KnowsLines c.args.hall.now.terms c.args.parts.now.pass.knows (Pack q ∷ Pack c.args.«package» ∷ packed o)) (not_some c.args.parts.now.aside (sym c.is_some.ensures ∙ c.if-is_some.false)) lines
