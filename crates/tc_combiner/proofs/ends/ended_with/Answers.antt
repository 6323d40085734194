use Rattle.std.proofs.Common.{◌≡◌, refl, sym, subst, arith, Option, Some, None}
use Rattle.tc_combiner.specs.Stances.{KnowsLines}
use Rattle.tc_combiner.proofs.Vocabulary.{Done, HallTerms, HasNone, Knows, Pack, PackageView, packed}
use Rattle.tc_combiner.proofs.Leaving.{lines_alone, lines_beside, still_at, stop_at}
use Rattle.tc_combiner.proofs.Lining.{put_lines, puts_as}
use Rattle.tc_combiner.proofs.Ending.{at_end, emptied_plain, ends_done, ends_stopped, may_done}
use Rattle.tc_combiner.proofs.Acting.{alone}
use Rattle.tc_combiner.proofs.PassedOn.{left_after}
use Rattle.tc_combiner.proofs.ends.ended_with.Goals as goal

pub end_all-requires-clause-parts : goal.end_all-requires-clause-parts
end_all-requires-clause-parts g c κs within =
    let few = (left_after c.args.«package».image c.args.«package» c.args.block c.keeps.ensures.sound.left c.requires.may.last).few in
    record { at = alone c.args.shared.now.hall.now (Pack c.args.«package») (packed c.args.parts.now.aside) c.args.parts.now.pass c.args.parts.now.aside c.requires.parts.at; room = (let r = c.requires.parts.room in omega arith) }

pub put_all_back-requires-clause-parts : goal.put_all_back-requires-clause-parts
put_all_back-requires-clause-parts g c = at_end c.requires.may c.requires.parts c.end_all.result c.end_all.ensures.left

pub put_all_back-requires-clause-plain : goal.put_all_back-requires-clause-plain
put_all_back-requires-clause-plain g c = emptied_plain _ c.args.parts.now.pass.knows c.args.block c.args.«package» c.end_all.new.«package» c.requires.may c.end_all.ensures.left.emptied

pub put-requires-clause-may : goal.put-requires-clause-may
put-requires-clause-may g c = may_done c.requires.may c.requires.parts c.end_all.result c.keeps.ensures.sound c.end_all.ensures.left

pub returns-then-end_all-clause-ends : goal.returns-then-end_all-clause-ends
returns-then-end_all-clause-ends g c = ends_stopped c.requires.may c.requires.parts c.put_all_back.new.parts c.end_all.result c.if-end_all.true c.end_all.ensures.left c.put_all_back.ensures

pub returns-clause-ends : goal.returns-clause-ends
returns-clause-ends g c = ends_done c.requires.may c.requires.parts _ c.end_all.result c.if-end_all.false c.end_all.ensures.left c.put.ensures.acts refl refl

-- ---- how the pass stands at the lines

pub end_all-requires-clause-knows : goal.end_all-requires-clause-knows
end_all-requires-clause-knows g c = λ κs within. lines_alone c.args.shared.now.hall.now.terms c.args.parts.now.pass.knows c.args.«package» c.args.parts.now.aside (λ a e. (c.requires.parts.at.aside a e).free) c.requires.knows

pub put_all_back-requires-clause-stop : goal.put_all_back-requires-clause-stop
put_all_back-requires-clause-stop g c = stop_at c.args.shared.now.hall.now.terms c.args.parts.now.pass.knows c.end_all.new.parts.pass.knows c.end_all.new.«package» c.end_all.result c.if-end_all.true c.end_all.ensures.knows

pub put-requires-clause-stands : goal.put-requires-clause-stands
put-requires-clause-stands g c =
    let k : HallTerms = c.args.shared.now.hall.now.terms in
    let still = still_at k c.args.parts.now.pass.knows c.end_all.new.parts.pass.knows c.end_all.new.«package» c.end_all.result c.if-end_all.false c.end_all.ensures.knows in
    puts_as k c.end_all.new.parts.pass.knows c.end_all.new.«package» None (λ a e. let n : ⊥ = cc e in absurd n) still.lines Done (λ i e. let n : ⊥ = cc e in n) (λ e. let n : ⊥ = cc e in absurd n)

pub returns-clause-knows : goal.returns-clause-knows
returns-clause-knows g c =
    let k : HallTerms = c.args.shared.now.hall.now.terms in
    let v : Knows = c.args.parts.now.pass.knows in
    let a : Option PackageView = c.args.parts.now.aside in
    let free : (d : PackageView) → a ≡ Some d → HasNone d = λ d e. (c.requires.parts.at.aside d e).free in
    let p : PackageView = c.end_all.new.«package» in
    let still = still_at k v c.end_all.new.parts.pass.knows p c.end_all.result c.if-end_all.false c.end_all.ensures.knows in
    let lines = lines_beside k v c.args.«package» a free c.requires.knows c.end_all.new.parts.pass.knows p c.requires.parts.at.out still in
    subst (λ (o : Option PackageView). KnowsLines k c.put.new.pass.knows (packed o)) (sym c.end_all.ensures.left.aside)
    (put_lines k c.end_all.new.parts.pass.knows p a free lines c.put.new.pass.knows Done (λ i l e. let none = c.end_all.ensures.left.emptied.free i in let n : ⊥ = cc (e, none) in absurd n) c.put.ensures.told)
