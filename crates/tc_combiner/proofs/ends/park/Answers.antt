use Rattle.std.proofs.Common.{[], ◌∷◌, refl}
use Rattle.tc_combiner.proofs.Vocabulary.{Did_park, DeskParts, Parked, put_call, threads}
use Rattle.tc_combiner.proofs.Answering.{keeps_answers, wider}
use Rattle.tc_combiner.proofs.Acting.{takes_none}
use Rattle.tc_combiner.proofs.Lining.{put_lines, puts_as}
use Rattle.tc_combiner.proofs.Packages.{no_other}
use Rattle.tc_combiner.proofs.ends.park.Goals as goal

pub returns-clause-calls : goal.returns-clause-calls
returns-clause-calls c =
    let put = put_call c.args.«package» Parked ∷ [] in
    let h : DeskParts = record c.args.parts.now { pass = c.put.new.pass } in record {
      answers = keeps_answers c.args.hall.now put c.args.«package» c.args.parts.now h Did_park c.requires.parts (wider put c.args.«package» c.args.parts.now h refl c.put.ensures.acts) (takes_none (threads c.args.hall.now.terms) c.args.parts.now.ready.items c.args.parts.now.ready.items put refl refl) refl;
      aside = refl;
    }

pub put-requires-clause-stands : goal.put-requires-clause-stands
put-requires-clause-stands c = puts_as c.args.hall.now.terms c.args.parts.now.pass.knows c.args.«package» c.args.parts.now.aside (λ a e. (c.requires.parts.aside a e).free) c.requires.lines Parked (λ i e. let n : ⊥ = cc e in n) (λ e. c.requires.may.slept)

pub returns-clause-lines : goal.returns-clause-lines
returns-clause-lines c = put_lines c.args.hall.now.terms c.args.parts.now.pass.knows c.args.«package» c.args.parts.now.aside (λ a e. (c.requires.parts.aside a e).free) c.requires.lines c.put.new.pass.knows Parked (no_other c.args.«package» c.requires.may.plain.locks) c.put.ensures.told
