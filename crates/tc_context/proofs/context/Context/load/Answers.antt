use Rattle.tc_context.proofs.Vocabulary.{sym, subst, has, Guest, IsLoad, MayRun, HasGone}
use Rattle.tc_context.proofs.Stepping.{with_both, own_loaded, note_may}
use Rattle.tc_context.proofs.context.Context.load.Goals as goal

pub note_own-requires : goal.note_own-requires
note_own-requires c = (let may = note_may c.args.image.now (has c.args.block) c.args.self.now c.requires.may in record { opened = may.0; room = may.1 })

pub returns-in-Some : goal.returns-in-Some
returns-in-Some c =
    own_loaded c.args.image.now (has c.args.block) c.args.self.now c.load_word.new.self c.args.kind c.args.rd c.args.addr c.in-Some.number c.note_own.new.self c.requires.may.of c.requires.load c.in-Some.ensures c.note_own.ensures

pub load_any-requires : goal.load_any-requires
load_any-requires c =
    let p = c.args.self.now in
    record {
      load = subst (λ (g : Guest). IsLoad c.args.image.now g c.args.kind c.args.rd c.args.addr) (sym c.in-None.ensures) c.requires.load;
      may = subst (λ (g : Guest). MayRun c.args.image.now (has c.args.block) 1 (with_both p g p.locks)) (sym c.in-None.ensures) c.requires.may;
    }

pub returns-in-None : goal.returns-in-None
returns-in-None c =
    let p = c.args.self.now in
    subst (λ (g : Guest). HasGone c.args.image.now (has c.args.block) (with_both p g p.locks) c.load_any.new.self c.load_any.result) c.in-None.ensures c.load_any.ensures
