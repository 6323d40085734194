use Rattle.tc_context.proofs.Vocabulary.{sym, subst, has, Guest, IsLoad, IsStore, HasExecuted, MayRun, HasGone}
use Rattle.tc_context.proofs.Stepping.{with_both, plain_gone, may_held}
use Rattle.tc_context.proofs.context.Context.step.Goals as goal

pub returns-in-Went : goal.returns-in-Went
returns-in-Went c =
    let did = subst (HasExecuted c.args.image.now c.args.self.now.guest c.execute.new.self) c.in-Went.is (c.execute.ensures c.args.image.now c.requires.instr) in
    (plain_gone c.args.image.now (has c.args.block) c.args.self.now c.execute.new.self c.requires.may.of did.0, did.1)

pub returns-in-Jumped : goal.returns-in-Jumped
returns-in-Jumped c =
    plain_gone c.args.image.now (has c.args.block) c.args.self.now c.execute.new.self c.requires.may.of
    (subst (HasExecuted c.args.image.now c.args.self.now.guest c.execute.new.self) c.in-Jumped.is (c.execute.ensures c.args.image.now c.requires.instr))

pub load-requires : goal.load-requires
load-requires c =
    let image = c.args.image.now in
    let p = c.args.self.now in
    let i = c.in-Load in
    let did = subst (HasExecuted image p.guest c.execute.new.self) i.is (c.execute.ensures image c.requires.instr) in
    record {
      load = subst (λ (g : Guest). IsLoad image g i.kind i.rd i.addr) (sym did.0) did.1;
      may = subst (λ (g : Guest). MayRun image (has c.args.block) 1 (with_both p g p.locks)) (sym did.0) c.requires.may;
    }

pub returns-in-Load : goal.returns-in-Load
returns-in-Load c =
    let image = c.args.image.now in
    let p = c.args.self.now in
    let did = subst (HasExecuted image p.guest c.execute.new.self) c.in-Load.is (c.execute.ensures image c.requires.instr) in
    subst (λ (g : Guest). HasGone image (has c.args.block) (with_both p g p.locks) c.load.new.self c.load.result) did.0 c.load.ensures

pub store-requires : goal.store-requires
store-requires c =
    let image = c.args.image.now in
    let p = c.args.self.now in
    let i = c.in-Store in
    let did = subst (HasExecuted image p.guest c.execute.new.self) i.is (c.execute.ensures image c.requires.instr) in
    record {
      store = subst (λ (g : Guest). IsStore image g i.kind i.addr i.value) (sym did.0) did.1;
      may = subst (λ (g : Guest). MayRun image (has g.held) 1 (with_both p g p.locks)) (sym did.0) (may_held image (has c.args.block) 1 p c.requires.may);
    }

pub returns-in-Store : goal.returns-in-Store
returns-in-Store c =
    let image = c.args.image.now in
    let p = c.args.self.now in
    let did = subst (HasExecuted image p.guest c.execute.new.self) c.in-Store.is (c.execute.ensures image c.requires.instr) in
    subst (λ (g : Guest). HasGone image (has c.args.block) (with_both p g p.locks) c.store.new.self c.store.result) did.0 (c.store.ensures (has c.args.block))
