use Rattle.tc_context.proofs.Vocabulary.{subst, Guest, HasGone}
use Rattle.tc_context.proofs.Stepping.{with_both, own_stored}
use Rattle.tc_context.proofs.context.Context.store.Goals as goal

pub returns-then-store_word : goal.returns-then-store_word
returns-then-store_word c block = own_stored c.args.image.now block c.args.self.now c.store_word.new.self c.args.kind c.args.addr c.args.value c.requires.may.of c.requires.store c.if-store_word.ensures

pub returns-else-store_word : goal.returns-else-store_word
returns-else-store_word c block =
    let p = c.args.self.now in
    subst (λ (g : Guest). HasGone c.args.image.now block (with_both p g p.locks) c.store_any.new.self c.store_any.result) c.if-store_word.ensures (c.store_any.ensures block)
