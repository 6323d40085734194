use Rattle.tc_segment.proofs.Vocabulary.{ap, sym, ◌∙◌, map, take, subst, KeptLock, LockView, block_of, blocks_of, last_of, may_begin, run_of, view_of, allows_of}
use Rattle.tc_segment.proofs.Sealing.{blocks_shown}
use Rattle.tc_segment.proofs.state.LockState.allows.Goals as goal

pub returns : goal.returns
unfolding allows_of
returns c =
    let a = c.deref-contents.result.now in
    c.may_begin.ensures
    ∙ ap (λ o. may_begin a.number a.limit o a.run c.args.kind c.args.worker) (c.last_block.ensures ∙ ap (λ rs. last_of (map block_of (take a.sealed rs))) c.deref.ensures.value ∙ ap last_of (sym (blocks_shown a.edges.words a.words.items a.sealed a.records.items)))
    ∙ ap (λ n. may_begin a.number a.limit (last_of (blocks_of (view_of a))) n c.args.kind c.args.worker) (subst KeptLock (sym c.deref-contents.ensures) c.self.invariant).run
    ∙ ap (λ (l : LockView). may_begin l.number l.journal.limit (last_of (blocks_of l)) (run_of l.number (blocks_of l)) c.args.kind c.args.worker) (ap view_of c.deref-contents.ensures ∙ c.self.view_is)
