use Rattle.tc_segment.proofs.Vocabulary.{Bool, not, ◌||◌, ap, sym, ◌∙◌, map, take, LockView, block_of, blocks_of, last_of, view_of, passes_in, passes_to}
use Rattle.tc_segment.proofs.Sealing.{blocks_shown}
use Rattle.tc_segment.proofs.state.LockState.passes_to.Goals as goal

pub returns-else-not-contents : goal.returns-else-not-contents
returns-else-not-contents c =
    let a = c.deref-contents.result.now in
    c.passes_to.ensures
    ∙ ap (λ o. passes_to o c.args.kind c.args.thread) (c.last_block-last.ensures ∙ ap (λ rs. last_of (map block_of (take a.sealed rs))) c.deref.ensures.value ∙ ap last_of (sym (blocks_shown a.edges.words a.words.items a.sealed a.records.items)))
    ∙ ap (λ (x : Bool). not x || passes_to (last_of (blocks_of (view_of a))) c.args.kind c.args.thread) (sym c.if-not-contents.false)
    ∙ ap (λ (l : LockView). passes_in l c.args.kind c.args.thread) (ap view_of c.deref-contents.ensures ∙ c.self.view_is)
