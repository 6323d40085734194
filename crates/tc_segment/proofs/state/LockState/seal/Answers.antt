use Rattle.tc_segment.proofs.Vocabulary.{refl, sym, ap, subst, ◌∙◌, set, Some, is_some, KeptLock, LockView, MayFollow, MayPass, block_of, run_after, sealed_as, view_of, with_journal, slice_get-get_or}
use Rattle.std.specs.Vec.{with_item}
use Rattle.tc_segment.proofs.Sealing.{sealed_view, sealed_kept, some_closed}
use Rattle.tc_segment.proofs.state.LockState.seal.Goals as goal

pub returns : goal.returns
returns c =
    let shows = ap view_of c.deref_mut-contents.ensures.value ∙ c.self.view_is in
    let a = c.deref_mut-contents.result.now in
    let r = c.index_mut-record.result.now in
    let lt = some_closed a (ap (λ (l : LockView). is_some l.journal.closed) shows ∙ c.requires.closed) in
    let is = slice_get-get_or a.records.items a.sealed r lt ∙ ap Some (sym c.index_mut-record.ensures.value) in
    sealed_view a (with_item a.records a.sealed c.stamp.new.self) c.run_after-contents.result c.args.stamp c.args.worker r (subst KeptLock (sym c.deref_mut-contents.ensures.value) c.self.invariant) (record { is = is; items = ap (set a.records.items a.sealed) c.stamp.ensures; capacity = refl }) ∙ ap (with_journal (sealed_as c.args.stamp c.args.worker)) shows

pub invariant_of-self : goal.invariant_of-self
invariant_of-self c =
    let shows = ap view_of c.deref_mut-contents.ensures.value ∙ c.self.view_is in
    let a = c.deref_mut-contents.result.now in
    let r = c.index_mut-record.result.now in
    let lt = some_closed a (ap (λ (l : LockView). is_some l.journal.closed) shows ∙ c.requires.closed) in
    let is = slice_get-get_or a.records.items a.sealed r lt ∙ ap Some (sym c.index_mut-record.ensures.value) in
    sealed_kept a _ c.run_after-contents.result c.args.stamp c.args.worker r (subst KeptLock (sym c.deref_mut-contents.ensures.value) c.self.invariant) (record { is = is; items = ap (set a.records.items a.sealed) c.stamp.ensures; capacity = refl })
    (subst (λ (l : LockView). MayFollow c.args.stamp c.args.worker l) (sym shows) c.requires.follows) (subst (λ (l : LockView). MayPass l) (sym shows) c.requires.passes)
    (c.run_after-contents.ensures ∙ ap (run_after a.number a.run) (c.block.ensures ∙ ap block_of c.stamp.ensures))
