use Rattle.tc_segment.proofs.Vocabulary.{◌<◌, sym, ap, subst, ◌∙◌, KeptLock, LockView, entry_room_in, lock_of, opened_at, view_of, with_journal}
use Rattle.tc_segment.proofs.Opening.{opens_noted, opened_view, opened_kept}
use Rattle.tc_segment.proofs.state.LockState.open_packed.Goals as goal

pub returns : goal.returns
returns c =
    let shows = ap view_of c.deref_mut-contents.ensures.value ∙ c.self.view_is in
    let a = c.deref_mut-contents.result.now in
    let k = subst KeptLock (sym c.deref_mut-contents.ensures.value) c.self.invariant in
    opened_view a _ _ c.args.fuel c.args.start.now k (ap (λ (l : LockView). l.journal.opened) shows ∙ c.requires.opened) (opens_noted a _ _ _ k c.note-contents.ensures)
    ∙ ap (λ (l : LockView). with_journal (opened_at (lock_of l) c.args.start.now c.args.fuel) l) shows

pub invariant_of-self : goal.invariant_of-self
invariant_of-self c =
    let shows = ap view_of c.deref_mut-contents.ensures.value ∙ c.self.view_is in
    let a = c.deref_mut-contents.result.now in
    let k = subst KeptLock (sym c.deref_mut-contents.ensures.value) c.self.invariant in
    let room : 0 < entry_room_in a = subst (λ (l : LockView). 0 < l.journal.entry_room) (sym shows) c.requires.room in
    opened_kept a _ _ c.args.fuel c.args.start.now k (ap (λ (l : LockView). l.journal.opened) shows ∙ c.requires.opened) (ap (λ (l : LockView). l.journal.closed) shows ∙ c.requires.closed) room (opens_noted a _ _ _ k c.note-contents.ensures)
