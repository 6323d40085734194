use Rattle.tc_segment.proofs.Vocabulary.{◌<◌, sym, ap, subst, ◌∙◌, arith, ◌≡◌, None, Contents, EndedAt, KeptLock, LockView, Registers, entry_room_in, lock_of, opened_at, view_of, with_journal}
use Rattle.tc_segment.proofs.Packing.{extends_same}
use Rattle.tc_segment.proofs.Opening.{OpensAt, not_opened, opened_view, opened_kept}
use Rattle.tc_segment.proofs.state.LockState.open_on.Goals as goal

-- the registers of the last entry stand where the next one's do, and nothing is noted
beside : (a : Contents) (start : Registers) → KeptLock a → (view_of a).journal.opened ≡ None → EndedAt start (view_of a).journal → OpensAt a start a.edges a.next.start
beside a start k none on = record { last = k.ends (not_opened a none) start on; more = extends_same a.edges.words; room = omega arith; behind = omega arith; few = omega arith }

pub returns : goal.returns
returns c =
    let shows = ap view_of c.deref_mut-contents.ensures.value ∙ c.self.view_is in
    let kept = subst KeptLock (sym c.deref_mut-contents.ensures.value) c.self.invariant in
    let a = c.deref_mut-contents.result.now in
    let none = ap (λ (l : LockView). l.journal.opened) shows ∙ c.requires.opened in
    opened_view a a.edges a.next.start c.args.fuel c.args.start.now kept none (beside a c.args.start.now kept none (subst (λ (l : LockView). EndedAt c.args.start.now l.journal) (sym shows) c.requires.on))
    ∙ ap (λ (l : LockView). with_journal (opened_at (lock_of l) c.args.start.now c.args.fuel) l) shows

pub invariant_of-self : goal.invariant_of-self
invariant_of-self c =
    let shows = ap view_of c.deref_mut-contents.ensures.value ∙ c.self.view_is in
    let kept = subst KeptLock (sym c.deref_mut-contents.ensures.value) c.self.invariant in
    let a = c.deref_mut-contents.result.now in
    let none = ap (λ (l : LockView). l.journal.opened) shows ∙ c.requires.opened in
    let room : 0 < entry_room_in a = subst (λ (l : LockView). 0 < l.journal.entry_room) (sym shows) c.requires.room in
    opened_kept a a.edges a.next.start c.args.fuel c.args.start.now kept none (ap (λ (l : LockView). l.journal.closed) shows ∙ c.requires.closed) room (beside a c.args.start.now kept none (subst (λ (l : LockView). EndedAt c.args.start.now l.journal) (sym shows) c.requires.on))
