use Rattle.tc_context.proofs.Vocabulary.{[], ◌∷◌, ◌&&◌, ap, sym, LockView, has, noted, noted_in, when_in, with_journal, takes_word}
use Rattle.tc_context.proofs.LockList.{walked_on}
use Rattle.tc_context.proofs.locks.LockSet.note_each.Goals as goal

pub loop-lock-preserved : goal.loop-lock-preserved
loop-lock-preserved c =
    let n = c.in-Some.lock in
    let held = has c.args.held in
    let note : LockView → LockView = with_journal (noted (c.args.value ∷ [])) in
    let has_n = c.in-Some.ensures.value.0 in
    walked_on held (has c.loop-lock.left) (has c.less-left.result) (noted_in held c.args.want c.args.next c.args.value) (when_in (takes_word n c.args.want c.args.next) note) n c.args.self.now c.loop-lock.self c.note_one.new.self
    c.less-left.ensures.each has_n (ap (λ b. when_in (b && takes_word n c.args.want c.args.next) note) (sym (c.loop-lock.invariant.1 n has_n))) c.loop-lock.invariant c.note_one.ensures
