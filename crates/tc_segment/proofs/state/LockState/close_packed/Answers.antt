use Rattle.tc_segment.proofs.Vocabulary.{◌≡◌, Bool, true, false, ◌||◌, refl, sym, ap, subst, ◌∙◌, None, is_some, Block, ClosesWith, LockView, Registers, ends_thread, with_end}
use Rattle.tc_segment.proofs.state.LockState.close_packed.Goals as goal

-- what is broken is broken by the block's end
once : (a b : Bool) → (a || b) ≡ (a || (a || b))
once true b = refl
once false b = refl

closes_ended : (block : Block) (finish : Registers) (l : LockView) → ClosesWith block finish l → ClosesWith block finish (with_end block.end l)
closes_ended block finish l closes o is = (let c = closes o is in let same = once (ends_thread block.end) l.broken in record { replays = c.replays; lock = c.lock ∙ (λ i. record { bytes = l.bytes; broken = same i; sections = l.sections; owner = None }) })

pub close-requires : goal.close-requires
close-requires c =
    let broken = c.break_at.ensures in
    record {
      draft = c.of.ensures;
      opened = ap (λ (l : LockView). is_some l.journal.opened) broken ∙ c.requires.opened;
      ended = λ ends. ap (λ (l : LockView). l.broken) broken ∙ ap (λ b. b || c.args.self.now.broken) ends;
      closes = subst (λ (l : LockView). ClosesWith c.args.block.now c.args.end.now l) (sym broken) (closes_ended c.args.block.now c.args.end.now c.args.self.now c.requires.closes);
    }
