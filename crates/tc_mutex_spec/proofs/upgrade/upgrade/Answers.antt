use Rattle.std.proofs.Common.{◌≡◌, ◌+◌, ◌∷◌, ◌++◌, [], List, ℕ, Some, drop, is_some, replicate, sym, ap, subst, ◌∙◌, append_assoc, arith}
use Rattle.std.specs.Prelude.{option_and_then}
use Rattle.std.proofs.lemmas.Grind.{common_steps}
use Rattle.std.proofs.lemmas.List.{drop_more}
use Rattle.tc_elf.specs.Shown.{Shown}
use Rattle.tc_journal.specs.History.{schedule_v1}
use Rattle.tc_journal.specs.Told.{with_pc}
use Rattle.tc_journal.specs.declared.block.BlockV1.{BlockV1}
use Rattle.tc_mutex_spec.specs.Blocks.{with_pcs, reach}
use Rattle.tc_mutex_spec.specs.Machine.{State, turns, run_from}
use Rattle.tc_mutex_spec.specs.Slow.{state_of, LeadsTo}
use Rattle.tc_mutex_spec.proofs.Folding.{turns-led}
use Rattle.tc_mutex_spec.proofs.upgrade.upgrade.Goals as goal

-- one block more of a run
ran_on : (image : Shown) (m n : State) (b : BlockV1) (left : List BlockV1) → turns image m (replicate b.turns b.thread) ≡ Some n → run_from image m (schedule_v1 (b ∷ left)) ≡ run_from image n (schedule_v1 left)
ran_on image m n b left ran = ap (option_and_then (λ x. run_from image x (schedule_v1 left))) ran

pcs_on : (image : Shown) (m n : State) (b : BlockV1) (left : List BlockV1) (pc : ℕ) → turns image m (replicate b.turns b.thread) ≡ Some n → pc ≡ (m.threads b.thread).regs.pc → with_pcs image m (b ∷ left) ≡ with_pc b pc ∷ with_pcs image n left
pcs_on image m n b left pc ran is = ap (λ x. with_pc b x ∷ with_pcs image (reach image m b.thread b.turns) left) (sym is) ∙ ap (λ x. with_pc b pc ∷ with_pcs image x left) (sym (turns-led image m n b.thread b.turns ran))

pub loop-block-preserved : goal.loop-block-preserved
loop-block-preserved c =
    let image = c.args.image.now in
    let old = c.args.old.now in
    let at = c.loop-block in
    let b = c.block-item.result in
    let left = drop (at.block-index + 1) old in
    let m = state_of at.slow in
    let n = state_of c.take_block.new.slow in
    let cut : drop at.block-index old ≡ b ∷ left = drop_more old at.block-index b c.loop-block-test.true ∙ ap (λ x. x ∷ left) (sym c.block-item.is) in
    let led : LeadsTo (turns image m (replicate b.turns b.thread)) (is_some c.take_block.result) c.take_block.new.slow = c.take_block.ensures.ran in
    let ran : turns image m (replicate b.turns b.thread) ≡ Some n = subst (λ o. LeadsTo (turns image m (replicate b.turns b.thread)) (is_some o) c.take_block.new.slow) c.in-Some.is led in
    let items : c.push.new.self.items ≡ at.blocks.items ++ with_pc b c.in-Some.pc ∷ [] = grind (arith, common_steps) in
    record {
      ran = sym (ran_on image m n b left ran) ∙ ap (λ x. run_from image m (schedule_v1 x)) (sym cut) ∙ at.invariant.ran;
      pcs = ap (λ x. x ++ with_pcs image n left) items ∙ append_assoc at.blocks.items (with_pc b c.in-Some.pc ∷ []) (with_pcs image n left)
          ∙ ap (λ x. at.blocks.items ++ x) (sym (pcs_on image m n b left c.in-Some.pc ran c.in-Some.ensures.pc) ∙ ap (with_pcs image m) (sym cut))
          ∙ at.invariant.pcs;
      suits = c.take_block.ensures.suits;
    }
