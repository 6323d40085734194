use Rattle.tc_segment.proofs.Vocabulary.{◌+◌, ◌<◌, ◌++◌, ◌/◌, length, take, drop, set, ap, ◌∙◌, arith, Registers, slice_index, spread, with_register, length-set, regs_at, usual}
use Rattle.tc_segment.proofs.Packing.{became, leave_next, put_next, put_words}
use Rattle.tc_segment.proofs.packed.unpack.Goals as goal
use Rattle.tc_segment.proofs.packed.unpack.Goals.{then-mask-eq1, else-mask-eq1}

pub loop-number-init : goal.loop-number-init
unfolding regs_at usual
loop-number-init c =
    let put = c.put.ensures ∙ (λ i. with_register (c.start-regs.ensures i) (c.of.ensures i) 1) in
    let words = ap (λ (r : Registers). r.words) put in
    record {
      reach = omega arith;
      count = ap length words;
      pc = ap (λ (r : Registers). r.pc) put ∙ c.word_at.ensures;
      words = λ i. take 1 (words i) ++ spread (drop 1 (words i)) (c.word_at-mask.ensures i) (drop (c.args.place + 2) c.args.words.now);
    }

pub loop-number-preserved : goal.loop-number-preserved
loop-number-preserved c =
    let l = c.loop-number in
    let ws = l.regs.words in
    let n = l.number in
    let xs = c.args.words.now in
    let all = (regs_at xs c.args.place).words in
    let there : n < length ws = omega (arith, c.loop-number-test.true, l.invariant.count) in
    let h = l.invariant.reach in
    (elim c.if-mask-eq1.branch [
      | then-mask-eq1 w ↦
          let value = slice_index xs l.at in
          let put = w.regs-is ∙ w.put-then-mask-eq1.ensures ∙ ap (λ x. with_register l.regs x w.word_at-then-mask-eq1.result) w.of-then-mask-eq1.ensures ∙ put_words l.regs n w.word_at-then-mask-eq1.result (omega (arith, l.auto.number)) ∙ ap (λ v. record { pc = l.regs.pc; words = set ws n v }) w.word_at-then-mask-eq1.ensures in
          let words = ap (λ (r : Registers). r.words) put in
          record {
            reach = omega (arith, h, w.at-is);
            count = ap length words ∙ length-set ws n value ∙ l.invariant.count;
            pc = ap (λ (r : Registers). r.pc) put ∙ l.invariant.pc;
            words = (λ i. take (n + 1) (words i) ++ spread (drop (n + 1) (words i)) (l.mask / 2) (drop (w.at-is i) xs)) ∙ put_next ws n l.mask l.at xs all there w.if-mask-eq1.true l.invariant.words;
          }
      | else-mask-eq1 w ↦ record {
        reach = omega (arith, h, w.at-is);
        count = ap (λ (r : Registers). length r.words) w.regs-is ∙ l.invariant.count;
        pc = ap (λ (r : Registers). r.pc) w.regs-is ∙ l.invariant.pc;
        words = (λ i. take (n + 1) (w.regs-is i).words ++ spread (drop (n + 1) (w.regs-is i).words) (l.mask / 2) (drop (w.at-is i) xs)) ∙ leave_next ws n l.mask (drop l.at xs) all there w.if-mask-eq1.false l.invariant.words;
      }
    ])

pub returns : goal.returns
returns c =
    let l = c.loop-number in
    λ i. record { pc = l.invariant.pc i; words = (became l.regs.words l.number l.mask (drop l.at c.args.words.now) _ (omega (arith, c.loop-number-test.false, l.invariant.count)) l.invariant.words) i }
