use Rattle.tc_segment.proofs.Vocabulary.{◌≡◌, ℕ, ◌+◌, ◌-◌, ◌^◌, ◌<◌, ◌≤◌, ◌∷◌, ◌++◌, List, length, take, drop, set, sym, ap, subst, ◌∙◌, arith, append-nil, length-drop, w32, slice_index, IsRegisters, Registers, bit_and, mask_of, packed, unusual, usual, length-set, get_or-drop}
use Rattle.std.specs.Int.{trailing_zeros}
use Rattle.std.proofs.lemmas.Nat.{and_le_r}
use Rattle.tc_segment.proofs.Packing.{mask_less, picked, picked_all, picked_none, FirstPicked, first_picked, next_fits, stored, two_front}
use Rattle.tc_segment.proofs.packed.pack.Goals as goal

-- the next number, where the mask has one
next : (words : List ℕ) (regs : Registers) (left : ℕ) → words ≡ regs.words → IsRegisters regs → 0 < left → left < 2 ^ 31 → FirstPicked 32 left (drop 1 words)
next words regs left is whole some less =
    let count : length (drop 1 words) ≡ 31 = omega (arith, length-drop 1 words, ap length is, whole.count) in
    first_picked (drop 1 words) 32 left some (subst (λ n. left < 2 ^ n) (sym count) less) (omega (arith, count))

pub loop-left-init : goal.loop-left-init
loop-left-init c =
    let words = c.words-words.ensures.value in
    let xs = drop 1 c.words-words.result.now in
    let mask = c.mask_of-mask.ensures in
    let count : length xs ≤ 31 = omega (arith, length-drop 1 c.words-words.result.now, ap length words, c.words-words.ensures.kept.count) in
    record {
      room = omega arith;
      buffer = length-set (set c.args.buffer.now 0 c.pc.result) 1 c.mask_of-mask.result ∙ length-set c.args.buffer.now 0 c.pc.result ∙ c.told-buffer;
      mask = (let less = mask_less usual xs 31 count in omega (arith, less, mask));
      kept = (λ i. two_front c.args.buffer.now c.pc.result c.mask_of-mask.result (omega (arith, c.told-buffer)) i ++ (ap (λ m. picked m xs) mask ∙ picked_all usual xs) i)
          ∙ (λ i. c.pc.ensures.value i ∷ (mask ∙ ap (λ ws. mask_of usual (drop 1 ws)) words) i ∷ unusual usual (drop 1 (words i)));
    }

pub bounds-words-number : goal.bounds-words-number
bounds-words-number c =
    let words = c.words-words.result.now in
    let there = (next words c.args.regs.now c.loop-left.left c.words-words.ensures.value c.words-words.ensures.kept (omega (arith, c.loop-left-test.true)) c.loop-left.invariant.mask).there in
    omega (arith, there, length-drop 1 words, ap length c.words-words.ensures.value, c.words-words.ensures.kept.count)

pub bounds-buffer-end : goal.bounds-buffer-end
bounds-buffer-end c =
    let l = c.loop-left in
    let n = next c.words-words.result.now c.args.regs.now l.left c.words-words.ensures.value c.words-words.ensures.kept (omega (arith, c.loop-left-test.true)) l.invariant.mask in
    next_fits l.buffer _ l.end _ c.args.regs.now c.words-words.ensures.kept l.invariant.buffer l.invariant.room (sym (ap (λ xs. take l.end l.buffer ++ xs) n.is) ∙ l.invariant.kept)

pub loop-left-preserved : goal.loop-left-preserved
loop-left-preserved c =
    let l = c.loop-left in
    let words = c.words-words.result.now in
    let z = trailing_zeros w32 l.left in
    let rest = bit_and l.left (l.left - 1) in
    let value : slice_index (drop 1 words) z ≡ slice_index words (z + 1) = get_or-drop 1 words z 0 ∙ ap (slice_index words) (let e : 1 + z ≡ z + 1 = omega arith in e) in
    let kept = sym (λ i. take l.end l.buffer ++ ((next words c.args.regs.now l.left c.words-words.ensures.value c.words-words.ensures.kept (omega (arith, c.loop-left-test.true)) l.invariant.mask).is ∙ (λ j. value j ∷ picked rest (drop 1 words))) i) ∙ l.invariant.kept in
    let fits = next_fits l.buffer _ l.end _ c.args.regs.now c.words-words.ensures.kept l.invariant.buffer l.invariant.room kept in
    record {
      room = omega (arith, fits);
      buffer = length-set l.buffer l.end (slice_index words (z + 1)) ∙ l.invariant.buffer;
      mask = (let less = and_le_r l.left (l.left - 1) in let h = l.invariant.mask in omega (arith, less, h));
      kept = stored l.buffer l.end (slice_index words (z + 1)) (picked rest (drop 1 words)) (packed c.args.regs.now) (omega (arith, fits, l.invariant.buffer)) kept;
    }

pub returns : goal.returns
returns c =
    let l = c.loop-left in
    let xs = drop 1 c.words-words.result.now in
    record {
      few = l.invariant.room;
      is = sym (append-nil (take l.end l.buffer)) ∙ (λ i. take l.end l.buffer ++ sym (ap (λ m. picked m xs) c.loop-left-test.false ∙ picked_none xs) i) ∙ l.invariant.kept;
      whole = c.words-words.ensures.kept;
    }
