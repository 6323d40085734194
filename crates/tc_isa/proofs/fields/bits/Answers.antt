use Rattle.std.proofs.Common.{◌≡◌, ℕ, ◌+◌, ◌-◌, ◌^◌, ◌/◌, ◌<◌, ◌≤◌, bit_and, ap, ◌∙◌, subst, sym, arith}
use Rattle.std.proofs.lemmas.Nat.{and_mask, mod_below, pow_pos}
use Rattle.std.proofs.lemmas.Nat.Bits.{ones_shr}
use Rattle.tc_isa.proofs.fields.bits.Goals as goal

-- the mask of the code has as many ones as the field has bits
mask_is : (high low : ℕ) → low ≤ high → high < 32 → 4294967295 / 2 ^ (31 - (high - low)) ≡ 2 ^ (high + 1 - low) - 1
mask_is high low a b =
    let ones : 4294967295 / 2 ^ (31 - (high - low)) ≡ 2 ^ (32 - (31 - (high - low))) - 1 = ones_shr 32 (31 - (high - low)) (omega arith) in
    let count : 32 - (31 - (high - low)) ≡ high + 1 - low = omega arith in
    ones ∙ ap (λ k. 2 ^ k - 1) count

pub returns-clause-value : goal.returns-clause-value
returns-clause-value c =
    ap (bit_and (c.args.word / 2 ^ c.args.low)) (mask_is c.args.high c.args.low c.requires.low c.requires.high)
    ∙ and_mask (c.args.word / 2 ^ c.args.low) (c.args.high + 1 - c.args.low)

pub returns-clause-bound : goal.returns-clause-bound
returns-clause-bound c =
    let value = ap (bit_and (c.args.word / 2 ^ c.args.low)) (mask_is c.args.high c.args.low c.requires.low c.requires.high)
    ∙ and_mask (c.args.word / 2 ^ c.args.low) (c.args.high + 1 - c.args.low) in
    let P : ℕ → Type 0 = λ n. n < 2 ^ (c.args.high + 1 - c.args.low) in
    subst P (sym value) (mod_below _ _ (pow_pos _))
