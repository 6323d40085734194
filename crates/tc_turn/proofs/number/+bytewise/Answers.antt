use Rattle.std.proofs.Common.{◌≡◌, ℕ, ◌+◌, ◌-◌, ◌*◌, ◌^◌, ◌<◌, ◌≤◌, ◌⊎◌, sym, subst, arith, inl, inr}
use Rattle.tc_turn.proofs.number.+bytewise.Goals as goal

wide : (width : ℕ) → 1 < width → width ≤ 4 → (width ≡ 2) ⊎ (width ≡ 3) ⊎ (width ≡ 4)
wide width low high = grind arith

-- a number of one byte less leaves room for one more
room : (width n : ℕ) → 1 < width → width ≤ 4 → n < 256 ^ (width - 1) → (256 * n + 256 ≤ 256 ^ width) × (256 ^ width ≤ 2 ^ 32)
room width n low high fits =
    let P : ℕ → Type 0 = λ w. n < 256 ^ (w - 1) → (256 * n + 256 ≤ 256 ^ w) × (256 ^ w ≤ 2 ^ 32) in
    elim (wide width low high) as (λ w. (256 * n + 256 ≤ 256 ^ width) × (256 ^ width ≤ 2 ^ 32)) [
      | inl e ↦ subst P (sym e) (λ b. (omega arith, omega arith)) fits
      | inr e ↦ elim e as (λ w. (256 * n + 256 ≤ 256 ^ width) × (256 ^ width ≤ 2 ^ 32)) [
        | inl e ↦ subst P (sym e) (λ b. (omega arith, omega arith)) fits
        | inr e ↦ subst P (sym e) (λ b. (omega arith, omega arith)) fits
      ]
    ]

pub overflow_mul-result : goal.overflow_mul-result
overflow_mul-result g t c =
    let r = room c.args.width c.bytewise.result (let a = c.if-width-eq0.false in let b = c.if-width-eq1.false in omega arith) c.requires.small c.bytewise.ensures.bound in
    omega (arith, r.0, r.1)

pub overflow_add-result : goal.overflow_add-result
overflow_add-result g t c =
    let r = room c.args.width c.bytewise.result (let a = c.if-width-eq0.false in let b = c.if-width-eq1.false in omega arith) c.requires.small c.bytewise.ensures.bound in
    omega (arith, r.0, r.1, c.from-low.ensures, c.at.type_inv)

pub returns-clause-bound : goal.returns-clause-bound
returns-clause-bound g t c =
    let r = room c.args.width c.bytewise.result (let a = c.if-width-eq0.false in let b = c.if-width-eq1.false in omega arith) c.requires.small c.bytewise.ensures.bound in
    omega (arith, r.0, c.from-low.ensures, c.at.type_inv)
