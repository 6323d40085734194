use Rattle.std.proofs.Common.{◌≡◌, ◌/◌, ◌%◌, ◌^◌, ◌++◌, ℕ, arith}
use Rattle.tc_journal.specs.Digits.{hex2, hex8}
use Rattle.tc_report.proofs.report.address_at.Goals as goal

-- the digits of a number are those of its lowest 32 bits
same_digits : (m n : ℕ) → m % 2 ^ 32 ≡ n % 2 ^ 32 → hex8 m ≡ hex8 n
unfolding hex8
same_digits m n e =
    let a : m / 2 ^ 24 % 256 ≡ n / 2 ^ 24 % 256 = omega (arith, e) in
    let b : m / 2 ^ 16 % 256 ≡ n / 2 ^ 16 % 256 = omega (arith, e) in
    let c : m / 2 ^ 8 % 256 ≡ n / 2 ^ 8 % 256 = omega (arith, e) in
    let d : m % 256 ≡ n % 256 = omega (arith, e) in
    (λ i. hex2 (a i) ++ (hex2 (b i) ++ (hex2 (c i) ++ hex2 (d i))))

pub returns : goal.returns
returns c = same_digits _ _ (omega arith)
