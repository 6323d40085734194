-- Hexadecimal digits, read back.
use Rattle.std.proofs.Common.{◌≡◌, ℕ, zero, suc, ◌+◌, ◌*◌, ◌/◌, ◌%◌, ◌^◌, ◌<◌, ◌==◌, Bool, true, false, not, ◌&&◌, inl, inr, List, [], ◌∷◌, ◌++◌, slice_index, Ok, w32, refl, ap, ◌∙◌, arith}
use Rattle.std.specs.Fmt.{digit_glyph}
use Rattle.std.specs.Int.{from_be_bytes}
use Rattle.std.proofs.lemmas.Bool.{and_parts, cases_lt, eqb-true}
use Rattle.std.proofs.lemmas.Bool.Decides.{nat_tests}
use Rattle.hex.specs.Hex.{IsBytes, lower_digits, encode_with, decode_pairs, decode_sized}
use Rattle.hex.proofs.HexLemmas.{IsDigits-lower_digits, decode_pairs-encode_with}
use Rattle.tc_journal.proofs.Words.{lacks}
use Rattle.tc_journal.specs.Digits.{hex2, hex8}
use Rattle.tc_journal.specs.declared.buffer.TheConstants.{PAIRS}

-- each number below n passes the test
abbrev pub all_pass : (ℕ → Bool) → ℕ → Bool
all_pass p zero = true
all_pass p (suc n) = p n && all_pass p n

pub passes : (p : ℕ → Bool) (n k : ℕ) → all_pass p n ≡ true → k < n → p k ≡ true
passes p zero k all lt = absurd (omega arith)
passes p (suc n) k all lt =
    let parts = and_parts (p n) (all_pass p n) all in
    elim (cases_lt k n) as (λ w. p k ≡ true) [
      | inl below ↦ passes p n k parts.1 below
      | inr top ↦ (let e : k ≡ n = omega arith in rw e parts.0)
    ]

-- a digit is that of the table
pub glyph : (d : ℕ) → d < 16 → digit_glyph false d ≡ slice_index lower_digits d
glyph d small = eqb-true _ _ (passes (λ k. digit_glyph false k == slice_index lower_digits k) 16 d refl small)

-- the digits of a byte are those of the table of pairs
pub pair : (b : ℕ) → b < 256 → (slice_index PAIRS (b * 2) ≡ digit_glyph false (b / 16)) × (slice_index PAIRS (b * 2 + 1) ≡ digit_glyph false (b % 16))
pair b small =
    let both = and_parts _ _ (passes (λ k. (slice_index PAIRS (k * 2) == digit_glyph false (k / 16)) && (slice_index PAIRS (k * 2 + 1) == digit_glyph false (k % 16))) 256 b refl small) in
    (eqb-true _ _ both.0, eqb-true _ _ both.1)

-- the bytes of a word, the highest first
abbrev pub bytes : ℕ → List ℕ
bytes n = n / 2 ^ 24 % 256 ∷ n / 2 ^ 16 % 256 ∷ n / 2 ^ 8 % 256 ∷ n % 256 ∷ []

two : (b : ℕ) (more : List ℕ) → b < 256 → hex2 b ++ encode_with lower_digits more ≡ encode_with lower_digits (b ∷ more)
unfolding encode_with
two b more small = ap (λ x. x ∷ digit_glyph false (b % 16) ∷ encode_with lower_digits more) (glyph (b / 16) (omega arith)) ∙ ap (λ x. slice_index lower_digits (b / 16) ∷ x ∷ encode_with lower_digits more) (glyph (b % 16) (omega arith))

encoded : (n : ℕ) → hex8 n ≡ encode_with lower_digits (bytes n)
unfolding hex8 encode_with
encoded n =
    ap (λ t. hex2 (n / 2 ^ 24 % 256) ++ (hex2 (n / 2 ^ 16 % 256) ++ (hex2 (n / 2 ^ 8 % 256) ++ t))) (two (n % 256) [] (omega arith))
    ∙ ap (λ t. hex2 (n / 2 ^ 24 % 256) ++ (hex2 (n / 2 ^ 16 % 256) ++ t)) (two (n / 2 ^ 8 % 256) (n % 256 ∷ []) (omega arith))
    ∙ ap (λ t. hex2 (n / 2 ^ 24 % 256) ++ t) (two (n / 2 ^ 16 % 256) (n / 2 ^ 8 % 256 ∷ n % 256 ∷ []) (omega arith))
    ∙ two (n / 2 ^ 24 % 256) (n / 2 ^ 16 % 256 ∷ n / 2 ^ 8 % 256 ∷ n % 256 ∷ []) (omega arith)

are_bytes : (n : ℕ) → IsBytes (bytes n)
are_bytes n zero = omega arith
are_bytes n (suc zero) = omega arith
are_bytes n (suc (suc zero)) = omega arith
are_bytes n (suc (suc (suc zero))) = omega arith
are_bytes n (suc (suc (suc (suc k)))) = omega arith

pub decoded : (n : ℕ) → decode_sized (hex8 n) 4 ≡ Ok (bytes n)
unfolding hex8
decoded n = ap (decode_pairs 0) (encoded n) ∙ decode_pairs-encode_with lower_digits IsDigits-lower_digits 0 (bytes n) (are_bytes n)

pub word_of_bytes : (n : ℕ) → n < 2 ^ 32 → from_be_bytes w32 (bytes n) ≡ n
word_of_bytes n small = omega arith

-- no digit is a space
digit_lacks : (d : ℕ) → (digit_glyph false d == 32) ≡ false
digit_lacks d = grind (arith, nat_tests)

two_lack : (b : ℕ) (more : List ℕ) → lacks 32 more ≡ true → lacks 32 (hex2 b ++ more) ≡ true
two_lack b more h = ap (λ x. not x && lacks 32 (digit_glyph false (b % 16) ∷ more)) (digit_lacks (b / 16)) ∙ ap (λ x. not x && lacks 32 more) (digit_lacks (b % 16)) ∙ h

pub lacks-hex8 : (n : ℕ) → lacks 32 (hex8 n) ≡ true
unfolding hex8
lacks-hex8 n =
    let low : List ℕ = hex2 (n % 256) in
    let third : List ℕ = hex2 (n / 2 ^ 8 % 256) ++ low in
    let second : List ℕ = hex2 (n / 2 ^ 16 % 256) ++ third in
    two_lack (n / 2 ^ 24 % 256) second (two_lack (n / 2 ^ 16 % 256) third (two_lack (n / 2 ^ 8 % 256) low (two_lack (n % 256) [] refl)))
