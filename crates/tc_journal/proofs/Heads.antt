-- The last two digits of a stamp, and what is in front of them.
use Rattle.std.proofs.Common.{◌≡◌, ℕ, ◌+◌, ◌-◌, ◌*◌, ◌/◌, ◌%◌, ◌^◌, ◌<◌, ◌≤◌, ◌==◌, ◌&&◌, List, [], ◌∷◌, ◌++◌, length, drop, slice_index, refl, ap, sym, ◌∙◌, append_assoc, arith}
use Rattle.std.specs.Prelude.{IsUtf8, codes, decimal}
use Rattle.std.proofs.lemmas.Bool.{and_parts, eqb-true}
use Rattle.std.proofs.lemmas.Fmt.{IsAscii-decimal, length-decimal-le}
use Rattle.std.proofs.lemmas.List.{drop-drop, drop-append-le}
use Rattle.std.proofs.lemmas.Str.{IsUtf8-append, IsUtf8-from_ascii}
use Rattle.std.proofs.lemmas.Str.Ascii.{IsAscii-nil, IsAscii-cons}
use Rattle.itoa.proofs.Decimal.{decimal_pair}
use Rattle.tc_journal.proofs.HexWord.{passes}
use Rattle.tc_journal.specs.declared.buffer.TheConstants.{DECIMALS}

-- the digits of a number below 100 are those of the table
pub two_digits : (n : ℕ) → n < 100 → (slice_index DECIMALS (n * 2) ≡ 48 + n / 10) × (slice_index DECIMALS (n * 2 + 1) ≡ 48 + n % 10)
two_digits n small =
    let both = and_parts _ _ (passes (λ k. (slice_index DECIMALS (k * 2) == 48 + k / 10) && (slice_index DECIMALS (k * 2 + 1) == 48 + k % 10)) 100 n refl small) in
    (eqb-true _ _ both.0, eqb-true _ _ both.1)

-- they are text
pub IsUtf8-pair : (n : ℕ) → n < 100 → IsUtf8 ((48 + n / 10) ∷ (48 + n % 10) ∷ [])
IsUtf8-pair n small = IsUtf8-from_ascii _ (IsAscii-cons _ ((48 + n % 10) ∷ []) (omega arith) (IsAscii-cons _ [] (omega arith) IsAscii-nil))

pub IsUtf8-head : (n : ℕ) → n < 2 ^ 64 → IsUtf8 (codes "block " ++ decimal n)
unfolding lib.Utf8.encode
IsUtf8-head n small = IsUtf8-append (codes "block ") (decimal n) (codes "block ", (refl, refl)) (IsUtf8-from_ascii (decimal n) (IsAscii-decimal n small))

-- what a row has from an index on is in front of a line
pub row_in_front : (row bytes new : List ℕ) (start at from : ℕ) → drop at new ≡ row ++ drop (at + length row) bytes → at + length row ≡ start → from ≤ length row
    → drop (at + from) new ≡ drop from row ++ drop start bytes
row_in_front row bytes new start at from written whole within =
    sym (drop-drop from at new) ∙ ap (drop from) (written ∙ ap (λ k. row ++ drop k bytes) whole) ∙ drop-append-le from row (drop start bytes) within

-- the digits in front of the last two, where a head is kept
pub short_front : (stamp : ℕ) → stamp < 10 ^ 12 → length (decimal (stamp / 100)) ≤ 10
short_front stamp small = length-decimal-le 10 (stamp / 100) (omega arith) (omega arith) (omega arith)

-- a stamp in two parts
pub parts : (first stamp : ℕ) (line : List ℕ) → first % 100 ≡ 0 → 100 ≤ first → first ≤ stamp → stamp < first + 100 → stamp < 2 ^ 64
    → (codes "block " ++ decimal (first / 100)) ++ ((48 + (stamp - first) / 10) ∷ (48 + (stamp - first) % 10) ∷ line) ≡ codes "block " ++ (decimal stamp ++ line)
parts first stamp line whole some low high small =
    let front : stamp / 100 ≡ first / 100 = omega arith in
    let back : stamp % 100 ≡ stamp - first = omega arith in
    rw (decimal_pair stamp (omega arith) small, front, back) (simp append_assoc)
