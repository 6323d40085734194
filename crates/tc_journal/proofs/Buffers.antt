-- A line that is written from its end to its front.
use Rattle.std.proofs.Common.{◌≡◌, ℕ, ◌+◌, ◌<◌, ◌≤◌, ◌/◌, ◌%◌, ◌^◌, false, List, [], ◌∷◌, ◌++◌, length, drop, length-drop, ap, arith}
use Rattle.std.specs.Prelude.{IsUtf8}
use Rattle.std.specs.Fmt.{digit_glyph}
use Rattle.std.proofs.lemmas.Bool.Decides.{nat_tests}
use Rattle.std.proofs.lemmas.Str.{IsUtf8-had, IsUtf8-append, IsUtf8-from_ascii}
use Rattle.std.proofs.lemmas.Str.Ascii.{IsAscii-nil, IsAscii-cons}
use Rattle.tc_journal.specs.Digits.{hex2, hex8}
use Rattle.tc_journal.specs.declared.buffer.TheConstants.{ROOM}

-- where a line begins, by how long it is
pub start_of : (start : ℕ) (bytes line : List ℕ) → length bytes ≡ ROOM → start ≤ ROOM → drop start bytes ≡ line → start + length line ≡ ROOM
start_of start bytes line size low is = omega (arith, ap length is, length-drop start bytes)

-- text in front of text
pub text_in_front : (piece rest line : List ℕ) → IsUtf8 piece → ∥ IsUtf8 rest ∥₁ → line ≡ piece ++ rest → ∥ IsUtf8 line ∥₁
text_in_front piece rest line front behind is = ∣ rw is (IsUtf8-append piece rest front (IsUtf8-had rest behind)) ∣₁

glyph_small : (d : ℕ) → d < 16 → digit_glyph false d < 128
glyph_small d small = grind (arith, nat_tests)

pub IsUtf8-hex2 : (b : ℕ) → b < 256 → IsUtf8 (hex2 b)
IsUtf8-hex2 b small = IsUtf8-from_ascii (hex2 b)
    (IsAscii-cons _ (digit_glyph false (b % 16) ∷ []) (glyph_small (b / 16) (omega arith)) (IsAscii-cons _ [] (glyph_small (b % 16) (omega arith)) IsAscii-nil))

digits_utf8 : (b : ℕ) → IsUtf8 (hex2 (b % 256))
digits_utf8 b = IsUtf8-hex2 (b % 256) (omega arith)

pub IsUtf8-hex8 : (n : ℕ) → IsUtf8 (hex8 n)
unfolding hex8
IsUtf8-hex8 n =
    IsUtf8-append _ _ (digits_utf8 (n / 2 ^ 24)) (IsUtf8-append _ _ (digits_utf8 (n / 2 ^ 16)) (IsUtf8-append _ _ (digits_utf8 (n / 2 ^ 8)) (digits_utf8 n)))
