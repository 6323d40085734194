-- Hexadecimal digits of fixed width.
use Rattle.std.specs.Prelude.{ℕ, ◌/◌, ◌%◌, ◌^◌, List, [], ◌∷◌, ◌++◌, false}
use Rattle.std.specs.Fmt.{digit_glyph}

-- a byte as two lower-case hexadecimal digits
abbrev pub hex2 : ℕ → List ℕ
hex2 n = digit_glyph false (n / 16) ∷ digit_glyph false (n % 16) ∷ []

-- a word as eight, from its highest byte on
unfoldable pub hex8 : ℕ → List ℕ
hex8 n = hex2 (n / 2 ^ 24 % 256) ++ (hex2 (n / 2 ^ 16 % 256) ++ (hex2 (n / 2 ^ 8 % 256) ++ hex2 (n % 256)))
