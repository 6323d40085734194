-- Words that are read back from the bytes that were put.
use Rattle.std.proofs.Common.{◌≡◌, ℕ, zero, suc, ◌*◌, ◌^◌, ◌<◌, ◌≤◌, List, [], ◌∷◌, ◌++◌, length, drop, refl, ap, ◌∙◌, arith}
use Rattle.std.specs.List.{flat_map}
use Rattle.byteorder.specs.Endian.{little_number}
use Rattle.byteorder.specs.Numbers.{little_number-reads_back}
use Rattle.tc_elf.specs.Elf.{word_at}
use Rattle.tc_build.specs.Build.{word_bytes}

-- the word at a place where the rest of the file begins with its bytes
pub word_here : (b : List ℕ) (at w : ℕ) (rest : List ℕ) → drop at b ≡ word_bytes w ++ rest → w < 2 ^ 32 → word_at b at ≡ w
word_here b at w rest begins small = ap (λ x. little_number 4 x) begins ∙ little_number-reads_back 4 w rest small

pub length-words : (ws : List ℕ) → length (flat_map word_bytes ws) ≡ 4 * length ws
length-words [] = refl
length-words (w ∷ ws) = let more = length-words ws in omega arith

pub drop-words : (k : ℕ) (ws rest : List ℕ) → k ≤ length ws → drop (4 * k) (flat_map word_bytes ws ++ rest) ≡ flat_map word_bytes (drop k ws) ++ rest
drop-words zero ws rest below = refl
drop-words (suc k) [] rest below = absurd (omega arith)
drop-words (suc k) (w ∷ ws) rest below =
    let four : 4 * suc k ≡ suc (suc (suc (suc (4 * k)))) = omega arith in
    ap (λ n. drop n (flat_map word_bytes (w ∷ ws) ++ rest)) four ∙ drop-words k ws rest (omega arith)
