-- The header and the program headers of a built file.
use Rattle.std.proofs.Common.{◌≡◌, ℕ, ◌+◌, ◌^◌, ◌<◌, false, List, [], ◌∷◌, ◌++◌, length, drop, refl, ap, ◌∙◌, arith, nat_lt, None}
use Rattle.std.specs.List.{flat_map}
use Rattle.std.proofs.lemmas.Bool.{le-ltb}
use Rattle.tc_elf.specs.declared.segment.Segment.{Segment}
use Rattle.tc_elf.specs.Elf.{word_at, segments, segment_at}
use Rattle.tc_elf.specs.Refusals.{header_refusal}
use Rattle.tc_build.specs.Build.{word_bytes, header_words, segments_words}
use Rattle.tc_build.proofs.Reading.{word_here}

-- the header and the program headers, and what stands behind them
abbrev pub front : ℕ → ℕ → ℕ → ℕ → List ℕ
front entry note code fill = flat_map word_bytes (header_words entry) ++ flat_map word_bytes (segments_words note code fill)

pub header_sound : (entry note code fill : ℕ) (rest : List ℕ) → header_refusal (front entry note code fill ++ rest) ≡ None
header_sound entry note code fill rest =
    let b : List ℕ = front entry note code fill ++ rest in
    let short : nat_lt (length b) 52 ≡ false = le-ltb (length b) 52 (omega arith) in
    let past : nat_lt (length b) 148 ≡ false = le-ltb (length b) 148 (omega arith) in
    rw (short, past) refl

-- a segment that is as long in memory as in the file
abbrev pub whole_segment : ℕ → ℕ → ℕ → ℕ → ℕ → Segment
whole_segment kind offset address size flags = record { kind = kind; offset = offset; address = address; file_size = size; memory_size = size; flags = flags }

same_segment : (b : List ℕ) (at kind offset address size flags : ℕ) → word_at b at ≡ kind → word_at b (at + 4) ≡ offset → word_at b (at + 8) ≡ address → word_at b (at + 16) ≡ size → word_at b (at + 20) ≡ size → word_at b (at + 24) ≡ flags → segment_at b at ≡ whole_segment kind offset address size flags
same_segment b at kind offset address size flags k o a f m p = rw (k, o, a, f, m, p) refl

pub segments_are : (entry note code fill : ℕ) (rest : List ℕ) → 148 + note + code < 2 ^ 32 → fill < 2 ^ 32
    → segments (front entry note code fill ++ rest) ≡ whole_segment 4 148 0 note 4 ∷ whole_segment 1 (148 + note) 0x00100000 code 5 ∷ whole_segment 1 (148 + note + code) 0x00020000 fill 6 ∷ []
segments_are entry note code fill rest small few =
    let b : List ℕ = front entry note code fill ++ rest in
    let here : (at w : ℕ) → drop at b ≡ word_bytes w ++ drop 4 (drop at b) → w < 2 ^ 32 → word_at b at ≡ w = λ at w. word_here b at w (drop 4 (drop at b)) in
    let one = same_segment b 52 4 148 0 note 4 refl refl refl (here 68 note refl (omega arith)) (here 72 note refl (omega arith)) refl in
    let two = same_segment b 84 1 (148 + note) 0x00100000 code 5 refl (here 88 (148 + note) refl (omega arith)) refl (here 100 code refl (omega arith)) (here 104 code refl (omega arith)) refl in
    let three = same_segment b 116 1 (148 + note + code) 0x00020000 fill 6 refl (here 120 (148 + note + code) refl (omega arith)) refl (here 132 fill refl (omega arith)) (here 136 fill refl (omega arith)) refl in
    ap (λ (s : Segment). s ∷ segment_at b 84 ∷ segment_at b 116 ∷ []) one
    ∙ (ap (λ (s : Segment). whole_segment 4 148 0 note 4 ∷ s ∷ segment_at b 116 ∷ []) two
    ∙ ap (λ (s : Segment). whole_segment 4 148 0 note 4 ∷ whole_segment 1 (148 + note) 0x00100000 code 5 ∷ s ∷ []) three)
