-- What the segments of a built file have of it.
use Rattle.std.proofs.Common.{◌≡◌, ℕ, ◌+◌, ◌-◌, ◌*◌, Bool, true, false, if◌then◌else◌, List, [], ◌∷◌, ◌++◌, length, drop, take, map, replicate, refl, ap, ◌∙◌, arith, nat_lt}
use Rattle.std.specs.List.{flat_map}
use Rattle.std.proofs.lemmas.List.{append-nil}
use Rattle.std.proofs.Math.Seq.{take-append_seam, drop-append_seam}
use Rattle.tc_elf.specs.declared.segment.Segment.{Segment}
use Rattle.tc_elf.specs.Shown.{Range}
use Rattle.tc_elf.specs.Elf.{range_of, ranges_of, is_writable, is_executable}
use Rattle.tc_build.specs.Build.{word_bytes}
use Rattle.tc_build.specs.Described.{described_ranges, code_range, data_range}
use Rattle.tc_build.proofs.Headers.{whole_segment}

-- what stands between what is before it and what is behind it
pub middle : (b xs ys zs : List ℕ) (i n : ℕ) → b ≡ xs ++ (ys ++ zs) → i ≡ length xs → n ≡ length ys → take n (drop i b) ≡ ys
middle b xs ys zs i n is at count =
    ap (λ b. take n (drop i b)) is ∙ (ap (λ i. take n (drop i (xs ++ (ys ++ zs)))) at
    ∙ (ap (λ t. take n t) (drop-append_seam xs (ys ++ zs)) ∙ (ap (λ n. take n (ys ++ zs)) count ∙ take-append_seam ys zs)))

filled : (b bytes : List ℕ) (kind offset address size flags : ℕ) → take size (drop offset b) ≡ bytes
    → range_of b (whole_segment kind offset address size flags) ≡ record { start = address; length = size; writable = is_writable (whole_segment kind offset address size flags); executable = is_executable (whole_segment kind offset address size flags); bytes = bytes }
filled b bytes kind offset address size flags is =
    let none : size - size ≡ 0 = omega arith in
    let same : take size (drop offset b) ++ replicate (size - size) 0 ≡ bytes = ap (λ n. take size (drop offset b) ++ replicate n 0) none ∙ (append-nil (take size (drop offset b)) ∙ is) in
    ap (λ (x : List ℕ). record { start = address; length = size; writable = is_writable (whole_segment kind offset address size flags); executable = is_executable (whole_segment kind offset address size flags); bytes = x }) same

two_kept : (x y : Bool) (f : Segment → Range) (s t : Segment) (q r : Range) → f s ≡ q → f t ≡ r
    → map f (if x then s ∷ (if y then t ∷ [] else []) else (if y then t ∷ [] else [])) ≡ (if x then q ∷ (if y then r ∷ [] else []) else (if y then r ∷ [] else []))
two_kept true true f s t q r e g = rw (e, g) refl
two_kept true false f s t q r e g = rw (e) refl
two_kept false true f s t q r e g = rw (g) refl
two_kept false false f s t q r e g = refl

pub ranges_are : (b code fill : List ℕ) (note : ℕ) → take (4 * length code) (drop (148 + note) b) ≡ flat_map word_bytes code → take (length fill) (drop (148 + note + 4 * length code) b) ≡ fill
    → ranges_of b (whole_segment 4 148 0 note 4 ∷ whole_segment 1 (148 + note) 0x00100000 (4 * length code) 5 ∷ whole_segment 1 (148 + note + 4 * length code) 0x00020000 (length fill) 6 ∷ []) ≡ described_ranges code fill
ranges_are b code fill note first second =
    let two : Segment = whole_segment 1 (148 + note) 0x00100000 (4 * length code) 5 in
    let three : Segment = whole_segment 1 (148 + note + 4 * length code) 0x00020000 (length fill) 6 in
    two_kept (nat_lt 0 (4 * length code)) (nat_lt 0 (length fill)) (range_of b) two three (code_range code) (data_range fill)
    (filled b (flat_map word_bytes code) 1 (148 + note) 0x00100000 (4 * length code) 5 first)
    (filled b fill 1 (148 + note + 4 * length code) 0x00020000 (length fill) 6 second)
