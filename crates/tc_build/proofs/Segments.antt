-- Nothing refuses the segments of a built file, and its ranges are those that were described.
use Rattle.std.proofs.Common.{◌≡◌, ℕ, ◌+◌, ◌*◌, ◌^◌, ◌≤◌, Bool, true, false, if◌then◌else◌, ◌||◌, ◌&&◌, List, [], ◌∷◌, length, refl, arith, nat_lt, None, Some}
use Rattle.std.specs.Prelude.{sum_by}
use Rattle.std.specs.List.{list_any}
use Rattle.std.proofs.lemmas.Bool.{le-ltb, or_from, and_right, and_left}
use Rattle.tc_elf.specs.declared.limits.TheConstants.{MAX_MEMORY}
use Rattle.tc_elf.specs.declared.refusal.Refusal.TheVariants as refused
use Rattle.tc_elf.specs.declared.segment.Segment.{Segment}
use Rattle.tc_elf.specs.Elf.{is_range}
use Rattle.tc_elf.specs.Refusals.{segment_refusal, is_dynamic, is_bad_load, load_size, shares, is_on_stack, is_writable_code, any_pair}
use Rattle.tc_build.specs.declared.build.TheConstants.{MAX_CODE_WORDS, MAX_FILL}
use Rattle.tc_build.proofs.Headers.{whole_segment}

-- none of four reasons holds
none_holds : (a b c d : Bool) → a ≡ false → b ≡ false → c ≡ false → d ≡ false
    → (if a then Some refused.Dynamic else if b then Some refused.BadLoad else if c then Some refused.Overlap else if d then Some refused.WritableCode else None) ≡ None
none_holds a b c d e f g h = rw (e, f, g, h) refl

fits_well : (b : List ℕ) (offset address size flags : ℕ) → offset + size ≤ length b → address + size ≤ 2 ^ 32 → is_bad_load b (whole_segment 1 offset address size flags) ≡ false
fits_well b offset address size flags inside low =
    or_from (nat_lt size size || nat_lt (length b) (offset + size)) (nat_lt (2 ^ 32) (address + size))
    (or_from (nat_lt size size) (nat_lt (length b) (offset + size)) (le-ltb size size (omega arith)) (le-ltb (length b) (offset + size) inside))
    (le-ltb (2 ^ 32) (address + size) low)

off_stack : (offset address size flags : ℕ) → address + size ≤ 0x7fffc000 → is_on_stack (whole_segment 1 offset address size flags) ≡ false
off_stack offset address size flags low =
    and_right (is_range (whole_segment 1 offset address size flags)) _ (and_right (nat_lt address (0x7fffc000 + 0x4000)) (nat_lt 0x7fffc000 (address + size)) (le-ltb 0x7fffc000 (address + size) low))

pub segments_sound : (b : List ℕ) (note code fill : ℕ) → 148 + note + code + fill ≤ length b → code ≤ 4 * MAX_CODE_WORDS → fill ≤ MAX_FILL
    → segment_refusal b (whole_segment 4 148 0 note 4 ∷ whole_segment 1 (148 + note) 0x00100000 code 5 ∷ whole_segment 1 (148 + note + code) 0x00020000 fill 6 ∷ []) ≡ None
segments_sound b note code fill whole few little =
    let one : Segment = whole_segment 4 148 0 note 4 in
    let two : Segment = whole_segment 1 (148 + note) 0x00100000 code 5 in
    let three : Segment = whole_segment 1 (148 + note + code) 0x00020000 fill 6 in
    let ss : List Segment = one ∷ two ∷ three ∷ [] in
    let loads : list_any (is_bad_load b) ss ≡ false =
    or_from (is_bad_load b two) (is_bad_load b three || false) (fits_well b (148 + note) 0x00100000 code 5 (omega arith) (omega arith))
    (or_from (is_bad_load b three) false (fits_well b (148 + note + code) 0x00020000 fill 6 (omega arith) (omega arith)) refl) in
    let sum : nat_lt MAX_MEMORY (sum_by load_size ss) ≡ false = le-ltb MAX_MEMORY (sum_by load_size ss) (omega arith) in
    let apart : shares two three ≡ false =
    and_right (is_range two && is_range three) (nat_lt 0x00100000 (0x00020000 + fill) && nat_lt 0x00020000 (0x00100000 + code))
    (and_left (nat_lt 0x00100000 (0x00020000 + fill)) (nat_lt 0x00020000 (0x00100000 + code)) (le-ltb 0x00100000 (0x00020000 + fill) (omega arith))) in
    let pairs : any_pair shares ss ≡ false =
    or_from (shares two three || false) false (or_from (shares two three) false apart refl) refl in
    let stack : list_any is_on_stack ss ≡ false =
    or_from (is_on_stack two) (is_on_stack three || false) (off_stack (148 + note) 0x00100000 code 5 (omega arith))
    (or_from (is_on_stack three) false (off_stack (148 + note + code) 0x00020000 fill 6 (omega arith)) refl) in
    let code_kept : is_writable_code two ≡ false = and_left (is_range two && false) true (and_right (is_range two) false refl) in
    let data_kept : is_writable_code three ≡ false = and_right (is_range three && true) false refl in
    let kept : list_any is_writable_code ss ≡ false =
    or_from (is_writable_code two) (is_writable_code three || false) code_kept (or_from (is_writable_code three) false data_kept refl) in
    none_holds (list_any is_dynamic ss) (list_any (is_bad_load b) ss || nat_lt MAX_MEMORY (sum_by load_size ss)) (any_pair shares ss || list_any is_on_stack ss) (list_any is_writable_code ss)
    refl
    (or_from (list_any (is_bad_load b) ss) (nat_lt MAX_MEMORY (sum_by load_size ss)) loads sum)
    (or_from (any_pair shares ss) (list_any is_on_stack ss) pairs stack)
    kept
