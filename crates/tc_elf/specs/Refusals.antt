-- What is wrong with a file.
use Rattle.std.specs.Prelude.{ℕ, ◌+◌, ◌*◌, ◌%◌, ◌^◌, ◌==◌, nat_lt, not, ◌||◌, ◌&&◌, if◌then◌else◌, Bool, false, List, [], ◌∷◌, length, slice_index, Option, None, Some, sum_by}
use Rattle.std.specs.List.{list_any}
use Rattle.tc_elf.specs.declared.limits.TheConstants.{MAX_HEADERS, MAX_MEMORY, MIN_GUARD_LENGTH, MAX_GUARD_LENGTH}
use Rattle.tc_elf.specs.declared.segment.Segment.{Segment}
use Rattle.tc_elf.specs.declared.refusal.Refusal.{Refusal}
use Rattle.tc_elf.specs.declared.refusal.Refusal.TheVariants as refused
use Rattle.tc_elf.specs.Elf.{e_type, e_machine, e_version, e_phoff, e_flags, e_phentsize, e_phnum, pt_dynamic, pt_interp, pt_tls, is_load, is_range, is_executable, is_writable}
use Rattle.tc_elf.specs.Notes.{Layout, runs_past}
use Rattle.tc_elf.specs.Places.{meets, stack_start, stack_length, in_code, in_writable}
use Rattle.tc_elf.specs.Shown.{Range, Entry, Guard}

-- ---- the header

-- the header has 52 bytes
abbrev pub is_too_short : List ℕ → Bool
is_too_short b = nat_lt (length b) 52

-- 7F and the letters ELF
abbrev pub is_bad_magic : List ℕ → Bool
is_bad_magic b =
    not (slice_index b 0 == 0x7f) || not (slice_index b 1 == 0x45)
    || not (slice_index b 2 == 0x4c) || not (slice_index b 3 == 0x46)

-- the class, the encoding of data and the version of the identification
abbrev pub is_not_elf32_little : List ℕ → Bool
is_not_elf32_little b =
    not (slice_index b 4 == 1) || not (slice_index b 5 == 1) || not (slice_index b 6 == 1)

-- the type ET_EXEC
abbrev pub is_not_executable : List ℕ → Bool
is_not_executable b = not (e_type b == 2)

-- the machine EM_RISCV
abbrev pub is_not_riscv : List ℕ → Bool
is_not_riscv b = not (e_machine b == 243)

-- bits 0 to 3: compressed code, two of the floating-point convention, half the registers
abbrev pub has_bad_flags : List ℕ → Bool
has_bad_flags b = not (e_flags b % 16 == 0)

abbrev pub is_bad_header : List ℕ → Bool
is_bad_header b =
    not (e_version b == 1) || not (e_phentsize b == 32)
    || e_phnum b == 0 || nat_lt MAX_HEADERS (e_phnum b)
    || nat_lt (length b) (e_phoff b + 32 * e_phnum b)

abbrev pub header_refusal : List ℕ → Option Refusal
header_refusal b =
    if is_too_short b then Some refused.TooShort
    else if is_bad_magic b then Some refused.BadMagic
    else if is_not_elf32_little b then Some refused.NotElf32Little
    else if is_not_executable b then Some refused.NotExec
    else if is_not_riscv b then Some refused.NotRiscv
    else if has_bad_flags b then Some refused.BadFlags
    else if is_bad_header b then Some refused.BadHeader
    else None

-- ---- segments

abbrev pub is_dynamic : Segment → Bool
is_dynamic s = s.kind == pt_dynamic || s.kind == pt_interp || s.kind == pt_tls

abbrev pub is_bad_load : List ℕ → Segment → Bool
is_bad_load b s =
    is_load s
    && (nat_lt s.memory_size s.file_size || runs_past b s || nat_lt (2 ^ 32) (s.address + s.memory_size))

abbrev pub load_size : Segment → ℕ
load_size s = if is_load s then s.memory_size else 0

-- an element and a later one pass the test
abbrev pub any_pair : {A : Type 0} → (A → A → Bool) → List A → Bool
any_pair test [] = false
any_pair test (x ∷ xs) = list_any (test x) xs || any_pair test xs

abbrev pub shares : Segment → Segment → Bool
shares s t = is_range s && is_range t && meets s.address s.memory_size t.address t.memory_size

abbrev pub is_on_stack : Segment → Bool
is_on_stack s = is_range s && meets s.address s.memory_size stack_start stack_length

abbrev pub is_writable_code : Segment → Bool
is_writable_code s = is_range s && is_writable s && is_executable s

abbrev pub segment_refusal : List ℕ → List Segment → Option Refusal
segment_refusal b ss =
    if list_any is_dynamic ss then Some refused.Dynamic
    else if list_any (is_bad_load b) ss || nat_lt MAX_MEMORY (sum_by load_size ss) then Some refused.BadLoad
    else if any_pair shares ss || list_any is_on_stack ss then Some refused.Overlap
    else if list_any is_writable_code ss then Some refused.WritableCode
    else None

-- ---- threads and guards

abbrev pub is_bad_entry : List Range → Entry → Bool
is_bad_entry rs e = not (e.address % 4 == 0) || not (list_any (in_code e.address 4) rs)

abbrev pub is_bad_guard : List Range → Guard → Bool
is_bad_guard rs g =
    not (g.start % 4 == 0) || not (g.length % 4 == 0)
    || nat_lt g.length MIN_GUARD_LENGTH || nat_lt MAX_GUARD_LENGTH g.length
    || not (list_any (in_writable g.start g.length) rs)

abbrev pub guards_meet : Guard → Guard → Bool
guards_meet g h = meets g.start g.length h.start h.length

abbrev pub layout_refusal : List Range → Option Layout → Option Refusal
layout_refusal rs None = Some refused.BadNote
layout_refusal rs (Some l) =
    if list_any (is_bad_entry rs) l.entries then Some refused.BadEntry
    else if list_any (is_bad_guard rs) l.guards || any_pair guards_meet l.guards then Some refused.BadGuard
    else None
