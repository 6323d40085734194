-- The fields of an ELF file for 32 bits, little endian, by the names of the System V gABI ("Object Files").
use Rattle.std.specs.Prelude.{ℕ, ◌+◌, ◌*◌, ◌-◌, ◌/◌, ◌%◌, ◌++◌, ◌==◌, nat_lt, ◌&&◌, Bool, List, drop, take, map, filter, replicate}
use Rattle.std.specs.List.{range_with_len}
use Rattle.byteorder.specs.Endian.{little_number}
use Rattle.tc_elf.specs.declared.segment.Segment.{Segment}
use Rattle.tc_elf.specs.Shown.{Range}

abbrev pub word_at : List ℕ → ℕ → ℕ
word_at b at = little_number 4 (drop at b)

abbrev pub half_at : List ℕ → ℕ → ℕ
half_at b at = little_number 2 (drop at b)

abbrev pub e_type : List ℕ → ℕ
e_type b = half_at b 16

abbrev pub e_machine : List ℕ → ℕ
e_machine b = half_at b 18

abbrev pub e_version : List ℕ → ℕ
e_version b = word_at b 20

abbrev pub e_entry : List ℕ → ℕ
e_entry b = word_at b 24

abbrev pub e_phoff : List ℕ → ℕ
e_phoff b = word_at b 28

abbrev pub e_flags : List ℕ → ℕ
e_flags b = word_at b 36

abbrev pub e_phentsize : List ℕ → ℕ
e_phentsize b = half_at b 42

abbrev pub e_phnum : List ℕ → ℕ
e_phnum b = half_at b 44

-- ---- program headers

-- the types of those that are used
abbrev pub pt_load : ℕ
pt_load = 1

abbrev pub pt_dynamic : ℕ
pt_dynamic = 2

abbrev pub pt_interp : ℕ
pt_interp = 3

abbrev pub pt_note : ℕ
pt_note = 4

abbrev pub pt_tls : ℕ
pt_tls = 7

-- the segment of the program header at a place of the file
abbrev pub segment_at : List ℕ → ℕ → Segment
segment_at b at = record {
  kind = word_at b at;
  offset = word_at b (at + 4);
  address = word_at b (at + 8);
  file_size = word_at b (at + 16);
  memory_size = word_at b (at + 20);
  flags = word_at b (at + 24);
}

-- so many segments, of the program headers from a place of the file on: 32 bytes each
abbrev pub segments_from : List ℕ → ℕ → ℕ → List Segment
segments_from b at count = map (λ i. segment_at b (at + 32 * i)) (range_with_len 0 count)

abbrev pub segments : List ℕ → List Segment
segments b = segments_from b (e_phoff b) (e_phnum b)

-- the flag PF_X, bit 0
abbrev pub is_executable : Segment → Bool
is_executable s = s.flags % 2 == 1

-- the flag PF_W, bit 1
abbrev pub is_writable : Segment → Bool
is_writable s = s.flags / 2 % 2 == 1

abbrev pub is_load : Segment → Bool
is_load s = s.kind == pt_load

-- a PT_LOAD without memory makes no range
abbrev pub is_range : Segment → Bool
is_range s = is_load s && nat_lt 0 s.memory_size

-- the segment's part of the file
abbrev pub part : List ℕ → Segment → List ℕ
part b s = take s.file_size (drop s.offset b)

-- its part of the file, and zeros up to its size in memory
abbrev pub content : List ℕ → Segment → List ℕ
content b s = part b s ++ replicate (s.memory_size - s.file_size) 0

abbrev pub range_of : List ℕ → Segment → Range
range_of b s = record {
  start = s.address;
  length = s.memory_size;
  writable = is_writable s;
  executable = is_executable s;
  bytes = content b s;
}

abbrev pub ranges_of : List ℕ → List Segment → List Range
ranges_of b ss = map (range_of b) (filter is_range ss)

abbrev pub ranges : List ℕ → List Range
ranges b = ranges_of b (segments b)
