-- The notes of a file (System V gABI, "Note Section"), and the one on threads and guards.
use Rattle.std.specs.Prelude.{◌≡◌, ℕ, zero, suc, ◌+◌, ◌*◌, ◌/◌, ◌==◌, nat_lt, nat_le, not, ◌&&◌, ◌||◌, if◌then◌else◌, Bool, List, [], ◌∷◌, ◌++◌, Option, Some, None, length, take, drop, map, filter, codes}
use Rattle.std.specs.List.{range_with_len}
use Rattle.std.specs.Option.{option_map}
use Rattle.std.specs.Str.{bytes_eq}
use Rattle.tc_elf.specs.declared.limits.TheConstants.{MAX_THREADS, MAX_GUARDS}
use Rattle.tc_elf.specs.declared.segment.Segment.{Segment}
use Rattle.tc_elf.specs.Elf.{word_at, e_entry, pt_note, part, segments}
use Rattle.tc_elf.specs.Shown.{Entry, Guard}

-- a note: its type, its name and its descriptor. Three words precede the name: the lengths of both, and the type
pub record Note : Type 0 where
  pub kind : ℕ
  pub name : List ℕ
  pub descriptor : List ℕ

-- rounded up to a multiple of 4
abbrev pub padded : ℕ → ℕ
padded n = (n + 3) / 4 * 4

-- where the descriptor of the first note begins, and where it ends
abbrev pub descriptor_at : List ℕ → ℕ
descriptor_at b = 12 + padded (word_at b 0)

abbrev pub descriptor_end : List ℕ → ℕ
descriptor_end b = descriptor_at b + word_at b 4

-- where the next note begins
abbrev pub next_at : List ℕ → ℕ
next_at b = descriptor_at b + padded (word_at b 4)

abbrev pub first_note : List ℕ → Note
first_note b = record {
  kind = word_at b 8;
  name = take (word_at b 0) (drop 12 b);
  descriptor = take (word_at b 4) (drop (descriptor_at b) b);
}

-- At most so many notes, one after another; a remainder shorter than a note's header is skipped.
-- None if a name with its padding, or a descriptor, runs past the end.
unfoldable pub notes_in : ℕ → List ℕ → Option (List Note)
notes_in zero b = Some []
notes_in (suc n) b =
    if nat_lt (length b) 12 then Some []
    else if nat_lt (length b) (descriptor_end b) then None
    else option_map (λ notes. first_note b ∷ notes) (notes_in n (drop (next_at b) b))

-- the notes in the bytes of a segment, which are fewer than its bytes
abbrev pub notes_of : List ℕ → Option (List Note)
notes_of b = notes_in (length b) b

-- a note on threads and guards has the type 1, and its name is TCLOCKS and a zero byte
abbrev pub is_tclocks : Note → Bool
is_tclocks note = note.kind == 1 && bytes_eq note.name (codes "TCLOCKS" ++ 0 ∷ [])

abbrev pub descriptors_of : List ℕ → Option (List (List ℕ))
descriptors_of b =
    option_map (λ notes. map (λ (note : Note). note.descriptor) (filter is_tclocks notes)) (notes_of b)

abbrev pub is_note : Segment → Bool
is_note s = s.kind == pt_note

-- the segment's part of the file ends past the end of the file
abbrev pub runs_past : List ℕ → Segment → Bool
runs_past b s = nat_lt (length b) (s.offset + s.file_size)

abbrev pub segment_descriptors : List ℕ → Segment → Option (List (List ℕ))
segment_descriptors b s =
    if not (is_note s) then Some []
    else if runs_past b s then None
    else descriptors_of (part b s)

-- the elements of both lists, if there are both
abbrev pub both : Option (List (List ℕ)) → Option (List (List ℕ)) → Option (List (List ℕ))
both None ys = None
both (Some xs) ys = option_map (λ more. xs ++ more) ys

-- the descriptors of all notes on threads and guards; None if a segment or a note is cut off
unfoldable pub descriptors_over : List ℕ → List Segment → Option (List (List ℕ))
descriptors_over b [] = Some []
descriptors_over b (s ∷ ss) = both (segment_descriptors b s) (descriptors_over b ss)

-- the one descriptor, or none; None if there are two
abbrev pub single : Option (List (List ℕ)) → Option (Option (List ℕ))
single None = None
single (Some []) = Some None
single (Some (d ∷ [])) = Some (Some d)
single (Some (d ∷ e ∷ ds)) = None

-- ---- threads and guards

-- which threads and guards a file has
pub record Layout : Type 0 where
  pub entries : List Entry
  pub guards : List Guard

-- the descriptor: three words, its version and the numbers of threads and of guards, then a pair of words for each
-- thread and for each guard
abbrev pub version : List ℕ → ℕ
version d = word_at d 0

abbrev pub thread_count : List ℕ → ℕ
thread_count d = word_at d 4

abbrev pub guard_count : List ℕ → ℕ
guard_count d = word_at d 8

-- version 1 has at most 16 threads and 16 guards, and version 2 as many as there may be
abbrev pub has_room : ℕ → ℕ → ℕ → Bool
has_room version threads guards =
    version == 1 && nat_le threads 16 && nat_le guards 16
    || version == 2 && nat_le threads MAX_THREADS && nat_le guards MAX_GUARDS

abbrev pub is_bad_descriptor : List ℕ → Bool
is_bad_descriptor d =
    nat_lt (length d) 12 || thread_count d == 0
    || not (has_room (version d) (thread_count d) (guard_count d))
    || not (length d == 12 + 8 * thread_count d + 8 * guard_count d)

abbrev pub entry_in : List ℕ → ℕ → Entry
entry_in d at = record { address = word_at d at; argument = word_at d (at + 4) }

abbrev pub entries_from : List ℕ → ℕ → ℕ → List Entry
entries_from d at count = map (λ i. entry_in d (at + 8 * i)) (range_with_len 0 count)

abbrev pub guard_in : List ℕ → ℕ → Guard
guard_in d at = record { start = word_at d at; length = word_at d (at + 4) }

abbrev pub guards_from : List ℕ → ℕ → ℕ → List Guard
guards_from d at count = map (λ i. guard_in d (at + 8 * i)) (range_with_len 0 count)

abbrev pub described_layout : List ℕ → Layout
described_layout d = record {
  entries = entries_from d 12 (thread_count d);
  guards = guards_from d (12 + 8 * thread_count d) (guard_count d);
}

-- without a note there is one thread, at e_entry with argument 0, and no guard
abbrev pub header_layout : List ℕ → Layout
header_layout b = record { entries = record { address = e_entry b; argument = 0 } ∷ []; guards = [] }

-- None if the notes are bad
abbrev pub layout_by : List ℕ → Option (Option (List ℕ)) → Option Layout
layout_by b None = None
layout_by b (Some None) = Some (header_layout b)
layout_by b (Some (Some d)) = if is_bad_descriptor d then None else Some (described_layout d)

abbrev pub layout_over : List ℕ → List Segment → Option Layout
layout_over b ss = layout_by b (single (descriptors_over b ss))

-- a note is cut off, or those on threads and guards are not in order
abbrev pub HasBadNote : List ℕ → List Segment → Type 0
HasBadNote b ss = layout_over b ss ≡ None

abbrev pub layout : List ℕ → Option Layout
layout b = layout_over b (segments b)
