-- The file of a guest with one segment of code, one of data and a note on its threads and guards (System V gABI, ELF
-- for 32 bits, little endian). All of it but the data are words.
use Rattle.std.specs.Prelude.{◌≡◌, ℕ, ◌+◌, ◌*◌, List, [], ◌∷◌, ◌++◌, ◌<◌, ◌^◌, length, nat_le, ◌&&◌, if◌then◌else◌}
use Rattle.std.specs.List.{flat_map}
use Rattle.byteorder.specs.Endian.{little_bytes}

-- the four bytes of a word, little-endian
abbrev pub word_bytes : ℕ → List ℕ
word_bytes n = little_bytes 4 n

-- the words were appended to a file
abbrev pub Writes : List ℕ → List ℕ → List ℕ → Type 0
Writes old new words = new ≡ old ++ flat_map word_bytes words

-- the file's header: an executable for RISC-V with this entry, and three program headers behind it
abbrev pub header_words : ℕ → List ℕ
header_words entry =
    0x464c457f ∷ 0x00010101 ∷ 0 ∷ 0 ∷ 0x00f30002 ∷ 1 ∷ entry ∷ 52 ∷ 0 ∷ 0 ∷ 0x00200034 ∷ 3 ∷ 0 ∷ []

-- a program header: its type, the offset of its bytes in the file, its address, its size and its flags
abbrev pub segment_words : ℕ → ℕ → ℕ → ℕ → ℕ → List ℕ
segment_words kind offset address size flags = kind ∷ offset ∷ address ∷ address ∷ size ∷ size ∷ flags ∷ 4 ∷ []

-- both numbers of a pair are words
pub record AreWords (pair : ℕ × ℕ) : Type 0 where
  pub first : pair.0 < 2 ^ 32
  pub second : pair.1 < 2 ^ 32

abbrev pub pair_words : ℕ × ℕ → List ℕ
pair_words pair = pair.0 ∷ pair.1 ∷ []

-- version 1 if it has room for so many threads and guards, else version 2
abbrev pub note_version : ℕ → ℕ → ℕ
note_version threads guards = if nat_le threads 16 && nat_le guards 16 then 1 else 2

-- the head of the note: the lengths of its name and its descriptor and its type, the name TCLOCKS with a zero byte, the
-- version, and the numbers of threads and guards
abbrev pub note_head : ℕ → ℕ → List ℕ
note_head threads guards =
    8 ∷ (12 + 8 * threads + 8 * guards) ∷ 1 ∷ 0x4f4c4354 ∷ 0x00534b43 ∷ note_version threads guards ∷ threads ∷ guards ∷ []

-- the note: its head, then a pair for each thread and for each guard
abbrev pub note_words : List (ℕ × ℕ) → List (ℕ × ℕ) → List ℕ
note_words entries guards = note_head (length entries) (length guards) ++ flat_map pair_words entries ++ flat_map pair_words guards

-- the length of the note: the lengths and the type, the name, the descriptor
abbrev pub note_length : ℕ → ℕ → ℕ
note_length threads guards = 32 + 8 * threads + 8 * guards

-- the three program headers, of the note, the code and the data, with these sizes, which follow one another
abbrev pub segments_words : ℕ → ℕ → ℕ → List ℕ
segments_words note code fill =
    segment_words 4 148 0 note 4
    ++ segment_words 1 (148 + note) 0x00100000 code 5
    ++ segment_words 1 (148 + note + code) 0x00020000 fill 6

abbrev pub first_entry : List (ℕ × ℕ) → ℕ
first_entry [] = 0
first_entry (entry ∷ entries) = entry.0

-- the whole file: the header, the program headers, the note, the code, the data
unfoldable pub built : List ℕ → List (ℕ × ℕ) → List ℕ → List (ℕ × ℕ) → List ℕ
built code entries fill guards =
    flat_map word_bytes (header_words (first_entry entries))
    ++ flat_map word_bytes (segments_words (note_length (length entries) (length guards)) (4 * length code) (length fill))
    ++ flat_map word_bytes (note_words entries guards)
    ++ flat_map word_bytes code
    ++ fill
