-- Registers as a journal keeps them: the program counter, a mask, and the numbers that are not the usual ones.
use Rattle.std.specs.Prelude.{◌≡◌, ℕ, ◌+◌, ◌*◌, ◌/◌, ◌%◌, ◌==◌, ◌<◌, ◌≤◌, List, [], ◌∷◌, ◌++◌, length, take, drop, slice_index, if◌then◌else◌, Result, OnOk}
use Rattle.tc_isa.specs.Registers.{Registers, IsRegisters, started, with_register}
use Rattle.tc_segment.specs.declared.packed.TheConstants.{MOST_WORDS}

-- the numbers that registers 1 to 31 have at the start of a thread whose argument and number are 0, and in x17 the number
-- of LOCK, with which a section begins
unfoldable pub usual : List ℕ
usual = drop 1 (with_register (started 0 0 0) 17 1).words

-- from its lowest bit on, a mask has 1 where a number is not the usual one
abbrev pub mask_of : List ℕ → List ℕ → ℕ
mask_of [] xs = 0
mask_of (u ∷ us) [] = 0
mask_of (u ∷ us) (x ∷ xs) = if x == u then 2 * mask_of us xs else 2 * mask_of us xs + 1

-- the numbers that are not the usual ones
abbrev pub unusual : List ℕ → List ℕ → List ℕ
unusual [] xs = []
unusual (u ∷ us) [] = []
unusual (u ∷ us) (x ∷ xs) = if x == u then unusual us xs else x ∷ unusual us xs

-- register 0, which is always 0, has no bit
abbrev pub packed : Registers → List ℕ
packed r = r.pc ∷ mask_of usual (drop 1 r.words) ∷ unusual usual (drop 1 r.words)

-- the next number of the list where the mask has 1, and else the usual one
unfoldable pub spread : List ℕ → ℕ → List ℕ → List ℕ
spread [] mask xs = []
spread (u ∷ us) mask xs = if mask % 2 == 1 then slice_index xs 0 ∷ spread us (mask / 2) (drop 1 xs) else u ∷ spread us (mask / 2) xs

-- the registers at a place
unfoldable pub regs_at : List ℕ → ℕ → Registers
regs_at edges i = record { pc = slice_index edges i; words = 0 ∷ spread usual (slice_index edges (i + 1)) (drop (i + 2) edges) }

-- the place right behind the registers at a place
abbrev pub behind : List ℕ → ℕ → ℕ
behind edges i = i + length (packed (regs_at edges i))

-- the first so many of the words are these registers
pub record ArePacked (words : List ℕ) (end : ℕ) (r : Registers) : Type 0 where
  pub few : end ≤ MOST_WORDS
  pub is : take end words ≡ packed r
  pub whole : IsRegisters r

-- these registers stand at the place, and other words may stand behind them
pub record StandsAt (edges : List ℕ) (i : ℕ) (regs : Registers) : Type 0 where
  pub inside : i < length edges
  pub rest : List ℕ
  pub is : drop i edges ≡ packed regs ++ rest
  pub whole : IsRegisters regs

-- registers stand there
abbrev pub IsPlace : List ℕ → ℕ → Type 0
IsPlace edges i = StandsAt edges i (regs_at edges i)

-- and none stand behind them
pub record StandsLast (edges : List ℕ) (i : ℕ) (regs : Registers) : Type 0 where
  pub stands : StandsAt edges i regs
  pub last : length edges ≡ i + length (packed regs)

-- what stood at a place still does
pub record Extends (old new : List ℕ) : Type 0 where
  pub places : (i : ℕ) → IsPlace old i → IsPlace new i
  pub same : (i : ℕ) → IsPlace old i → regs_at new i ≡ regs_at old i

-- the words of all registers that were noted, and how many more may be
pub record Edges : Type 0 where
  pub words : List ℕ
  pub room : ℕ

-- these registers stand at the place, behind all that stood there, and there may be room for so many words less
pub record StandsBeside (regs : Registers) (old new : Edges) (at : ℕ) : Type 0 where
  pub place : StandsLast new.words at regs
  pub more : Extends old.words new.words
  pub room : old.room ≤ new.room + MOST_WORDS
  pub behind : at ≡ length old.words

-- the words are as they were, there is no less room for more, and where this went well, there is room for so many
pub record HasReserved {E : Type 0} (count : ℕ) (old new : Edges) (went : Result (Unit {0}) E) : Type 0 where
  pub words : new.words ≡ old.words
  pub room : old.room ≤ new.room
  pub ok : OnOk went (count ≤ new.room)
