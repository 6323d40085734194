-- Registers that are noted one after another, as they are seen, and what they keep.
use Rattle.std.specs.Prelude.{◌≡◌, ℕ, ◌+◌, ◌-◌, ◌^◌, ◌≤◌, take, min, Vec, vec_len, vec_capacity}
use Rattle.std.specs.Global.{Global}
use Rattle.tc_segment.specs.Packed.{Edges}
use Rattle.tc_segment.specs.declared.edges.Edges.TheInside.{Inside}
use Rattle.tc_segment.specs.declared.packed.TheConstants.{MOST_WORDS}

-- for how many words more there is room, whose places are numbers of 32 bits
abbrev pub room_in : Vec ℕ Global → ℕ
room_in words = min (vec_capacity words) (2 ^ 32 - 1) - vec_len words

-- there is room for a row of words behind the end
pub record CanHaveRow (end : ℕ) (words : Vec ℕ Global) : Type 0 where
  pub inside : end ≤ vec_len words
  pub room : MOST_WORDS ≤ min (vec_capacity words) (2 ^ 32 - 1) - end
  pub places : vec_len words ≤ 2 ^ 32 - 1

-- the row stands there, and what stood before it still does
pub record HasRow (end : ℕ) (old new : Vec ℕ Global) : Type 0 where
  pub same : take end new.items ≡ take end old.items
  pub row : end + MOST_WORDS ≤ vec_len new
  pub places : vec_len new ≤ 2 ^ 32 - 1
  pub capacity : vec_capacity old ≤ vec_capacity new

abbrev pub edges_view : Inside → Edges
edges_view e = record { words = take e.end e.words.items; room = min (vec_capacity e.words) (2 ^ 32 - 1) - e.end }

pub record KeptEdges (e : Inside) : Type 0 where
  pub inside : e.end ≤ vec_len e.words
  pub places : vec_len e.words ≤ 2 ^ 32 - 1
