-- What was read from a source, or written to a sink, by calls that stopped.
use Rattle.std.specs.Prelude.{◌≡◌, ℕ, ◌<◌, ◌≤◌, List, length, take}
use Rattle.std.specs.Io.KnownBytes.{Appends, Consumes, IsAtEnd}
use Rattle.tc_io.specs.Stream.{Stream}
use Rattle.tc_io.specs.Causes.{FailedOnce, NoneFailed}

-- the bytes were taken, and no call failed
pub record Takes (before now : Stream) (bytes : List ℕ) : Type 0 where
  pub taken : Consumes before.bytes now.bytes bytes
  pub quiet : NoneFailed before now

-- all bytes were taken, to the end
pub record TakesAll (before now : Stream) (bytes : List ℕ) : Type 0 where
  pub takes : Takes before now bytes
  pub end : IsAtEnd now.bytes

-- so many bytes were taken
abbrev pub TakesCount : Stream → Stream → ℕ → Type 0
TakesCount before now count = (bytes : List ℕ) × (length bytes ≡ count) × Takes before now bytes

-- at most so many bytes were taken
abbrev pub TakesAtMost : Stream → Stream → ℕ → Type 0
TakesAtMost before now most = (bytes : List ℕ) × (length bytes ≤ most) × Takes before now bytes

-- at most so many bytes were taken, and then a call failed
pub record FailsWithin (before now : Stream) (most : ℕ) : Type 0 where
  pub bytes : List ℕ
  pub few : length bytes ≤ most
  pub taken : Consumes before.bytes now.bytes bytes
  pub fault : FailedOnce before now

-- the bytes were given, and no call failed
pub record Gives (before now : Stream) (bytes : List ℕ) : Type 0 where
  pub given : Appends before.bytes now.bytes bytes
  pub quiet : NoneFailed before now

-- a prefix of the bytes was written, and then a call failed
pub record FailsAmid (before now : Stream) (bytes : List ℕ) : Type 0 where
  pub count : ℕ
  pub short : count < length bytes
  pub given : Appends before.bytes now.bytes (take count bytes)
  pub fault : FailedOnce before now
