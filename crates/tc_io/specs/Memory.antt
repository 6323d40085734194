-- A source and a sink in memory, and what each call does to them.
use Rattle.std.specs.Prelude.{◌≡◌, ◌↔◌, ℕ, ◌+◌, ◌-◌, ◌==◌, Bool, ◌&&◌, ◌||◌, not, if◌then◌else◌, min, List, ◌++◌, length, take, Result, IfOk, IsErr, IsTrue}
use Rattle.std.specs.List.{list_any}
use Rattle.tc_io.specs.Causes.{risen}
use Rattle.tc_io.specs.declared.source.Failed.{Failed}

-- `at` of the bytes were given. A call gives at most `most` bytes, and the calls in `fail` fail.
pub record InMemory : Type 0 where
  pub bytes : List ℕ
  pub most : ℕ
  pub fail : List ℕ
  pub at : ℕ
  pub calls : ℕ
  pub faults : ℕ

-- `bytes` were taken, and there is room for `room` bytes in all. A call takes at most `most`
-- bytes, and the calls in `fail` fail.
pub record Buffer : Type 0 where
  pub bytes : List ℕ
  pub room : ℕ
  pub most : ℕ
  pub fail : List ℕ
  pub calls : ℕ
  pub faults : ℕ

-- whether a number is among those of the calls that fail
abbrev pub is_chosen : List ℕ → ℕ → Bool
is_chosen fail call = list_any (λ n. n == call) fail

-- how many bytes a read gives into a buffer of this length
abbrev pub given : InMemory → ℕ → ℕ
given s room = min (min (length s.bytes - s.at) room) s.most

-- the source after a read into a buffer of this length
abbrev pub after_read : InMemory → ℕ → InMemory
after_read s room =
    if is_chosen s.fail s.calls
    then record s { calls = risen s.calls; faults = risen s.faults }
    else record s { at = s.at + given s room; calls = risen s.calls }

-- a read into a buffer of this length fails if its number is chosen, and otherwise gives what it can
pub record Reads (s : InMemory) (room : ℕ) (result : Result ℕ Failed) (now : InMemory) : Type 0 where
  pub fails : IsErr result ↔ IsTrue (is_chosen s.fail s.calls)
  pub count : IfOk result (λ n. n ≡ given s room)
  pub after : now ≡ after_read s room

-- whether a write of this many bytes fails
abbrev pub refuses : Buffer → ℕ → Bool
refuses k size = is_chosen k.fail k.calls || (length k.bytes == k.room && not (size == 0))

-- how many of so many bytes a write takes
abbrev pub accepted : Buffer → ℕ → ℕ
accepted k size = min (min size k.most) (k.room - length k.bytes)

-- the sink after a write of this piece
abbrev pub after_write : Buffer → List ℕ → Buffer
after_write k piece =
    if refuses k (length piece)
    then record k { calls = risen k.calls; faults = risen k.faults }
    else record k { bytes = k.bytes ++ take (accepted k (length piece)) piece; calls = risen k.calls }

-- a write of this piece fails if it is refused, and otherwise takes what it can
pub record Writes (k : Buffer) (piece : List ℕ) (result : Result ℕ Failed) (now : Buffer) : Type 0 where
  pub fails : IsErr result ↔ IsTrue (refuses k (length piece))
  pub count : IfOk result (λ n. n ≡ accepted k (length piece))
  pub after : now ≡ after_write k piece
