-- Which calls of a source or a sink are made, given the relation of a single call.
use Rattle.std.specs.Prelude.{◌≡◌, ℕ, zero, suc, ◌<◌, ◌≤◌, List, [], drop, length, Result, Ok, Err}
use Rattle.tc_io.specs.declared.source.Failed.{Failed}

-- `gives s room result t`: a read of s with room for so many bytes may return this and leave t
module _ {S : Type 0} (gives : S → ℕ → Result ℕ Failed → S → Type 0) where
  abbrev pub Reads : S → S → Type 0
  Reads s t = (room : ℕ) × (result : Result ℕ Failed) × gives s room result t

  -- so many consecutive reads
  abbrev pub ReadTimes : ℕ → S → S → Type 0
  ReadTimes zero s t = t ≡ s
  ReadTimes (suc n) s t = (m : S) × ReadTimes n s m × Reads m t

  -- at most so many reads
  abbrev pub ReadsWithin : ℕ → S → S → Type 0
  ReadsWithin most s t = (n : ℕ) × (n ≤ most) × ReadTimes n s t

  -- at most so many reads, and one after them that fails
  abbrev pub ReadsTillFault : ℕ → S → S → Type 0
  ReadsTillFault most s t = (m : S) × (room : ℕ) × (e : Failed) × ReadsWithin most s m × gives m room (Err e) t

-- `gives k piece result l`: a write of the piece to k may return this and leave l
module _ {K : Type 0} (gives : K → List ℕ → Result ℕ Failed → K → Type 0) where
  -- the writes of these bytes: each is given all that are left, and none is made once none is left
  pub data Writes : List ℕ → K → Result (Unit {0}) Failed → K → Type 0 where
    none : {k : K} → Writes [] k (Ok tt) k
    some : {bytes : List ℕ} {k m l : K} {count : ℕ} {result : Result (Unit {0}) Failed} → 0 < length bytes
        → gives k bytes (Ok count) m → Writes (drop count bytes) m result l → Writes bytes k result l
    failed : {bytes : List ℕ} {k l : K} {e : Failed} → 0 < length bytes
        → gives k bytes (Err e) l → Writes bytes k (Err e) l
