-- What contracts see of a source or a sink.
use Rattle.std.specs.Prelude.{ℕ, List, Option}

-- the bytes that a source still has, or that a sink has taken, if the contract knows them; and the number of faults
pub record Stream : Type 0 where
  pub bytes : Option (List ℕ)
  pub faults : ℕ
