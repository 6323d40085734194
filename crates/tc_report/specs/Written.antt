-- How writing went, by the sink before and after it.
use Rattle.std.specs.Prelude.{ℕ, List, Result, Ok, Err}
use Rattle.tc_io.specs.Stream.{Stream}
use Rattle.tc_io.specs.Taken.{FailsAmid, Gives}

-- the text was written whole, or a front of it before the sink failed
abbrev pub Wrote : {E : Type 0} → Stream → Stream → List ℕ → Result (Unit {0}) E → Type 0
Wrote had has text (Ok done) = Gives had has text
Wrote had has text (Err failed) = FailsAmid had has text
