use Rattle.std.proofs.Common.{ℕ, List, inl, inr, subst}
use Rattle.std.specs.Prelude.{Result, Ok, Err}
use Rattle.tc_io.specs.Stream.{Stream}
use Rattle.tc_main.specs.Top.{Writes}
use Rattle.tc_report.specs.Written.{Wrote}
use Rattle.youngest.proofs.answer_usage.Goals as goal

-- a text that was written whole, or cut, was written so
writes : {E : Type 0} (had has : Stream) (text : List ℕ) (result : Result (Unit {0}) E) → Wrote had has text result → Writes had has text
writes had has text (Ok done) wrote = inl wrote
writes had has text (Err failed) wrote = inr wrote

pub returns-clause-line : goal.returns-clause-line
returns-clause-line g c =
    let had = g.K.Sink.stream c.args.sink.now in
    let has = g.K.Sink.stream c.write_text.new.sink in
    subst (Writes had has) c.as_bytes.ensures.value (writes had has c.as_bytes.result.now c.write_text.result c.write_text.ensures.wrote)
