use Rattle.std.proofs.Common.{rules, List, ℕ, sym, ◌∙◌, subst}
use Rattle.std.specs.Prelude.{decimal}
use Rattle.std.specs.Str.{IsUtf8}
use Rattle.std.proofs.lemmas.Fmt.{parse-decimal, IsAscii-decimal}
use Rattle.std.proofs.lemmas.Str.{IsUtf8-from_ascii}
use Rattle.tc_journal.proofs.spelling.number.Goals as goal

pub returns-in-Err : goal.returns-in-Err
returns-in-Err c = λ n small e.
    let P : List ℕ → Type 0 = IsUtf8 in
    absurd (c.in-Err.ensures.cases.0 (subst P (sym e) (IsUtf8-from_ascii (decimal n) (IsAscii-decimal n small))))

pub returns-in-Ok : goal.returns-in-Ok
returns-in-Ok c = λ n small e.
    let read = parse-decimal 64 n _ c.parse.result small small (c.in-Ok.ensures.cases.0 ∙ e) c.parse.ensures.value.0 in
    search rules
