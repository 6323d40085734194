use Rattle.std.proofs.Common.{◌≡◌, ℕ, sym, ◌∙◌, subst, List, arith}
use Rattle.std.specs.Prelude.{decimal}
use Rattle.std.specs.Str.{IsUtf8}
use Rattle.std.proofs.lemmas.Fmt.{decimal_injective, IsAscii-decimal}
use Rattle.std.proofs.lemmas.Str.{IsUtf8-from_ascii}
use Rattle.tc_main.proofs.words.number_of.Goals as goal

pub returns-in_default-clause-none : goal.returns-in_default-clause-none
returns-in_default-clause-none c = λ n low high e.
    let P : List ℕ → Type 0 = IsUtf8 in
    let text : IsUtf8 c.bytes.result.now = subst P (sym (c.bytes.ensures ∙ e)) (IsUtf8-from_ascii (decimal n) (IsAscii-decimal n (omega arith))) in
    c.in_default.ensures.cases.0 text

pub returns-in_default-number_of_text-clause-none : goal.returns-in_default-number_of_text-clause-none
returns-in_default-number_of_text-clause-none c = λ n low high e.
    let found = rw c.in-Some.is at c.number_of_text.ensures.some in
    let same : c.in-Some.number ≡ n = decimal_injective c.in-Some.number n (omega (arith, found.0)) (omega arith) (sym found.1 ∙ c.in-Ok.ensures.cases.0 ∙ c.bytes.ensures ∙ e) in
    absurd (omega arith)
