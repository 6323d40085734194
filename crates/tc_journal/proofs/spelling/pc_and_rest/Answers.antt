use Rattle.std.proofs.Common.{◌≡◌, ◌^◌, ◌<◌, ◌∙◌, true, false, List, ℕ, Option, Some, None, IfSome, refl, ap}
use Rattle.std.specs.Prelude.{is_some}
use Rattle.tc_journal.specs.Digits.{hex8}
use Rattle.tc_journal.specs.Spelling.{from_pc, value_of, rest_of}
use Rattle.tc_journal.specs.Told.{pc_or_0}
use Rattle.tc_journal.proofs.Fields.{pc_field}
use Rattle.tc_journal.proofs.spelling.pc_and_rest.Goals as goal

none : (pc : Option ℕ) (more text : List ℕ) → is_some pc ≡ false → text ≡ from_pc pc more → ◌≡◌ {A = Option ℕ} (Some 0) (Some (pc_or_0 pc)) × (text ≡ more)
none None more text some e = (refl, e)
none (Some n) more text some e = absurd (let no : true ≡ false = some in cc)

found : (pc : Option ℕ) (more text : List ℕ) {r : Option ℕ} {rest : List ℕ} → is_some pc ≡ true → IfSome pc (λ n. n < 2 ^ 32) → text ≡ from_pc pc more
    → ((n : ℕ) → n < 2 ^ 32 → value_of text ≡ hex8 n → r ≡ Some n) → rest ≡ rest_of text → (r ≡ Some (pc_or_0 pc)) × (rest ≡ more)
found None more text some small e read behind = absurd (let no : false ≡ true = some in cc)
found (Some n) more text some small e read behind =
    let f = pc_field n more in
    (read n small (ap value_of e ∙ f.0), behind ∙ ap rest_of e ∙ f.1)

pub returns-then-not-has_pc : goal.returns-then-not-has_pc
returns-then-not-has_pc c = λ pc more some small e. none pc more c.args.text.now (some ∙ c.if-not-has_pc.true) e

pub returns : goal.returns
returns c = λ pc more some small e.
    found pc more c.args.text.now (some ∙ c.if-not-has_pc.false) small e (λ n low word. c.hex_word.ensures n low (c.field.ensures.value ∙ word)) c.field.ensures.rest
