use Rattle.std.proofs.Common.{◌≡◌, ◌++◌, [], List, ℕ, Bool, Option, Some, None, sym, ap, subst, ◌∙◌, refl, append-nil, arith, rules}
use Rattle.std.specs.Prelude.{if◌then◌else◌}
use Rattle.std.proofs.lemmas.Bool.Decides.{Decides-eqb}
use Rattle.std.proofs.lemmas.Slice.Eq.{strip_prefix_is}
use Rattle.tc_journal.specs.History.{IsTold}
use Rattle.tc_journal.specs.Line.{told_line}
use Rattle.tc_journal.specs.Told.{Told, block_of, told_if, without_pc}
use Rattle.tc_journal.specs.declared.block.Block.{Block}
use Rattle.tc_journal.proofs.Histories.{told_again}
use Rattle.tc_journal.proofs.reading.first_block.Goals as goal

known : {X : Type 0} {o : Option X} {x y : X} → o ≡ Some x → o ≡ Some y → x ≡ y
known {X} {o} {x} {y} is some = let same : Some x ≡ Some y = sym is ∙ some in cc

-- the line that is written of a block, by what it tells
line_is : (form : Bool) (b : Block) (pc : Option ℕ) (line : List ℕ) → pc ≡ (if form then Some b.pc else None) → line ≡ told_line (record { block = without_pc b; pc = pc }) ++ [] → line ≡ told_line (told_if form b)
line_is form b pc line is e = e ∙ append-nil _ ∙ ap (λ o. told_line (record { block = without_pc b; pc = o })) is

pub returns-in_err-behind-clause-every : goal.returns-in_err-behind-clause-every
returns-in_err-behind-clause-every g c = λ b begins.
    let form = c.has_pc-has_pc.ensures.each b ∙ sym c.has_pc-has_pc.ensures.value in
    let t : Told = g.B.Form.told b in
    let block : c.in_ok-block.block ≡ block_of t = known c.in_ok-block.was (c.block_at_front.ensures.every t begins.more begins.block form begins.line) in
    let line : c.as_bytes.result.now ≡ told_line t =
    line_is c.has_pc-has_pc.result c.in_ok-block.block c.then_some.result c.as_bytes.result.now (search rules) (cc) ∙ ap (λ x. told_line (told_if c.has_pc-has_pc.result x)) block ∙ ap told_line (told_again c.has_pc-has_pc.result t form) in
    let strip = strip_prefix_is Decides-eqb c.args.text.now c.as_bytes.result.now c.strip_prefix.result c.strip_prefix.ensures.cases in
    let none = rw c.in_err-behind.was at strip in
    absurd (none begins.more (begins.line ∙ ap (λ l. l ++ begins.more) (sym line)))

pub returns-clause-some : goal.returns-clause-some
returns-clause-some g c =
    let told : g.B.Form.told c.of.result ≡ told_if c.has_pc-has_pc.result c.in_ok-block.block = c.of.ensures.same ∙ ap (λ f. told_if f c.in_ok-block.block) (sym c.has_pc-has_pc.ensures.value) in
    let line : c.as_bytes.result.now ≡ told_line (g.B.Form.told c.of.result) =
    line_is c.has_pc-has_pc.result c.in_ok-block.block c.then_some.result c.as_bytes.result.now (search rules) (cc) ∙ ap told_line (sym told) in
    let strip = strip_prefix_is Decides-eqb c.args.text.now c.as_bytes.result.now c.strip_prefix.result c.strip_prefix.ensures.cases in
    let some = rw c.in_ok-behind.was at strip in (
      record {
        block = subst IsTold (sym told) c.in_ok-block.ensures.valid;
        place = ap (λ (t : Told). t.block.stamp) told ∙ omega (arith, c.if-block-stamp.false);
        more = c.in_ok-behind.behind.now;
        line = some ∙ ap (λ l. l ++ c.in_ok-behind.behind.now) line;
      },
      refl,
    )
