use Rattle.std.proofs.Common.{◌≡◌, ℕ, ◌<◌, ◌^◌, Some, refl, sym, ◌∙◌, subst, Option}
use Rattle.std.specs.Prelude.{IfSome}
use Rattle.tc_isa.specs.Rows.{Decodes}
use Rattle.tc_isa.specs.Reading.{decoded, instr_of, fields_of}
use Rattle.tc_isa.specs.declared.instr.Instr.{Instr}
use Rattle.tc_isa.proofs.RoundTrip.{split_of, there, decodes_again}
use Rattle.tc_isa.proofs.Sound.{sound}
use Rattle.tc_isa.proofs.decode.rows_decide.Goals as goal

back : (word : ℕ) (i : Instr) → word < 2 ^ 32 → decoded word ≡ Some i → Decodes word i
unfolding decoded
back word i h e =
    let s = split_of word h in
    let P : Option Instr → Type 0 = λ o. IfSome o (λ i. Decodes word i) in
    let Q : ℕ → Type 0 = λ w. IfSome (instr_of (fields_of word)) (λ i. Decodes w i) in
    subst P e (subst Q (sym s.whole) (sound (fields_of word) s.within))

pub returns-clause-rows : goal.returns-clause-rows
returns-clause-rows c = λ word i h. (back word i h, there word i h)

pub returns-clause-one : goal.returns-clause-one
returns-clause-one c = λ word i j h d e. let same : Some i ≡ Some j = sym (there word i h d) ∙ there word j h e in cc

pub returns-clause-again : goal.returns-clause-again
returns-clause-again c = λ i v. decodes_again _ i v refl

pub returns-clause-back : goal.returns-clause-back
returns-clause-back c = λ word i h e. sym (back word i h e).1
