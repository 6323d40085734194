use Rattle.std.proofs.Common.{◌≡◌, ◌+◌, ◌-◌, ◌*◌, ◌++◌, ℕ, List, [], ◌∷◌, length, take, drop, min, ap, ◌∙◌, subst, length-drop, arith}
use Rattle.std.proofs.lemmas.List.{take_min}
use Rattle.std.specs.Prelude.{OnOk, string_bytes, codes}
use Rattle.std.specs.List.{flat_map}
use Rattle.tc_journal.specs.Digits.{hex2, hex8}
use Rattle.tc_report.specs.Report.{data_line_at, data_line}
use Rattle.tc_report.proofs.report.push_data_at.Goals as goal

-- so many elements from a place on, or what is left
part_is : {X : Type 0} (xs : List X) (from n to : ℕ) → to ≡ min (length xs) (from + n) → take (to - from) (drop from xs) ≡ take n (drop from xs)
part_is xs from n to e =
    let rest : length (drop from xs) ≡ length xs - from = length-drop from xs in
    let count : to - from ≡ min n (length (drop from xs)) = omega (arith, e, rest) in
    ap (λ k. take k (drop from xs)) count ∙ take_min n (drop from xs)

-- a line is told by the digits of its address
line_is : (a b : ℕ) (bytes : List ℕ) → hex8 a ≡ hex8 b → data_line a bytes ≡ data_line b bytes
unfolding data_line
line_is a b bytes e = ap (λ h. codes "data " ++ h ++ codes " " ++ flat_map hex2 bytes ++ 10 ∷ []) e

pub returns : goal.returns
unfolding data_line_at
returns c =
    let from = 32 * c.args.i in
    let written : List ℕ → Type 0 = λ line. OnOk c.push_data.result (string_bytes c.push_data.new.out ≡ string_bytes c.args.out.now ++ line) in
    let part = part_is c.args.bytes.now from 32 c.min-to.result c.min-to.ensures in
    let line = line_is _ _ _ c.address_at.ensures ∙ ap (data_line (c.args.start + from)) part in
    subst written line c.push_data.ensures
