use Rattle.std.proofs.Common.{◌≡◌, ◌*◌, ◌^◌, ◌%◌, bit_or, ap, ◌∙◌, arith}
use Rattle.std.proofs.lemmas.Nat.{or_shifted}
use Rattle.tc_isa.proofs.fields.then.Goals as goal

pub returns : goal.returns
returns c =
    let fits : c.args.high * 2 ^ c.args.width % 4294967296 ≡ c.args.high * 2 ^ c.args.width = omega arith in
    ap (λ n. bit_or n c.args.field) fits ∙ or_shifted c.args.high c.args.width c.args.field c.requires.field
