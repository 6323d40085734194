use Rattle.std.proofs.Common.{◌≡◌, ◌≤◌, ◌^◌, ap, ◌∙◌, arith, ℤ, pos, negsuc, ◌*ℤ◌, FitsSigned, unsigned_abs, w32, w64, to_z, of_z}
use Rattle.std.proofs.lemmas.Int.{to_z-of_z, fits_signed_mul}
use Rattle.tc_exec.specs.Arithmetic.{high_half}
use Rattle.tc_exec.proofs.arithmetic.product_signed.Goals as goal

at_most : (x : ℤ) → FitsSigned w32 x → unsigned_abs x ≤ 2 ^ 31
at_most (pos n) f = let h = f.sfits in omega arith
at_most (negsuc n) f = let h = f.sfits in omega arith

product_fits : (x y : ℤ) → FitsSigned w32 x → FitsSigned w32 y → FitsSigned w64 (x *ℤ y)
product_fits x y f g = fits_signed_mul w64 x y (2 ^ 31) (2 ^ 31) (at_most x f) (at_most y g) (omega arith)

pub returns : goal.returns
returns c =
    let x_fits : FitsSigned w32 c.cast_signed.result = record { sfits = c.cast_signed.type_inv } in
    let y_fits : FitsSigned w32 c.cast_signed-2.result = record { sfits = c.cast_signed-2.type_inv } in
    let x : c.from.result ≡ c.cast_signed.result = c.from.ensures ∙ to_z-of_z w32 c.cast_signed.result x_fits in
    let y : c.from-2.result ≡ c.cast_signed-2.result = c.from-2.ensures ∙ to_z-of_z w32 c.cast_signed-2.result y_fits in
    let wide_x : to_z w64 (of_z w64 c.from.result) ≡ c.cast_signed.result = to_z-of_z w64 c.from.result record { sfits = c.from.type_inv } ∙ x in
    let wide_y : to_z w64 (of_z w64 c.from-2.result) ≡ c.cast_signed-2.result = to_z-of_z w64 c.from-2.result record { sfits = c.from-2.type_inv } ∙ y in
    c.high_half.ensures
    ∙ ap (λ z. high_half (to_z w64 (of_z w64 z))) (λ i. wide_x i *ℤ wide_y i)
    ∙ ap high_half (to_z-of_z w64 (c.cast_signed.result *ℤ c.cast_signed-2.result) (product_fits c.cast_signed.result c.cast_signed-2.result x_fits y_fits))
    ∙ ap high_half (λ i. c.cast_signed.ensures i *ℤ c.cast_signed-2.ensures i)
