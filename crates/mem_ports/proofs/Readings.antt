-- A stepping clock's reading, in 128 bits and then within an i64.
use Rattle.std.proofs.Common.{◌≡◌, ◌∙◌, ◌-◌, ◌^◌, ◌<◌, ◌≤◌, ℕ, ℤ, pos, ◌+ℤ◌, ◌*ℤ◌, w64, FitsSigned, to_z, of_z, ap, arith}
use Rattle.std.proofs.lemmas.Int.{ints, to_z-of_z, fits_signed_mul}
use Rattle.std.specs.Prelude.{negsuc, unsigned_abs}
use Rattle.std.specs.Int.{int_max, int_min, saturate_signed}
use mir.Syntax.{w128}

pub clamped : (z : ℤ) → int_max (negsuc (2 ^ 63 - 1)) (int_min (saturate_signed w128 z) (pos (2 ^ 63 - 1))) ≡ saturate_signed w64 z
clamped (pos n) = grind arith
clamped (negsuc n) = grind arith

abs_fits : (z : ℤ) → FitsSigned w64 z → unsigned_abs z ≤ 2 ^ 63
abs_fits (pos n) fits = omega (arith, fits.sfits)
abs_fits (negsuc n) fits = omega (arith, fits.sfits)

-- nothing is lost on the way
pub whole : (first step : ℤ) (call : ℕ) → FitsSigned w64 first → FitsSigned w64 step → call < 2 ^ 64
    → to_z w128 (of_z w128 (to_z w64 (of_z w64 first))) +ℤ to_z w128
    (of_z w128 (to_z w128 call *ℤ to_z w128 (of_z w128 (to_z w64 (of_z w64 step))))) ≡ first +ℤ pos call *ℤ step
whole first step call f s c =
    let from : to_z w128 (of_z w128 (to_z w64 (of_z w64 first))) ≡ first = omega (arith, ints) in
    let by : to_z w128 (of_z w128 (to_z w64 (of_z w64 step))) ≡ step = omega (arith, ints) in
    let times : to_z w128 call ≡ pos call = omega (arith, ints) in
    let fits : FitsSigned w128 (pos call *ℤ step) =
    fits_signed_mul w128 (pos call) step (2 ^ 64 - 1) (2 ^ 63) (omega arith) (abs_fits step s) (omega arith) in
    let way : to_z w128 (of_z w128 (pos call *ℤ step)) ≡ pos call *ℤ step = to_z-of_z w128 (pos call *ℤ step) fits in
    ap (λ (z : ℤ). z +ℤ to_z w128 (of_z w128 (to_z w128 call *ℤ to_z w128 (of_z w128 (to_z w64 (of_z w64 step)))))) from
    ∙ ap (λ (z : ℤ). first +ℤ to_z w128 (of_z w128 (z *ℤ to_z w128 (of_z w128 (to_z w64 (of_z w64 step)))))) times
    ∙ ap (λ (z : ℤ). first +ℤ to_z w128 (of_z w128 (pos call *ℤ z))) by
    ∙ ap (λ (z : ℤ). first +ℤ z) way
