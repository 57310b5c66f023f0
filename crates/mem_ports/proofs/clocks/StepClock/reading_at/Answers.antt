use Rattle.std.proofs.Common.{rules, ◌≡◌, ◌∙◌, ◌-◌, ◌^◌, ℤ, pos, ◌+ℤ◌, ◌*ℤ◌, w64, FitsSigned, to_z, of_z, ap, arith}
use Rattle.std.proofs.lemmas.Int.{ints, to_z-of_z}
use Rattle.std.specs.Prelude.{negsuc}
use Rattle.std.specs.Int.{int_max, int_min, saturate_signed}
use Rattle.mem_ports.specs.Clocks.{Steps, reading_at}
use Rattle.mem_ports.proofs.Readings.{clamped, whole}
use Rattle.mem_ports.proofs.clocks.StepClock.reading_at.Goals as goal
use mir.Syntax.{w128}

pub returns : goal.returns
returns c =
    let first : FitsSigned w64 c.self.inside.first = search rules in
    let step : FitsSigned w64 c.self.inside.step = search rules in
    let sum : FitsSigned w128 c.saturating_add-reading.result = search rules in
    let back : to_z w64 (of_z w64 (to_z w128 (of_z w128 c.clamp.result))) ≡ c.clamp.result = omega (arith, ints) in
    let exact : to_z w128 (of_z w128 c.saturating_add-reading.result)
    ≡ saturate_signed w128 (c.self.inside.first +ℤ pos c.args.call *ℤ c.self.inside.step) =
    to_z-of_z w128 c.saturating_add-reading.result sum
    ∙ c.saturating_add-reading.ensures
    ∙ ap (saturate_signed w128) (whole c.self.inside.first c.self.inside.step c.args.call first step c.ranges.call.fits) in
    back
    ∙ c.clamp.ensures.value
    ∙ ap (λ (z : ℤ). int_max (negsuc (2 ^ 63 - 1)) (int_min z (pos (2 ^ 63 - 1)))) exact
    ∙ clamped (c.self.inside.first +ℤ pos c.args.call *ℤ c.self.inside.step)
    ∙ ap (λ (s : Steps). reading_at s c.args.call) c.self.view_is
