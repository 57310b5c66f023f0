use Rattle.std.proofs.Common.{ℤ, pos, ◌+ℤ◌, ◌<ℤ◌, w64, refl, arith, SFits}
use Rattle.std.proofs.lemmas.Int.{to_z-of_z, ints}
use Rattle.fb_numbers.specs.Numbers.{greatest_instant}
use Rattle.tx_rules.proofs.recording.instant_after.Goals as goal

later_fits : (last : ℤ) → last <ℤ greatest_instant → SFits w64 last → SFits w64 (last +ℤ pos 1)
later_fits last below fits = grind (arith, ints)

pub returns : goal.returns
returns c =
    let last = c.args.last in
    let reading = to_z-of_z w64 c.args.reading c.ranges.reading in
    let raised = to_z-of_z w64 c.max.result (record { sfits = c.max.type_inv }) in
    let clamped = to_z-of_z w64 c.min.result (record { sfits = c.min.type_inv }) in
    let later = to_z-of_z w64 (last +ℤ pos 1) (later_fits last c.requires c.ranges.last) in
    rw (
      to_z-of_z w64 c.max-2.result (record { sfits = c.max-2.type_inv }),
      c.max-2.ensures.value,
      clamped,
      c.min.ensures.value,
      raised,
      c.max.ensures.value,
      reading,
      to_z-of_z w64 last c.ranges.last,
      later,
    ) refl
