use Rattle.std.proofs.Common.{◌≡◌, ◌∷◌, List, ℕ, ℤ, pos, neg_ℤ, ◌-ℤ◌, FitsSigned, w32, refl, ap, ◌∙◌, arith}
use Rattle.std.proofs.lemmas.Bool.Decides.{nat_tests}
use Rattle.std.proofs.lemmas.Int.{to_z_pos, to_z-of_z}
use Rattle.jiff_core.proofs.SignedLemmas.{signed_arith}
use Rattle.std.proofs.lemmas.List.{nil_from_length}
use Rattle.edn_model.specs.Instants.{unsaid, utc}
use Rattle.edn_instant.proofs.TimeParts.{no_east, no_west, is_east, is_west, clock_below}
use Rattle.edn_instant.proofs.times.offset.Goals as goal

pub returns-in_default-clause-value : goal.returns-in_default-clause-value
returns-in_default-clause-value c = unsaid (nil_from_length c.args.bytes.now c.in_default.ensures.cases) refl

pub returns-in_err-whole_clock-in-43-clause-value :
    goal.returns-in_err-whole_clock-in-43-clause-value
returns-in_err-whole_clock-in-43-clause-value c =
    rw c.from_residual.ensures
    (no_east c.args.bytes.now c.in-Some.rest.now
    (c.in-Some.ensures.cases.0 ∙ ap (λ (b : ℕ). b ∷ c.in-Some.rest.now) c.in-43.is) c.in_err-whole_clock-in-43.ensures)

pub returns-in_err-whole_clock-in-45-clause-value :
    goal.returns-in_err-whole_clock-in-45-clause-value
returns-in_err-whole_clock-in-45-clause-value c =
    rw c.from_residual-in_err-whole_clock-in-45.ensures
    (no_west c.args.bytes.now c.in-Some.rest.now
    (c.in-Some.ensures.cases.0 ∙ ap (λ (b : ℕ). b ∷ c.in-Some.rest.now) c.in-45.is) c.in_err-whole_clock-in-45.ensures)

pub returns-in-90-clause-value : goal.returns-in-90-clause-value
returns-in-90-clause-value c =
    let none = nil_from_length c.in-Some.rest.now (grind (arith, nat_tests)) in
    utc (c.in-Some.ensures.cases.0 ∙ ap (λ (b : ℕ). b ∷ c.in-Some.rest.now) c.in-90.is ∙ ap (λ (t : List ℕ). 90 ∷ t) none) refl

pub returns-in_ok-whole_clock-in-43-clause-value :
    goal.returns-in_ok-whole_clock-in-43-clause-value
returns-in_ok-whole_clock-in-43-clause-value c =
    let few = clock_below c.in_ok-whole_clock-in-43.field-0 c.in-Some.rest.now c.in_ok-whole_clock-in-43.ensures in
    rw (to_z_pos w32 c.in_ok-whole_clock-in-43.field-0 (omega (arith, few)))
    (is_east c.in_ok-whole_clock-in-43.field-0 c.args.bytes.now c.in-Some.rest.now
    (c.in-Some.ensures.cases.0 ∙ ap (λ (b : ℕ). b ∷ c.in-Some.rest.now) c.in-43.is) c.in_ok-whole_clock-in-43.ensures)

pub returns-in_ok-whole_clock-in-45-clause-value :
    goal.returns-in_ok-whole_clock-in-45-clause-value
returns-in_ok-whole_clock-in-45-clause-value c =
    let few = clock_below c.in_ok-whole_clock-in-45.field-0 c.in-Some.rest.now c.in_ok-whole_clock-in-45.ensures in
    let fits : FitsSigned w32 (neg_ℤ (pos c.in_ok-whole_clock-in-45.field-0)) = omega (arith, signed_arith, few) in
    let west =
    is_west c.in_ok-whole_clock-in-45.field-0 c.args.bytes.now c.in-Some.rest.now
    (c.in-Some.ensures.cases.0 ∙ ap (λ (b : ℕ). b ∷ c.in-Some.rest.now) c.in-45.is) c.in_ok-whole_clock-in-45.ensures in
    rw (
      to_z_pos w32 c.in_ok-whole_clock-in-45.field-0 (omega (arith, few)),
      minus_is c.in_ok-whole_clock-in-45.field-0,
      to_z-of_z w32 _ fits,
    ) west
  where
    minus_is : (n : ℕ) → pos 0 -ℤ pos n ≡ neg_ℤ (pos n)
    minus_is n = omega (arith, signed_arith)
