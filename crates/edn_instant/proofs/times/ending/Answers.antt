use Rattle.std.proofs.Common.{◌≤◌, ◌∷◌, List, ℕ, FitsSigned, w32, length, inl, inr, ap, ◌∙◌, arith}
use Rattle.std.proofs.lemmas.Bool.Decides.{nat_tests}
use Rattle.std.proofs.lemmas.Int.{to_z-of_z}
use Rattle.jiff_core.proofs.SignedLemmas.{signed_arith}
use Rattle.edn_model.specs.Bytes.{point}
use Rattle.edn_instant.proofs.TimeParts.{ending_without, ending_with, no_ending_with}
use Rattle.edn_instant.proofs.times.ending.Goals as goal

pub returns-in_default-clause-value : goal.returns-in_default-clause-value
returns-in_default-clause-value c =
    let between = c.in_ok-offset.ensures.bound in
    let fits : FitsSigned w32 c.in_ok-offset.field-0 = omega (arith, signed_arith) in
    rw (to_z-of_z w32 c.in_ok-offset.field-0 fits) (ending_without c.args.bytes.now c.in_ok-offset.field-0 c.in_ok-offset.ensures.value)

pub returns-then-is_empty-clause-value : goal.returns-then-is_empty-clause-value
returns-then-is_empty-clause-value c =
    no_ending_with c.args.bytes.now c.in-Some.rest.now _ _ c.in-Some.ensures c.split_digits.ensures
    (λ few. absurd (elim c.then-is_empty.either [
      | inl none ↦ grind (arith, nat_tests, none, few)
      | inr many ↦ omega (arith, many, few)
    ]))

pub returns-in_err-offset-2-clause-value : goal.returns-in_err-offset-2-clause-value
returns-in_err-offset-2-clause-value c =
    rw c.from_residual-in_err-offset-2.ensures
    (no_ending_with c.args.bytes.now c.in-Some.rest.now _ _ c.in-Some.ensures c.split_digits.ensures
    (λ few. c.in_err-offset-2.ensures.value))

pub returns-clause-value : goal.returns-clause-value
returns-clause-value c =
    let between = c.in_ok-offset-2.ensures.bound in
    let fits : FitsSigned w32 c.in_ok-offset-2.field-0 = omega (arith, signed_arith) in
    let some : 1 ≤ length c.split_digits.result.0.now = grind (arith, nat_tests) in
    rw (to_z-of_z w32 c.in_ok-offset-2.field-0 fits)
    (ending_with c.args.bytes.now c.split_digits.result.0.now c.split_digits.result.1.now c.millis_of.result c.in_ok-offset-2.field-0
    (c.in-Some.ensures ∙ ap (λ (t : List ℕ). point ∷ t) c.split_digits.ensures.is) c.split_digits.ensures.each (some, c.if-digits-gt9.false)
    c.millis_of.ensures.value c.in_ok-offset-2.ensures.value)
