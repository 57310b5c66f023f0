use Rattle.std.proofs.Common.{◌≡◌, ◌∷◌, ℕ, ℤ, pos, false, FitsSigned, w32, w64, to_z, of_z, to_z-of_z, ap, ◌∙◌, sym, arith}
use Rattle.std.proofs.lemmas.List.{nil_from_length}
use Rattle.jiff_core.proofs.SignedLemmas.{signed_arith}
use Rattle.edn_model.specs.Instants.{IsDate, instant_of, in_range}
use Rattle.edn_instant.specs.Fronts.{Front}
use Rattle.edn_instant.proofs.FrontDigits.{front_then}
use Rattle.edn_instant.proofs.InstantParts.{no_date, is_midnight, no_time, is_at, out_of_range}
use Rattle.edn_instant.proofs.instant.read_instant.Goals as goal

pub returns-in_err-day : goal.returns-in_err-day
returns-in_err-day c = rw c.from_residual.ensures (no_date c.args.text.now c.in_err-day.ensures.value)

pub returns-in_default : goal.returns-in_default
returns-in_default c =
    let between = c.in_ok-day.ensures.bound in
    let fits : FitsSigned w32 c.in_ok-day.day = omega (arith, signed_arith) in
    let value : c.instant_of.result ≡ instant_of c.in_ok-day.day 0 (pos 0) =
    c.instant_of.ensures ∙ ap (λ (d : ℤ). instant_of d 0 (pos 0)) (to_z-of_z fits) in
    let whole : FitsSigned w64 c.instant_of.result = omega (arith, signed_arith, c.instant_of.type_inv) in
    rw (to_z-of_z whole)
    (is_midnight c.in_ok-day.day c.instant_of.result c.args.text.now c.in_ok-day.rest.now c.in_ok-day.ensures.value
    (nil_from_length c.in_ok-day.rest.now c.in_default.ensures.cases) value)

pub returns-in_err-millis : goal.returns-in_err-millis
returns-in_err-millis c =
    let letter = c.in-Some.ensures.cases.0 ∙ ap (λ (b : ℕ). b ∷ c.in-Some.rest.now) c.if-mark-ne84.false in
    let front : Front (IsDate c.in_ok-day.day) c.args.text.now (84 ∷ c.in-Some.rest.now) =
    front_then _ _ _ _ c.in_ok-day.ensures.value letter in
    rw c.from_residual-in_err-millis.ensures
    (no_time c.in_ok-day.day c.args.text.now c.in-Some.rest.now front c.in_err-millis.ensures.value)

pub returns-then-in_range : goal.returns-then-in_range
returns-then-in_range c =
    let between = c.in_ok-day.ensures.bound in
    let fits : FitsSigned w32 c.in_ok-day.day = omega (arith, signed_arith) in
    let offsets = c.in_ok-millis.ensures.bound in
    let few : FitsSigned w32 c.in_ok-millis.ahead = omega (arith, signed_arith) in
    let letter = c.in-Some.ensures.cases.0 ∙ ap (λ (b : ℕ). b ∷ c.in-Some.rest.now) c.if-mark-ne84.false in
    let front : Front (IsDate c.in_ok-day.day) c.args.text.now (84 ∷ c.in-Some.rest.now) =
    front_then _ _ _ _ c.in_ok-day.ensures.value letter in
    let value : c.instant_of-instant.result ≡ instant_of c.in_ok-day.day c.in_ok-millis.millis c.in_ok-millis.ahead =
    c.instant_of-instant.ensures
    ∙ ap (λ (d : ℤ). instant_of d c.in_ok-millis.millis (to_z w32 (of_z w32 c.in_ok-millis.ahead))) (to_z-of_z fits)
    ∙ ap (λ (o : ℤ). instant_of c.in_ok-day.day c.in_ok-millis.millis o) (to_z-of_z few) in
    let whole : FitsSigned w64 c.instant_of-instant.result = omega (arith, signed_arith, c.instant_of-instant.type_inv) in
    rw (to_z-of_z whole)
    (is_at c.in_ok-day.day c.instant_of-instant.result c.in_ok-millis.millis c.in_ok-millis.ahead c.args.text.now c.in-Some.rest.now front
    c.in_ok-millis.ensures.value value (ap in_range (sym (to_z-of_z whole)) ∙ sym c.in_range.ensures ∙ c.if-in_range.true))

pub returns-else-in_range : goal.returns-else-in_range
returns-else-in_range c =
    let between = c.in_ok-day.ensures.bound in
    let fits : FitsSigned w32 c.in_ok-day.day = omega (arith, signed_arith) in
    let offsets = c.in_ok-millis.ensures.bound in
    let few : FitsSigned w32 c.in_ok-millis.ahead = omega (arith, signed_arith) in
    let letter = c.in-Some.ensures.cases.0 ∙ ap (λ (b : ℕ). b ∷ c.in-Some.rest.now) c.if-mark-ne84.false in
    let front : Front (IsDate c.in_ok-day.day) c.args.text.now (84 ∷ c.in-Some.rest.now) =
    front_then _ _ _ _ c.in_ok-day.ensures.value letter in
    let value : c.instant_of-instant.result ≡ instant_of c.in_ok-day.day c.in_ok-millis.millis c.in_ok-millis.ahead =
    c.instant_of-instant.ensures
    ∙ ap (λ (d : ℤ). instant_of d c.in_ok-millis.millis (to_z w32 (of_z w32 c.in_ok-millis.ahead))) (to_z-of_z fits)
    ∙ ap (λ (o : ℤ). instant_of c.in_ok-day.day c.in_ok-millis.millis o) (to_z-of_z few) in
    let whole : FitsSigned w64 c.instant_of-instant.result = omega (arith, signed_arith, c.instant_of-instant.type_inv) in
    out_of_range c.in_ok-day.day c.in_ok-millis.millis c.in_ok-millis.ahead c.args.text.now c.in-Some.rest.now front
    c.in_ok-millis.ensures.value
    (ap in_range (sym value ∙ sym (to_z-of_z whole)) ∙ sym c.in_range.ensures ∙ c.if-in_range.false)
