-- The answer of a closure whose answers are those of a function.
use Rattle.std.proofs.Common.{◌≡◌, Bool, true, false, Bor, refl, sym, ap, subst, ◌∙◌}
use Rattle.std.specs.Prelude.{◌↔◌, IsTrue, if◌then◌else◌}
use Rattle.std.proofs.Props.{props}
use Rattle.std.proofs.lemmas.Bool.{true≢false}
use Rattle.std.proofs.Math.Logic.{∥∥₁_elim}
use Rattle.fb_values.specs.declared.facts.Datom.{Datom}
use Rattle.fb_preds.specs.Datoms.{IsDatom}
use Rattle.fb_checks.specs.Held.{is_datom, datom_tested, tested_datom}
use Rattle.fb_checks.specs.Decided.{IsAnswer, Decided, Decided-prop, passes_of, one_truth}

-- an answer that is yes exactly where the datom is selected
pub answer_is : {Selects : Datom → Type 0} (known : ∥ Decided Selects ∥₁) (d : Datom) → IsDatom d → (b : Bool)
    → IsTrue b ↔ Selects d
    → b ≡ passes_of known d
answer_is {Selects} known d held b is =
    ∥∥₁_elim (((∥∥₁_elim known (Decided-prop Selects) (λ decided. decided)).answers d).held held) (hlevel props)
    (one_truth b (passes_of known d) (Selects d) is)

-- a test that says which of the held datoms are selected is the function at these
abbrev of_held : (Datom → Bool) → Datom → Bool
of_held test d = if is_datom d then test d else true

decided_by : {Selects : Datom → Type 0} (test : Datom → Bool) → ((d : Datom) → IsDatom d → IsTrue (test d) ↔ Selects d)
    → Decided Selects
decided_by {Selects} test same = record { passes = of_held test; answers = answers }
  where
    at : (d : Datom) (tested : Bool) → is_datom d ≡ tested → IsAnswer Selects d (if tested then test d else true)
    at d true tested = record { held = λ held. ∣ same d held ∣₁; other = λ none. absurd (none (tested_datom d tested)) }
    at d false tested = record { held = λ held. absurd (true≢false (sym (datom_tested d held) ∙ tested)); other = λ none. refl }

    answers : (d : Datom) → IsAnswer Selects d (of_held test d)
    answers d = at d (is_datom d) refl

-- a closure that may answer what the function says, and nothing else
module _ (post : Bor Datom → Bool → Type 0) (says : Datom → Bool)
    (no_other : (x : Bor Datom) (b : Bool) → IsDatom x.now → post x b → b ≡ says x.now)
    (passing : (x : Bor Datom) → IsDatom x.now → IsTrue (says x.now) → post x true) where
  abbrev Passes : Datom → Type 0
  Passes d = (x : Bor Datom) × (x.now ≡ d) × post x true

  says_passes : (d : Datom) → IsDatom d → IsTrue (says d) ↔ Passes d
  says_passes d held = (
    λ passed. (record { ref_ptr = (0, 0); now = d }, refl, passing (record { ref_ptr = (0, 0); now = d }) held passed),
    λ some. ap says (sym some.1) ∙ sym (no_other some.0 true (subst IsDatom (sym some.1) held) some.2),
  )

  pub kept_once : (x y : Bor Datom) → x.now ≡ y.now → IsDatom x.now → post x true → post y false → ⊥
  kept_once x y same held passed failed =
      true≢false (no_other x true held passed ∙ ap says same ∙ sym (no_other y false (subst IsDatom same held) failed))

  pub kept_decided : ∥ Decided Passes ∥₁
  kept_decided = ∣ decided_by says says_passes ∣₁

  pub kept_says : (known : ∥ Decided Passes ∥₁) (d : Datom) → IsDatom d → passes_of known d ≡ says d
  kept_says known d held = sym (answer_is known d held (says d) (says_passes d held))
