-- Options, two forms at a time.
use Rattle.std.proofs.Common.{◌≡◌, ◌≤◌, List, [], ◌∷◌, length, drop, get_or, ap, ap₂, ◌∙◌, arith, Option, Some, option_and_then}
use Rattle.edn_form.specs.declared.form.Edn.{Edn}
use Rattle.edn_form.specs.View.{form_of, forms_of}
use Rattle.pull_model.specs.Patterns.{Options}
use Rattle.pull_model.specs.Reading.{with_option, option_name_in, options_from}

two : (fs : List Edn) (o : Options) (name value : Edn) (more : Option Options)
    → 2 ≤ length fs → name ≡ get_or fs 0 name → value ≡ get_or fs 1 value
    → more ≡ with_option o (option_name_in (form_of name)) (form_of value)
    → option_and_then (λ m. options_from m (forms_of (drop 2 fs))) more ≡ options_from o (forms_of fs)
two [] o name value more long first second reads = absurd (omega (arith, long))
two (a ∷ []) o name value more long first second reads = absurd (omega (arith, long))
two (a ∷ b ∷ rest) o name value more long first second reads =
    ap (option_and_then (λ m. options_from m (forms_of rest)))
    (reads ∙ ap₂ (λ f g. with_option o (option_name_in (form_of f)) (form_of g)) first second)

pub options_step : (fs : List Edn) (o more : Options) (name value : Edn)
    → 2 ≤ length fs → name ≡ get_or fs 0 name → value ≡ get_or fs 1 value
    → Some more ≡ with_option o (option_name_in (form_of name)) (form_of value)
    → options_from more (forms_of (drop 2 fs)) ≡ options_from o (forms_of fs)
options_step fs o more name value long first second reads = two fs o name value (Some more) long first second reads
