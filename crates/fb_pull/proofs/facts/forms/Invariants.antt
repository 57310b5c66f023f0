use Rattle.std.proofs.Common.{◌≡◌, ◌++◌, drop, map}
use Rattle.edn_form.specs.View.{forms_of}
use Rattle.edn_values.specs.Values.{form_of_value}
use Rattle.fb_pull.proofs.facts.forms.Given as goal

abbrev pub invariant-loop-d : goal.invariant-loop-d
invariant-loop-d l =
    forms_of l.list.items ++ map form_of_value (map (λ d. d.now.v) (drop l.d-index l.datoms)) ≡ map form_of_value (map (λ d. d.now.v) l.datoms)
