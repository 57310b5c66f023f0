use Rattle.std.proofs.Common.{◌≡◌, ◌++◌, eqb, take, drop, map}
use Rattle.std.specs.Prelude.{filter}
use Rattle.edn_form.specs.View.{forms_of}
use Rattle.edn_values.specs.Values.{form_of_value}
use Rattle.fb_pull.specs.Near.{lent}
use Rattle.fb_pull.proofs.facts.forms_among.Given as goal

abbrev pub invariant-loop-d : goal.invariant-loop-d
invariant-loop-d l =
    forms_of l.list.items ++ map form_of_value (map (λ d. d.v) (take l.left (filter (λ d. eqb d.a l.a) (drop l.d-index (lent l.datoms))))) ≡ map
    form_of_value (map (λ d. d.v) (take l.most (filter (λ d. eqb d.a l.a) (lent l.datoms))))
