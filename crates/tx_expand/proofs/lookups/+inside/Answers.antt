use Rattle.std.proofs.Common.{◌≡◌, true, ap, sym, ◌∙◌, rules}
use Rattle.edn_model.specs.Form as edn
use Rattle.edn_form.specs.View.{form_of, forms_of, members}
use Rattle.edn_form.proofs.Views.{form_of-Vector}
use Rattle.tx_model.specs.NameRules.{lookups_from}
use Rattle.tx_model.specs.Walk.{has_ref}
use Rattle.tx_expand.specs.Faults.{lookup_faults, lookups_faults, either_name}
use Rattle.tx_expand.proofs.LookupRefs.{faults_of_vector}
use Rattle.tx_expand.proofs.lookups.+inside.Goals as goal

pub faults_from-returns-in_ok-faults_of_pair-in-Vector : goal.faults_from-returns-in_ok-faults_of_pair-in-Vector
faults_from-returns-in_ok-faults_of_pair-in-Vector t c =
    let facts = c.args.schema.now in
    let k = c.args.k.now in
    let fs = edn.forms (forms_of (members c.in-Vector.items)) in
    let is : form_of c.args.value.now ≡ edn.vector fs = ap form_of c.in-Vector.is ∙ form_of-Vector c.in-Vector.items in
    let refers : has_ref facts k ≡ true = search rules in
    c.or.ensures
    ∙ ap (λ x. either_name x c.in_ok-faults_of_pair-in-Vector.field-0) c.in_ok-here.ensures
    ∙ ap (λ f. either_name (lookup_faults facts (k, f)) c.in_ok-faults_of_pair-in-Vector.field-0) is
    ∙ ap (either_name (lookup_faults facts (k, edn.vector fs))) c.in_ok-faults_of_pair-in-Vector.ensures
    ∙ sym (ap (λ f. lookups_faults facts (lookups_from facts k f)) is ∙ faults_of_vector facts k fs refers)
