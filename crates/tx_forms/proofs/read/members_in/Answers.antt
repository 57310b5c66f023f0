use Rattle.std.proofs.Common.{Some, ap, sym, ◌∙◌}
use Rattle.edn_form.specs.View.{form_of, forms_of}
use Rattle.tx_model.specs.Shapes.{forms_of as transaction_forms}
use Rattle.tx_forms.proofs.FormMembers.{forms_of_vector, forms_of_list}
use Rattle.tx_forms.proofs.read.members_in.Goals as goal

pub returns-in-Vector : goal.returns-in-Vector
returns-in-Vector c =
    ap (λ fs. Some (forms_of fs)) c.as_slice.ensures
    ∙ sym (ap (λ f. transaction_forms (form_of f)) c.in-Vector.is ∙ forms_of_vector c.in-Vector.items)

pub returns-in-List : goal.returns-in-List
returns-in-List c =
    ap (λ fs. Some (forms_of fs)) c.as_slice-in-List.ensures
    ∙ sym (ap (λ f. transaction_forms (form_of f)) c.in-List.is ∙ forms_of_list c.in-List.items)
