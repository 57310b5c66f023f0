-- By the lemma on vectors.
use Rattle.std.proofs.Common.{ap, sym, ◌∙◌, subst}
use Rattle.edn_form.specs.View.{form_of, forms_of}
use Rattle.pull_model.specs.Reading as reading
use Rattle.pull_pattern.specs.Answers.{Gives}
use Rattle.pull_pattern.specs.View.{model_item}
use Rattle.pull_pattern.proofs.Joined.{specified_vector}
use Rattle.pull_pattern.proofs.reading.specified.Goals as goal

pub returns-in-Vector : goal.returns-in-Vector
returns-in-Vector c =
    subst (λ o. Gives model_item o c.item_with_options.result)
    (ap (λ es. reading.item_with_options (forms_of es)) c.as_slice.ensures
    ∙ sym (ap (λ f. reading.specified (form_of f)) c.in-Vector.is ∙ specified_vector c.in-Vector.items))
    c.item_with_options.ensures
