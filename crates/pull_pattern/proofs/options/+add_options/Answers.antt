-- By the lemma on two forms at a time.
use Rattle.std.proofs.Common.{rules, ◌≡◌, Some, IfOk, IfErr, ap, ◌∙◌, subst}
use Rattle.std.proofs.lemmas.List.{take_rest}
use Rattle.edn_form.specs.View.{forms_of}
use Rattle.pull_model.specs.Reading as reading
use Rattle.pull_pattern.specs.Answers.{Refuses}
use Rattle.pull_pattern.specs.View.{model_options}
use Rattle.pull_pattern.proofs.Optional.{options_step}
use Rattle.pull_pattern.proofs.options.+add_options.Goals as goal

pub returns-in_ok-add_option-in-len2-up-clause-given : goal.returns-in_ok-add_option-in-len2-up-clause-given
returns-in_ok-add_option-in-len2-up-clause-given t c =
    subst (λ m. IfOk c.add_options.result (λ _. Some (model_options c.add_options.new.options) ≡ m))
    (ap (λ rest. reading.options_from (model_options c.add_option.new.options) (forms_of rest)) (take_rest c.args.forms.now 2)
    ∙ options_step c.args.forms.now (model_options c.args.options.now) (model_options c.add_option.new.options)
    c.name-item.result c.value-item.result (search rules) (search rules) (search rules) c.in_ok-add_option-in-len2-up.ensures.given)
    c.add_options.ensures.given

pub returns-in_ok-add_option-in-len2-up-clause-refused : goal.returns-in_ok-add_option-in-len2-up-clause-refused
returns-in_ok-add_option-in-len2-up-clause-refused t c =
    subst (λ m. IfErr c.add_options.result (λ stop. Refuses stop m))
    (ap (λ rest. reading.options_from (model_options c.add_option.new.options) (forms_of rest)) (take_rest c.args.forms.now 2)
    ∙ options_step c.args.forms.now (model_options c.args.options.now) (model_options c.add_option.new.options)
    c.name-item.result c.value-item.result (search rules) (search rules) (search rules) c.in_ok-add_option-in-len2-up.ensures.given)
    c.add_options.ensures.refused
