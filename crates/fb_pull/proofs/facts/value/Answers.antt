use Rattle.std.proofs.Common.{◌∙◌, ap, Option, Some}
use Rattle.std.specs.Prelude.{filter}
use Rattle.std.specs.Option.{option_map}
use Rattle.edn_values.specs.Values.{form_of_value}
use Rattle.fb_values.specs.declared.facts.Datom.{Datom}
use Rattle.fb_model.specs.Schema.{is_about}
use Rattle.fb_pull.proofs.Entities.{head_map}
use Rattle.fb_pull.proofs.facts.value.Goals as goal

pub returns-in_ok-as_edn-in-Some : goal.returns-in_ok-as_edn-in-Some
returns-in_ok-as_edn-in-Some g c = λ facts sees.
    ap Some c.in_ok-as_edn-in-Some.ensures
    ∙ ap (λ (o : Option Datom). option_map form_of_value (option_map (λ (d : Datom). d.v) o)) (c.in-Some.ensures facts sees)
    ∙ ap (option_map form_of_value) (head_map (λ (d : Datom). d.v) (filter (is_about c.args.e c.args.a) facts.seen))

pub returns-in-None : goal.returns-in-None
returns-in-None g c = λ facts sees.
    ap (λ (o : Option Datom). option_map form_of_value (option_map (λ (d : Datom). d.v) o)) (c.in-None.ensures facts sees)
    ∙ ap (option_map form_of_value) (head_map (λ (d : Datom). d.v) (filter (is_about c.args.e c.args.a) facts.seen))
