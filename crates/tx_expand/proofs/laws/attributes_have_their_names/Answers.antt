use Rattle.std.proofs.Common.{false, not, sym, ◌∙◌, subst, rules}
use Rattle.std.specs.Prelude.{IsTrue}
use Rattle.std.specs.Option.{option_map_or}
use Rattle.fb_numbers.specs.Numbers.{ident}
use Rattle.fb_model.specs.Facts.{facts}
use Rattle.fb_model.specs.Schema.{is_one}
use Rattle.tx_expand.specs.Known.{HaveOwnNames}
use Rattle.tx_expand.proofs.OwnNames.{own_names}
use Rattle.tx_expand.proofs.laws.attributes_have_their_names.Goals as goal

pub returns-clause-history : goal.returns-clause-history
returns-clause-history c = λ h lawful.
    let one : IsTrue (is_one (facts h) ident) =
    subst (λ o. IsTrue (option_map_or (λ attribute. not attribute.many) o false))
    (sym (c.attributes_stay_attributes.ensures.built_in ident (search rules) h lawful)) (search rules) in
    own_names h (facts h)
    (λ e v visited. subst IsTrue (sym (c.facts_are_what_holds.ensures h e ident v ∙ visited)) (search rules))
    (λ e v w has has_too. c.one_value_and_one_holder.ensures.one_value h e ident v w lawful one has has_too)

pub returns-clause-schema : goal.returns-clause-schema
returns-clause-schema c = λ schema lawful.
    let own : HaveOwnNames (facts lawful.0) = returns-clause-history c lawful.0 lawful.1.0 in
    λ k attribute is. own k attribute (sym (c.schemas_tell_of_attributes.ensures.name schema lawful.0 k lawful.1.1) ∙ is)
