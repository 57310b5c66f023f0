use Rattle.std.proofs.Common.{false, not, sym, subst, rules, eqb}
use Rattle.std.specs.Prelude.{IsTrue}
use Rattle.std.specs.Option.{option_map_or}
use Rattle.fb_numbers.specs.Numbers.{ident}
use Rattle.fb_model.specs.Facts.{facts}
use Rattle.fb_model.specs.Schema.{is_unique}
use Rattle.fb_pull.proofs.OwnNames.{own_names}
use Rattle.fb_pull.proofs.names.attributes_are_named_by_their_names.Goals as goal

pub returns : goal.returns
returns c = λ h attribute lawful is.
    let unique : IsTrue (is_unique (facts h) ident) =
    subst (λ o. IsTrue (option_map_or (λ a. not (eqb a.uniqueness 0)) o false))
    (sym (c.attributes_stay_attributes.ensures.built_in ident (search rules) h lawful)) (search rules) in
    own_names h (λ e v. c.facts_are_what_holds.ensures h e ident v)
    (λ e f v has has_too. c.one_value_and_one_holder.ensures.one_holder h e f ident v lawful unique has has_too) attribute is
