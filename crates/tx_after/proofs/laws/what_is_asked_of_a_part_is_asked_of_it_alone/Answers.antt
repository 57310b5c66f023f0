use Rattle.std.proofs.Common.{◌++◌}
use Rattle.std.proofs.lemmas.Bool.{eq-eqb}
use Rattle.fb_values.specs.declared.indexes.Order.TheVariants.{Eavt, Aevt}
use Rattle.fb_model.specs.History.{said}
use Rattle.fb_facts.specs.FactLists.{is_of_entity, is_under}
use Rattle.tx_after.proofs.Asking.{any_of_part, holder_of_part}
use Rattle.tx_after.proofs.laws.what_is_asked_of_a_part_is_asked_of_it_alone.Goals as goal

pub returns-clause-entity : goal.returns-clause-entity
returns-clause-entity c =
    λ h changes e test within. any_of_part Eavt (is_of_entity e) test (said h ++ changes) (λ d pass. eq-eqb d.e e (within d pass))

pub returns-clause-attribute : goal.returns-clause-attribute
returns-clause-attribute c =
    λ h changes a test within. any_of_part Aevt (is_under a) test (said h ++ changes) (λ d pass. eq-eqb d.a a (within d pass))

pub returns-clause-holder : goal.returns-clause-holder
returns-clause-holder c = holder_of_part
