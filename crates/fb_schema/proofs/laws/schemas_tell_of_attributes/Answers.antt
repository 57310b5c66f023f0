use Rattle.std.proofs.Common.{ap, ◌∙◌}
use Rattle.fb_model.specs.Facts.{facts}
use Rattle.fb_model.specs.Schema.{attribute_of, attribute_named, named, covers}
use Rattle.fb_schema.proofs.Lookups.{attribute_of-described, named-described, attribute_named-described, covers-described}
use Rattle.fb_schema.proofs.laws.schemas_tell_of_attributes.Goals as goal

pub returns-clause-attribute : goal.returns-clause-attribute
returns-clause-attribute c = λ schema h e stands. ap (λ ds. attribute_of ds e) stands ∙ attribute_of-described (facts h) e

pub returns-clause-entity : goal.returns-clause-entity
returns-clause-entity c = λ schema h name stands. ap (λ ds. named ds name) stands ∙ named-described (facts h) name

pub returns-clause-name : goal.returns-clause-name
returns-clause-name c = λ schema h name stands. ap (λ ds. attribute_named ds name) stands ∙ attribute_named-described (facts h) name

pub returns-clause-coverage : goal.returns-clause-coverage
returns-clause-coverage c = λ schema h order a stands. ap (λ ds. covers ds order a) stands ∙ covers-described (facts h) order a
