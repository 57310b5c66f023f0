-- By the lemmas on attributes in lawful histories.
use Rattle.std.proofs.Common.{◌∙◌, ap}
use Rattle.fb_model.specs.Schema.{is_attribute}
use Rattle.fb_model.proofs.Invariants.{facts-push}
use Rattle.fb_model.proofs.SchemaHistories.{attribute_stays, builtin_stays}
use Rattle.fb_model.proofs.schema.attributes_stay_attributes.Goals as goal

pub returns-clause-installed : goal.returns-clause-installed
returns-clause-installed c =
    λ h entry e next installed. ap (λ fs. is_attribute fs e) (facts-push h entry) ∙ attribute_stays h entry e next installed

pub returns-clause-built_in : goal.returns-clause-built_in
returns-clause-built_in c = builtin_stays
