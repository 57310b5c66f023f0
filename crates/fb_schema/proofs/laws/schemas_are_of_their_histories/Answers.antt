use Rattle.std.proofs.Common.{ap, ◌∙◌}
use Rattle.fb_model.specs.Facts.{facts}
use Rattle.fb_model.specs.Schema.{schema_in}
use Rattle.fb_schema.proofs.Lookups.{schema_in-described}
use Rattle.fb_schema.proofs.laws.schemas_are_of_their_histories.Goals as goal

pub returns : goal.returns
returns c = λ schema h stands. ap schema_in stands ∙ schema_in-described (facts h)
