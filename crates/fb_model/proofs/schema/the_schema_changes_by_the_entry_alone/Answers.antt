-- By the lemma on what more datoms leave as it was.
use Rattle.std.proofs.Common.{◌∙◌, ap}
use Rattle.fb_model.specs.History.{said}
use Rattle.fb_model.specs.Schema.{attribute_of}
use Rattle.fb_model.proofs.Untouched.{attribute_of-untouched}
use Rattle.fb_model.proofs.Invariants.{facts-push}
use Rattle.fb_model.proofs.schema.the_schema_changes_by_the_entry_alone.Goals as goal

pub returns : goal.returns
returns c = λ h entry e none. ap (λ fs. attribute_of fs e) (facts-push h entry) ∙ attribute_of-untouched (said h) entry.datoms e none
