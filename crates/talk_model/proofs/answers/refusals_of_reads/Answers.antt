use Rattle.std.proofs.Common.{refl, Some, Err}
use Rattle.read_refusals.specs.declared.reasons.Reason.TheVariants.{BadComponent}
use Rattle.read_model.specs.Given.{refusal}
use Rattle.talk_model.proofs.answers.refusals_of_reads.Goals as goal

pub returns-clause-datoms : goal.returns-clause-datoms
returns-clause-datoms c = (Err (refusal BadComponent 3), (Some 5, refl, refl), refl)
