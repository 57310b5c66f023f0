-- By the lemmas on steps and on what they record.
use Rattle.std.proofs.Common.{sym, subst}
use Rattle.fb_model.specs.Lawful.{IsLawfulAfter}
use Rattle.tx_model.proofs.Steps.{accepted_at}
use Rattle.tx_model.proofs.StepLaws.{step-lawful}
use Rattle.tx_model.proofs.lawful.an_accepted_entry_is_lawful.Goals as goal

pub returns : goal.returns
returns c =
    λ h asked guard reading entry tempids lawful accepted. let is = accepted_at h asked guard reading entry tempids accepted in
    subst (IsLawfulAfter h) (sym is.entry_is) (step-lawful h is.forms reading lawful is.is_not_refused)
