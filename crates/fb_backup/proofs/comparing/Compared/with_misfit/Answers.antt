use Rattle.std.proofs.Common.{[], ◌∷◌, subst}
use Rattle.fb_backup.specs.Comparing.{AreCompared}
use Rattle.fb_backup.proofs.Records.{misfit-behind, misfit-stays}
use Rattle.fb_backup.proofs.comparing.Compared.with_misfit.Goals as goal

pub returns-in-Entries : goal.returns-in-Entries
returns-in-Entries c = λ h records whole read are is.
    misfit-behind h records c.in-Entries.beside whole read c.args.nth c.args.at (subst (AreCompared h records) c.in-Entries.is are) is

pub returns-in-Misfit : goal.returns-in-Misfit
returns-in-Misfit c = λ h records whole read are is.
    misfit-stays [] records (whole ∷ []) c.in-Misfit.first c.in-Misfit.there (subst (AreCompared h records) c.in-Misfit.is are)
