use Rattle.std.proofs.Common.{subst}
use Rattle.fb_recover.specs.Finding.{HaveFound}
use Rattle.fb_recover.proofs.Reading.{found-misfit, misfit-stays}
use Rattle.fb_recover.proofs.records.Found.with_misfit.Goals as goal

pub returns-in-Entries : goal.returns-in-Entries
returns-in-Entries c = λ records whole read have is.
    found-misfit records c.in-Entries._entries.items whole read c.args.nth c.args.at (subst (HaveFound records) c.in-Entries.is have) is

pub returns-in-Misfit : goal.returns-in-Misfit
returns-in-Misfit c = λ records whole read have is.
    misfit-stays records whole c.in-Misfit.first c.in-Misfit.there (subst (HaveFound records) c.in-Misfit.is have)
