use Rattle.std.proofs.Common.{subst}
use Rattle.std.proofs.lemmas.Result.{IfOk-weaker}
use Rattle.fb_recover.specs.Finding.{HaveFound}
use Rattle.fb_recover.proofs.Reading.{found-more, misfit-stays}
use Rattle.fb_recover.proofs.records.Found.with_payload.Goals as goal

pub returns-in-Entries : goal.returns-in-Entries
returns-in-Entries c =
    IfOk-weaker c.found_in.result _ _
    (λ found is. λ records have number here.
    found-more records c.in-Entries.entries.items c.args.place c.args.payload.now found (subst (HaveFound records) c.in-Entries.is have)
    number here is)
    c.found_in.ensures

pub returns-in-Misfit : goal.returns-in-Misfit
returns-in-Misfit c = λ records have number here.
    misfit-stays records c.args.payload.now c.in-Misfit.nth c.in-Misfit.at (subst (HaveFound records) c.in-Misfit.is have)
