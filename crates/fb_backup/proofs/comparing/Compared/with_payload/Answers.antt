use Rattle.std.proofs.Common.{[], ◌∷◌, subst}
use Rattle.std.proofs.lemmas.Result.{IfOk-weaker}
use Rattle.fb_backup.specs.Comparing.{AreCompared}
use Rattle.fb_backup.proofs.Records.{misfit-stays}
use Rattle.fb_backup.proofs.comparing.Compared.with_payload.Goals as goal

pub compared_in-requires-clause-beside : goal.compared_in-requires-clause-beside
compared_in-requires-clause-beside c =
    (c.requires.compared.0, subst (AreCompared c.args.entries.now c.requires.compared.0) c.in-Entries.is c.requires.compared.1)

pub returns-in-Entries : goal.returns-in-Entries
returns-in-Entries c =
    IfOk-weaker c.compared_in.result _ _
    (λ compared is. λ records are number here.
    is records (subst (AreCompared c.args.entries.now records) c.in-Entries.is are) number here)
    c.compared_in.ensures

pub returns-in-Misfit : goal.returns-in-Misfit
returns-in-Misfit c = λ records are number here.
    misfit-stays [] records (c.args.payload.now ∷ []) c.in-Misfit.nth c.in-Misfit.at
    (subst (AreCompared c.args.entries.now records) c.in-Misfit.is are)
