use Rattle.std.proofs.Common.{sym, subst, ◌++◌, ◌∷◌, [], List, ℕ}
use Rattle.std.proofs.lemmas.Result.{IfOk-weaker}
use Rattle.disk_log.specs.Records.{IsBehind}
use Rattle.fb_recover.specs.Finding.{HaveFound}
use Rattle.fb_recover.proofs.records.Found.with.Goals as goal

pub returns-in-Whole : goal.returns-in-Whole
returns-in-Whole c =
    IfOk-weaker c.with_payload.result _ _
    (λ found more. λ records whole have is.
    let behind = subst (IsBehind records whole c.args.payload.now) c.in-Whole.is is in
    subst (λ (p : List ℕ). HaveFound (records ++ p ∷ []) found) (sym behind.0) (more records have behind.1 behind.2))
    c.with_payload.ensures

pub returns-in-Misfit : goal.returns-in-Misfit
returns-in-Misfit c = λ records whole have is.
    c.with_misfit.ensures records whole c.args.payload.now have (subst (IsBehind records whole c.args.payload.now) c.in-Misfit.is is)
