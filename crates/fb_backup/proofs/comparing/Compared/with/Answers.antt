use Rattle.std.proofs.Common.{sym, subst, ◌++◌, ◌∷◌, [], List, ℕ}
use Rattle.std.proofs.lemmas.Result.{IfOk-weaker}
use Rattle.disk_log.specs.Records.{IsBehind}
use Rattle.fb_backup.specs.Comparing.{AreCompared}
use Rattle.fb_backup.proofs.comparing.Compared.with.Goals as goal

pub returns-in-Whole : goal.returns-in-Whole
returns-in-Whole c =
    IfOk-weaker c.with_payload.result _ _
    (λ compared more. λ records whole are is.
    let behind = subst (IsBehind records whole c.args.payload.now) c.in-Whole.is is in
    subst (λ (p : List ℕ). AreCompared c.args.entries.now (records ++ p ∷ []) compared) (sym behind.0)
    (more records are behind.1 behind.2))
    c.with_payload.ensures

pub returns-in-Misfit : goal.returns-in-Misfit
returns-in-Misfit c = λ records whole are is.
    c.with_misfit.ensures c.args.entries.now records whole c.args.payload.now are
    (subst (IsBehind records whole c.args.payload.now) c.in-Misfit.is is)
