use Rattle.std.proofs.lemmas.Result.{IfOk-weaker}
use Rattle.seg_store.proofs.newest.first_of.Goals as goal

pub returns-in-Ok-clause-first : goal.returns-in-Ok-clause-first
returns-in-Ok-clause-first g c =
    IfOk-weaker c.first_in.result _ _ (λ first is. is c.args.disk c.in-Ok.ensures.begins) c.first_in.ensures.first

pub returns-in_ok-other-in-Err-clause-first : goal.returns-in_ok-other-in-Err-clause-first
returns-in_ok-other-in-Err-clause-first g c =
    c.in_ok-other-in-Err.ensures.opened (g.D.Disk.bytes c.args.disk) c.in-Err.ensures.why_not c.in-Err.ensures.bytes
