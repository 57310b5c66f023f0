use Rattle.seg_store.proofs.Opening.{opened_back}
use Rattle.seg_store.proofs.newest.wanted_in.Goals as goal

pub returns-in-Err-clause-opened : goal.returns-in-Err-clause-opened
returns-in-Err-clause-opened g c =
    c.in_ok-other-in-Err.ensures.opened (g.D.Disk.bytes c.args.disk) c.in-Err.ensures.why_not c.in-Err.ensures.bytes

pub returns-in-Ok-newest_leaves-clause-opened : goal.returns-in-Ok-newest_leaves-clause-opened
returns-in-Ok-newest_leaves-clause-opened g c =
    let d = g.D.Disk in
    opened_back d.bytes (d.bytes c.args.disk) _ _ c.give_back.ensures
    (c.in-Ok-newest_leaves.ensures.opened c.args.disk c.in-Ok.ensures.begins)
