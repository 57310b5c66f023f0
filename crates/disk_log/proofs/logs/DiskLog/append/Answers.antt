use Rattle.disk_log.proofs.Keeping.{keeps-added, broke-added, failed-rose}
use Rattle.disk_log.proofs.logs.DiskLog.append.Goals as goal

pub returns-in-Ok-clause-kept : goal.returns-in-Ok-clause-kept
returns-in-Ok-clause-kept g c = λ begun h entry is next keeps.
    let appended = c.append_beside.ensures in let d = g.D.Disk in
    keeps-added d.bytes d.images d.faults d.moment d.images_since h entry c.args.made.now is next begun c.args.self.now _
    c.in-Ok.ensures.acknowledged appended.any_moment c.in-Ok.ensures.known appended.mark c.in-Ok.ensures.counted keeps

pub returns-in-Err-clause-broke : goal.returns-in-Err-clause-broke
returns-in-Err-clause-broke g c = λ begun h entry is next keeps.
    let appended = c.append_beside.ensures in let d = g.D.Disk in
    broke-added d.bytes d.images d.faults d.moment d.images_since h entry c.args.made.now is next begun c.args.self.now
    (record { journal = c.append_beside.new.self }) g.met.D.Disk.counts_now appended.any_moment
    (failed-rose c.append_beside.result _ _ _ _ c.in-Err.is appended.cause appended.going) keeps
