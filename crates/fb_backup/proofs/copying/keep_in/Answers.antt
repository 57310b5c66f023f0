use Rattle.std.proofs.Common.{[], subst}
use Rattle.fb_backup.proofs.CopiedTrees.{fits-none, copy-left}
use Rattle.fb_backup.proofs.copying.keep_in.Goals as goal

pub returns-in-Ok-clause-copy : goal.returns-in-Ok-clause-copy
returns-in-Ok-clause-copy g c = λ before file told image left.
    let d = g.D.Disk in
    let kept = c.in-Ok.ensures.kept [] before (fits-none c.args.roots.now) in
    let now = c.in-Ok.ensures.known file told in
    copy-left d.bytes d.images kept.0 c.args.roots.now c.args.c c.args.store c.keep.new.self before kept.1 kept.2 c.in-Ok.ensures.ids
    now.0 now.1 image (subst (λ disk. d.images disk image) c.give_back.ensures left)
