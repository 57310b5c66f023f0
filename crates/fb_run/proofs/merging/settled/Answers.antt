use Rattle.std.proofs.Common.{◌≡◌, rules}
use Rattle.std.proofs.lemmas.Bool.{leb-false}
use Rattle.fb_core.specs.Cores.{live_datoms}
use Rattle.merge_worker.specs.declared.ends.WorkEnd.TheVariants.{StoreFault}
use Rattle.fb_run.specs.Outside.{disks_of}
use Rattle.fb_run.proofs.Settling.{counts_by, settled_on}
use Rattle.fb_run.proofs.merging.settled.Goals as goal

pub returns-in-Shut-clause-settled : goal.returns-in-Shut-clause-settled
returns-in-Shut-clause-settled g c = λ begun none merged.
    let disks = disks_of g.D.Disk.bytes g.D.Disk.faults g.D.Disk.images g.D.Disk.moment g.D.Disk.images_since in
    let mid = c.args.trees.now in
    let unfailed : c.args.end ≡ StoreFault → ⊥ = search rules in
    let goes = merged.goes unfailed in
    let e = c.settle.ensures in
    settled_on disks begun mid c.args.end merged unfailed (c.requires.fit unfailed) none c.args.merge_at _ c.settle.result
    c.settle.new.core.snapshot (e.kept begun.store goes)
    (λ older. e.stays begun.store older goes)
    (counts_by c.settle.result _ _ e.fault e.unfailed)
    (λ shut. leb-false c.args.merge_at (live_datoms c.settle.new.core.snapshot.live) (e.shut shut)) (λ spent. (e.spent.0 spent).1) e.unspent
