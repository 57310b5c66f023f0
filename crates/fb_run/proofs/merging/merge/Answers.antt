use Rattle.fb_run.specs.Outside.{disks_of}
use Rattle.fb_run.proofs.Settling.{goes_on, counts_by}
use Rattle.fb_run.proofs.merging.merge.Goals as goal

pub returns : goal.returns
returns g c =
    let disks = disks_of g.D.Disk.bytes g.D.Disk.faults g.D.Disk.images g.D.Disk.moment g.D.Disk.images_since in
    let store = c.args.worker.now.trees.store in
    let goes = goes_on disks c.args.worker.now.trees c.requires.fit in
    let e = c.work-worker.ensures in
    record {
      can_work = (e.seat, record { base = e.base; ahead = e.ahead });
      same = e.same;
      merged = record {
        base = e.kept store goes;
        ahead = e.ahead_kept store goes;
        stays = λ older kept. e.stays store older goes kept;
        goes = λ not. (e.unfailed not).0 store goes;
        counts = counts_by c.work-worker.result _ _ e.fault e.unfailed;
      };
      fit = e.fits;
    }
