use Rattle.std.proofs.Common.{refl, subst}
use Rattle.fb_run.specs.Outside.{disks_of}
use Rattle.fb_run.specs.Copying.{Copies}
use Rattle.fb_run.proofs.backing.backed_up.Goals as goal

pub returns-clause-backed_up : goal.returns-clause-backed_up
returns-clause-backed_up g c =
    let disks = disks_of g.D.Disk.bytes g.D.Disk.faults g.D.Disk.images g.D.Disk.moment g.D.Disk.images_since in
    let copy = c.copy-copied in
    record {
      now = copy.result;
      log_is = refl;
      segments_is = refl;
      copies = subst (λ s. Copies disks s c.args.begun.outside.target copy.result.target copy.result.end) c.snapshot.ensures.snapshot
          (record { ended = copy.ensures.ended; beginnings = copy.ensures.beginnings; records = copy.ensures.records });
      told = rw (← c.reach-reach.ensures.basis, ← c.reach-reach.ensures.covered) c.told.ensures.told;
    }
