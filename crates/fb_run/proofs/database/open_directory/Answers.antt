use Rattle.std.proofs.Common.{◌∷◌}
use Rattle.std.proofs.lemmas.Result.{IfOk-weaker}
use Rattle.fb_run.specs.Outside.{disks_of}
use Rattle.fb_run.proofs.Directories.{unready_part, not_reopened}
use Rattle.fb_run.proofs.database.open_directory.Goals as goal

pub returns-in-Err-clause-stop : goal.returns-in-Err-clause-stop
returns-in-Err-clause-stop g c = λ ports names rest at.
    let disks = disks_of g.H.Disk.Disk.bytes g.H.Disk.Disk.faults g.H.Disk.Disk.images g.H.Disk.Disk.moment g.H.Disk.Disk.images_since in
    unready_part disks ports c.args.dir.now rest names (g.H.Host.spec c.args.host.now) (g.H.Host.spec c.open_disks.new.host) at
    c.in-Err.ensures.others c.in-Err.why c.in-Err.ensures.stop

pub returns-in-Ok-clause-stop : goal.returns-in-Ok-clause-stop
returns-in-Ok-clause-stop g c = λ ports names rest at.
    let disks = disks_of g.H.Disk.Disk.bytes g.H.Disk.Disk.faults g.H.Disk.Disk.images g.H.Disk.Disk.moment g.H.Disk.Disk.images_since in
    let spec = g.H.Host.spec c.args.host.now in
    let dir = c.args.dir.now in
    let both = c.in-Ok.ensures.opened in
    not_reopened spec disks dir c.in-Ok.field-0.log both.log c.reopened.result ports (dir ∷ names) (g.H.Host.spec c.open_disks.new.host)
    c.in-Ok.field-0.segments both.segments c.in-Ok.ensures.streams.faults c.reopened.ensures.refused

pub returns-in-Ok-clause-opened : goal.returns-in-Ok-clause-opened
returns-in-Ok-clause-opened g c =
    let both = c.in-Ok.ensures.opened in
    IfOk-weaker c.reopened.result _ _ (λ directory reopened. record {
      disk = c.in-Ok.field-0.log;
      file = c.in-Ok.field-0.segments;
      log = both.log;
      segments = both.segments;
      reopened = reopened;
    }) c.reopened.ensures.opened
