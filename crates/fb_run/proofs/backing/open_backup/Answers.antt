use Rattle.std.proofs.Common.{◌∷◌, [], Some, refl}
use Rattle.command_line.specs.Words.{backup, standard}
use Rattle.fb_run.specs.Outside.{streams_of, disks_of, ports_of}
use Rattle.fb_run.proofs.Backups.{is_begun, is_unready, opens_all, opens_alone}
use Rattle.fb_run.proofs.backing.open_backup.Goals as goal

pub returns-in-Ok-clause-begun : goal.returns-in-Ok-clause-begun
returns-in-Ok-clause-begun g c =
    let io = streams_of g.H.In.Source.left g.H.In.Source.faults g.H.Out.Sink.contents g.H.Out.Sink.faults in
    let disks = disks_of g.H.Disk.Disk.bytes g.H.Disk.Disk.faults g.H.Disk.Disk.images g.H.Disk.Disk.moment g.H.Disk.Disk.images_since in
    let out = c.open_behind.ensures in
    is_begun (g.H.Host.spec c.args.host.now) (g.H.Host.spec c.open_directory.new.host) (g.H.Host.spec c.open_behind.new.host) io disks
    c.args.names.now.from.now c.args.names.now.to.now c.requires.apart c.in-Ok.directory c.in-Ok.ensures.opened c.in-Ok.ensures.streams
    c.in-Ok.ensures.others c.open_behind.result out.directory out.outside

pub returns-in-Ok-clause-stop : goal.returns-in-Ok-clause-stop
returns-in-Ok-clause-stop g c =
    let disks = disks_of g.H.Disk.Disk.bytes g.H.Disk.Disk.faults g.H.Disk.Disk.images g.H.Disk.Disk.moment g.H.Disk.Disk.images_since in
    let out = c.open_behind.ensures in
    is_unready disks c.args.names.now.from.now c.args.names.now.to.now (g.H.Host.spec c.args.host.now)
    (g.H.Host.spec c.open_directory.new.host) (g.H.Host.spec c.open_behind.new.host) c.in-Ok.ensures.others c.in-Ok.directory
    c.in-Ok.ensures.opened c.in-Ok.ensures.streams c.open_behind.result out.others out.stop

pub returns-in-Ok-clause-others : goal.returns-in-Ok-clause-others
returns-in-Ok-clause-others g c =
    let disks = disks_of g.H.Disk.Disk.bytes g.H.Disk.Disk.faults g.H.Disk.Disk.images g.H.Disk.Disk.moment g.H.Disk.Disk.images_since in
    opens_all disks c.args.names.now.from.now c.args.names.now.to.now (g.H.Host.spec c.args.host.now)
    (g.H.Host.spec c.open_directory.new.host) (g.H.Host.spec c.open_behind.new.host) c.in-Ok.ensures.others c.open_behind.ensures.others

pub returns-in-Err-clause-stop : goal.returns-in-Err-clause-stop
returns-in-Err-clause-stop g c =
    let from = c.args.names.now.from.now in
    let to = c.args.names.now.to.now in
    c.in-Err.ensures.stop (ports_of (Some (backup from to))) (to ∷ standard ∷ []) (to ∷ []) refl

pub returns-in-Err-clause-others : goal.returns-in-Err-clause-others
returns-in-Err-clause-others g c =
    opens_alone c.args.names.now.from.now c.args.names.now.to.now (g.H.Host.spec c.args.host.now)
    (g.H.Host.spec c.open_directory.new.host) c.in-Err.ensures.others
