use Rattle.command_line.specs.Words.{backup}
use Rattle.fb_run.specs.Outside.{streams_of, disks_of}
use Rattle.fb_run.specs.Targets.{TargetHolds, TargetHasRoot}
use Rattle.fb_run.proofs.Lists.{none_then}
use Rattle.fb_run.proofs.Causing.{caused_by_unready, unready_unharmed}
use Rattle.fb_run.proofs.Backups.{caused_by_backup, backup_unharmed, target_holds, target_has_root}
use Rattle.fb_run.proofs.backing.back_up.Goals as goal

pub returns-in-Ok-clause-causes : goal.returns-in-Ok-clause-causes
returns-in-Ok-clause-causes g c =
    let io = streams_of g.H.In.Source.left g.H.In.Source.faults g.H.Out.Sink.contents g.H.Out.Sink.faults in
    let disks = disks_of g.H.Disk.Disk.bytes g.H.Disk.Disk.faults g.H.Disk.Disk.images g.H.Disk.Disk.moment g.H.Disk.Disk.images_since in
    let out = c.backed_up.ensures in
    caused_by_backup (g.H.Host.spec c.args.host.now) (g.H.Host.spec c.open_backup.new.host) io disks c.backed_up.result
    c.args.names.now.from.now c.args.names.now.to.now c.in-Ok.begun c.in-Ok.ensures.begun out.none out.log out.segments out.backed_up

pub returns-in-Ok-clause-unharmed : goal.returns-in-Ok-clause-unharmed
returns-in-Ok-clause-unharmed g c =
    let io = streams_of g.H.In.Source.left g.H.In.Source.faults g.H.Out.Sink.contents g.H.Out.Sink.faults in
    let disks = disks_of g.H.Disk.Disk.bytes g.H.Disk.Disk.faults g.H.Disk.Disk.images g.H.Disk.Disk.moment g.H.Disk.Disk.images_since in
    let out = c.backed_up.ensures in
    backup_unharmed (g.H.Host.spec c.args.host.now) (g.H.Host.spec c.open_backup.new.host) io disks c.backed_up.result
    c.args.names.now.from.now c.args.names.now.to.now c.in-Ok.begun c.in-Ok.ensures.begun out.none out.log out.segments out.backed_up

pub returns-in-Ok-clause-target : goal.returns-in-Ok-clause-target
returns-in-Ok-clause-target g c =
    let io = streams_of g.H.In.Source.left g.H.In.Source.faults g.H.Out.Sink.contents g.H.Out.Sink.faults in
    let disks = disks_of g.H.Disk.Disk.bytes g.H.Disk.Disk.faults g.H.Disk.Disk.images g.H.Disk.Disk.moment g.H.Disk.Disk.images_since in
    let out = c.backed_up.ensures in
    target_holds (g.H.Host.spec c.args.host.now) (g.H.Host.spec c.open_backup.new.host) io disks c.backed_up.result
    c.args.names.now.from.now c.args.names.now.to.now c.in-Ok.begun c.in-Ok.ensures.begun out.none out.log out.segments out.backed_up

pub returns-in-Ok-clause-target_trees : goal.returns-in-Ok-clause-target_trees
returns-in-Ok-clause-target_trees g c =
    let io = streams_of g.H.In.Source.left g.H.In.Source.faults g.H.Out.Sink.contents g.H.Out.Sink.faults in
    let disks = disks_of g.H.Disk.Disk.bytes g.H.Disk.Disk.faults g.H.Disk.Disk.images g.H.Disk.Disk.moment g.H.Disk.Disk.images_since in
    let out = c.backed_up.ensures in
    target_has_root (g.H.Host.spec c.args.host.now) (g.H.Host.spec c.open_backup.new.host) io disks c.backed_up.result
    c.args.names.now.from.now c.args.names.now.to.now c.in-Ok.begun c.in-Ok.ensures.begun out.none out.log out.segments out.backed_up

pub returns-in-Err-clause-causes : goal.returns-in-Err-clause-causes
returns-in-Err-clause-causes g c =
    let io = streams_of g.H.In.Source.left g.H.In.Source.faults g.H.Out.Sink.contents g.H.Out.Sink.faults in
    let disks = disks_of g.H.Disk.Disk.bytes g.H.Disk.Disk.faults g.H.Disk.Disk.images g.H.Disk.Disk.moment g.H.Disk.Disk.images_since in
    let out = c.not_begun.ensures in
    caused_by_unready (g.H.Host.spec c.args.host.now) (g.H.Host.spec c.open_backup.new.host) io disks c.not_begun.result
    (backup c.args.names.now.from.now c.args.names.now.to.now) c.in-Err.unready c.in-Err.ensures.stop out.none out.log out.segments
    out.no_console out.no_target out.said

pub returns-in-Err-clause-unharmed : goal.returns-in-Err-clause-unharmed
returns-in-Err-clause-unharmed g c =
    let io = streams_of g.H.In.Source.left g.H.In.Source.faults g.H.Out.Sink.contents g.H.Out.Sink.faults in
    let disks = disks_of g.H.Disk.Disk.bytes g.H.Disk.Disk.faults g.H.Disk.Disk.images g.H.Disk.Disk.moment g.H.Disk.Disk.images_since in
    let out = c.not_begun.ensures in
    unready_unharmed (g.H.Host.spec c.args.host.now) (g.H.Host.spec c.open_backup.new.host) io disks c.not_begun.result
    (backup c.args.names.now.from.now c.args.names.now.to.now) c.in-Err.unready c.in-Err.ensures.stop out.none out.log out.segments

pub returns-in-Err-clause-target : goal.returns-in-Err-clause-target
returns-in-Err-clause-target g c =
    let disks = disks_of g.H.Disk.Disk.bytes g.H.Disk.Disk.faults g.H.Disk.Disk.images g.H.Disk.Disk.moment g.H.Disk.Disk.images_since in
    none_then (TargetHolds (g.H.Host.spec c.args.host.now) disks c.args.names.now.from.now c.args.names.now.to.now
    c.not_begun.result.status) c.not_begun.result.target_log c.not_begun.ensures.no_target.log

pub returns-in-Err-clause-target_trees : goal.returns-in-Err-clause-target_trees
returns-in-Err-clause-target_trees g c =
    let disks = disks_of g.H.Disk.Disk.bytes g.H.Disk.Disk.faults g.H.Disk.Disk.images g.H.Disk.Disk.moment g.H.Disk.Disk.images_since in
    none_then (TargetHasRoot (g.H.Host.spec c.args.host.now) disks c.args.names.now.from.now c.args.names.now.to.now
    c.not_begun.result.status) c.not_begun.result.target_segments c.not_begun.ensures.no_target.segments
