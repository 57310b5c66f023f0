use Rattle.command_line.specs.Words.{check}
use Rattle.fb_run.specs.Outside.{streams_of, disks_of}
use Rattle.fb_run.proofs.Causing.{caused_by_look, look_unharmed, caused_by_unready, unready_unharmed}
use Rattle.fb_run.proofs.looking.check_directory.Goals as goal

pub returns-in-Ok-clause-causes : goal.returns-in-Ok-clause-causes
returns-in-Ok-clause-causes g c =
    let io = streams_of g.H.In.Source.left g.H.In.Source.faults g.H.Out.Sink.contents g.H.Out.Sink.faults in
    let disks = disks_of g.H.Disk.Disk.bytes g.H.Disk.Disk.faults g.H.Disk.Disk.images g.H.Disk.Disk.moment g.H.Disk.Disk.images_since in
    let out = c.looked.ensures in
    caused_by_look (g.H.Host.spec c.args.host.now) (g.H.Host.spec c.open_look.new.host) io disks c.looked.result c.args.directory.now
    c.in-Ok.look c.in-Ok.ensures.look out.none out.log out.segments out.no_target out.printed

pub returns-in-Ok-clause-unharmed : goal.returns-in-Ok-clause-unharmed
returns-in-Ok-clause-unharmed g c =
    let io = streams_of g.H.In.Source.left g.H.In.Source.faults g.H.Out.Sink.contents g.H.Out.Sink.faults in
    let disks = disks_of g.H.Disk.Disk.bytes g.H.Disk.Disk.faults g.H.Disk.Disk.images g.H.Disk.Disk.moment g.H.Disk.Disk.images_since in
    let out = c.looked.ensures in
    look_unharmed (g.H.Host.spec c.args.host.now) (g.H.Host.spec c.open_look.new.host) io disks c.looked.result c.args.directory.now
    c.in-Ok.look c.in-Ok.ensures.look out.none out.log out.segments out.no_target out.printed

pub returns-in-Err-clause-causes : goal.returns-in-Err-clause-causes
returns-in-Err-clause-causes g c =
    let io = streams_of g.H.In.Source.left g.H.In.Source.faults g.H.Out.Sink.contents g.H.Out.Sink.faults in
    let disks = disks_of g.H.Disk.Disk.bytes g.H.Disk.Disk.faults g.H.Disk.Disk.images g.H.Disk.Disk.moment g.H.Disk.Disk.images_since in
    let out = c.not_begun.ensures in
    caused_by_unready (g.H.Host.spec c.args.host.now) (g.H.Host.spec c.open_look.new.host) io disks c.not_begun.result
    (check c.args.directory.now) c.in-Err.unready c.in-Err.ensures.stop out.none out.log out.segments out.no_console out.no_target out.said

pub returns-in-Err-clause-unharmed : goal.returns-in-Err-clause-unharmed
returns-in-Err-clause-unharmed g c =
    let io = streams_of g.H.In.Source.left g.H.In.Source.faults g.H.Out.Sink.contents g.H.Out.Sink.faults in
    let disks = disks_of g.H.Disk.Disk.bytes g.H.Disk.Disk.faults g.H.Disk.Disk.images g.H.Disk.Disk.moment g.H.Disk.Disk.images_since in
    let out = c.not_begun.ensures in
    unready_unharmed (g.H.Host.spec c.args.host.now) (g.H.Host.spec c.open_look.new.host) io disks c.not_begun.result
    (check c.args.directory.now) c.in-Err.unready c.in-Err.ensures.stop out.none out.log out.segments
