use Rattle.std.proofs.Common.{◌∷◌, [], Some, refl, subst}
use Rattle.command_line.specs.Words.{check, standard}
use Rattle.fb_run.specs.Outside.{streams_of, disks_of, of_directory, of_sinks, ports_of, OpensOnly}
use Rattle.fb_run.proofs.Opens.{with_directory, opens_more, opens_behind}
use Rattle.fb_run.proofs.Looks.{is_look, is_unready}
use Rattle.fb_run.proofs.looking.open_look.Goals as goal

pub returns-in-Ok-clause-look : goal.returns-in-Ok-clause-look
returns-in-Ok-clause-look g c =
    let io = streams_of g.H.In.Source.left g.H.In.Source.faults g.H.Out.Sink.contents g.H.Out.Sink.faults in
    let disks = disks_of g.H.Disk.Disk.bytes g.H.Disk.Disk.faults g.H.Disk.Disk.images g.H.Disk.Disk.moment g.H.Disk.Disk.images_since in
    let out = c.look_into.ensures in
    is_look (g.H.Host.spec c.args.host.now) (g.H.Host.spec c.open_directory.new.host) (g.H.Host.spec c.look_into.new.host) io disks
    c.args.names.now.directory.now c.args.names.now.console.now c.in-Ok.directory c.in-Ok.ensures.opened
    c.in-Ok.ensures.streams c.requires.console c.look_into.result out.directory out.line out.console

pub returns-in-Ok-clause-stop : goal.returns-in-Ok-clause-stop
returns-in-Ok-clause-stop g c =
    let io = streams_of g.H.In.Source.left g.H.In.Source.faults g.H.Out.Sink.contents g.H.Out.Sink.faults in
    let disks = disks_of g.H.Disk.Disk.bytes g.H.Disk.Disk.faults g.H.Disk.Disk.images g.H.Disk.Disk.moment g.H.Disk.Disk.images_since in
    is_unready (g.H.Host.spec c.args.host.now) (g.H.Host.spec c.open_directory.new.host) (g.H.Host.spec c.look_into.new.host) io disks
    c.args.names.now.directory.now c.args.names.now.console.now c.in-Ok.directory c.in-Ok.ensures.opened
    c.in-Ok.ensures.streams c.requires.console c.look_into.result c.in-Ok.ensures.others c.look_into.ensures.others c.look_into.ensures.stop

pub returns-in-Err-clause-stop : goal.returns-in-Err-clause-stop
returns-in-Err-clause-stop g c = c.in-Err.ensures.stop (ports_of (Some (check c.args.names.now.directory.now))) (standard ∷ []) [] refl

pub returns-in-Ok-clause-others : goal.returns-in-Ok-clause-others
returns-in-Ok-clause-others g c =
    let mid = g.H.Host.spec c.open_directory.new.host in
    let new = g.H.Host.spec c.look_into.new.host in
    opens_behind (of_sinks (standard ∷ [])) c.args.names.now.directory.now (g.H.Host.spec c.args.host.now) mid new c.in-Ok.ensures.others
    (subst (λ n. OpensOnly (of_sinks (n ∷ [])) mid new) c.requires.console c.look_into.ensures.others)

pub returns-in-Err-clause-others : goal.returns-in-Err-clause-others
returns-in-Err-clause-others g c =
    let dir = c.args.names.now.directory.now in
    let ports = ports_of (Some (check dir)) in
    opens_more (of_directory dir) ports (g.H.Host.spec c.args.host.now) (g.H.Host.spec c.open_directory.new.host)
    (with_directory ports dir refl) c.in-Err.ensures.others
