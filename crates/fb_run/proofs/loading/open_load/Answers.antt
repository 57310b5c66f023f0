use Rattle.std.proofs.Common.{◌∙◌, ◌∷◌, [], sym, subst, refl, Some}
use Rattle.std.proofs.lemmas.Result.{IfOk-weaker}
use Rattle.command_line.specs.Words.{load, standard}
use Rattle.fb_run.specs.Outside.{streams_of, disks_of, of_directory, of_sinks, ports_of}
use Rattle.fb_run.specs.Database.{IsOpened}
use Rattle.fb_run.specs.Causes.{directory_of}
use Rattle.fb_run.proofs.Opens.{with_directory, opens_more, opens_behind}
use Rattle.fb_run.proofs.Looks.{is_unready}
use Rattle.fb_run.proofs.loading.open_load.Goals as goal

pub returns-in-Ok-clause-directory : goal.returns-in-Ok-clause-directory
returns-in-Ok-clause-directory g c =
    let disks = disks_of g.H.Disk.Disk.bytes g.H.Disk.Disk.faults g.H.Disk.Disk.images g.H.Disk.Disk.moment g.H.Disk.Disk.images_since in
    let old = g.H.Host.spec c.args.host.now in
    IfOk-weaker c.prepare_over.result _ _ (λ made is. subst (λ d. IsOpened old disks (directory_of (Some (load c.args.count))) d) (sym is)
    c.in-Ok.ensures.opened) c.prepare_over.ensures.directory

pub returns-in-Ok-clause-console : goal.returns-in-Ok-clause-console
returns-in-Ok-clause-console g c =
    let streams = c.in-Ok.ensures.streams in
    IfOk-weaker c.prepare_over.result _ _ (λ made opens. record {
      contents = opens.is.contents ∙ streams.sinks standard;
      faults = opens.is.faults ∙ streams.sink_faults standard;
    }) c.prepare_over.ensures.console

pub returns-in-Ok-clause-unfailed : goal.returns-in-Ok-clause-unfailed
returns-in-Ok-clause-unfailed g c =
    IfOk-weaker c.prepare_over.result _ _ (λ made opens. opens.faults ∙ c.in-Ok.ensures.streams.faults) c.prepare_over.ensures.console

pub returns-in-Ok-clause-stop : goal.returns-in-Ok-clause-stop
returns-in-Ok-clause-stop g c =
    let io = streams_of g.H.In.Source.left g.H.In.Source.faults g.H.Out.Sink.contents g.H.Out.Sink.faults in
    let disks = disks_of g.H.Disk.Disk.bytes g.H.Disk.Disk.faults g.H.Disk.Disk.images g.H.Disk.Disk.moment g.H.Disk.Disk.images_since in
    is_unready (g.H.Host.spec c.args.host.now) (g.H.Host.spec c.open_directory.new.host) (g.H.Host.spec c.prepare_over.new.host) io disks
    (directory_of (Some (load c.args.count))) standard c.in-Ok.directory c.in-Ok.ensures.opened c.in-Ok.ensures.streams refl
    c.prepare_over.result c.in-Ok.ensures.others c.prepare_over.ensures.others c.prepare_over.ensures.stop

pub returns-in-Err-clause-stop : goal.returns-in-Err-clause-stop
returns-in-Err-clause-stop g c = c.in-Err.ensures.stop (ports_of (Some (load c.args.count))) (standard ∷ []) [] refl

pub returns-in-Ok-clause-others : goal.returns-in-Ok-clause-others
returns-in-Ok-clause-others g c =
    opens_behind (of_sinks (standard ∷ [])) (directory_of (Some (load c.args.count))) (g.H.Host.spec c.args.host.now)
    (g.H.Host.spec c.open_directory.new.host) (g.H.Host.spec c.prepare_over.new.host) c.in-Ok.ensures.others c.prepare_over.ensures.others

pub returns-in-Err-clause-others : goal.returns-in-Err-clause-others
returns-in-Err-clause-others g c =
    let dir = directory_of (Some (load c.args.count)) in
    let ports = ports_of (Some (load c.args.count)) in
    opens_more (of_directory dir) ports (g.H.Host.spec c.args.host.now) (g.H.Host.spec c.open_directory.new.host)
    (with_directory ports dir refl) c.in-Err.ensures.others
