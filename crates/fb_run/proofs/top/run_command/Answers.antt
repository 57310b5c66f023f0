use Rattle.std.proofs.Common.{◌∙◌, Option, refl, sym, subst, arith}
use Rattle.std.specs.Prelude.{IfSome}
use Rattle.std.proofs.lemmas.Option.{IfSome_then}
use Rattle.command_line.specs.Views.{names_in, run_by}
use Rattle.fb_run.specs.Outside.{streams_of, disks_of}
use Rattle.fb_run.specs.Opening.{IsOpenedFor}
use Rattle.fb_run.specs.Logs.{IsUnharmed}
use Rattle.fb_run.proofs.Lists.{each_len}
use Rattle.fb_run.specs.Merging.{trees_in}
use Rattle.fb_run.proofs.Directories.{opened_unharmed, run_opens, run_logs}
use Rattle.fb_run.proofs.Settling.{run_covers, run_merges}
use Rattle.fb_run.proofs.Causing.{few_scripts, replies_told, has_disks, caused_by_sessions, caused_by_unready, unready_unharmed}
use Rattle.fb_run.proofs.top.run_command.Goals as goal

pub open_run-requires-clause-apart : goal.open_run-requires-clause-apart
open_run-requires-clause-apart g c κs within = (few_scripts (names_in c.args.command.now.scripts.items) c.requires.scripts).2

pub run_opened-requires-clause-few : goal.run_opened-requires-clause-few
run_opened-requires-clause-few g c κs within =
    let io = streams_of g.H.In.Source.left g.H.In.Source.faults g.H.Out.Sink.contents g.H.Out.Sink.faults in
    let few = few_scripts (names_in c.args.command.now.scripts.items) c.requires.scripts in
    let count = each_len (λ n name s. IsOpenedFor (g.H.Host.spec c.args.host.now) io name s) 0 (names_in
    c.args.command.now.scripts.items) c.in-Ok.ready.sessions.items c.in-Ok.ensures.sessions.each in
    (omega (arith, few.0, count), omega (arith, few.1, count))

pub returns-in-Ok-clause-replies : goal.returns-in-Ok-clause-replies
returns-in-Ok-clause-replies g c =
    let io = streams_of g.H.In.Source.left g.H.In.Source.faults g.H.Out.Sink.contents g.H.Out.Sink.faults in
    IfSome_then c.run_opened.result.last c.run_opened.ensures.replies (λ last r. replies_told _ (g.H.Host.spec c.args.host.now) io
    last.entries _ _ _ _ c.in-Ok.ready.sessions.items _ c.in-Ok.ensures.sessions.each r)

pub returns-in-Ok-clause-opening : goal.returns-in-Ok-clause-opening
returns-in-Ok-clause-opening g c =
    let disks = disks_of g.H.Disk.Disk.bytes g.H.Disk.Disk.faults g.H.Disk.Disk.images g.H.Disk.Disk.moment g.H.Disk.Disk.images_since in
    IfSome_then c.run_opened.result.last c.run_opened.ensures.opening (λ last goes_on. run_opens (g.H.Host.spec c.args.host.now) disks
    c.args.command.now.directory.now c.in-Ok.ready.directory c.in-Ok.ensures.directory c.run_opened.result last.entries goes_on)

pub returns-in-Ok-clause-log : goal.returns-in-Ok-clause-log
returns-in-Ok-clause-log g c =
    let disks = disks_of g.H.Disk.Disk.bytes g.H.Disk.Disk.faults g.H.Disk.Disk.images g.H.Disk.Disk.moment g.H.Disk.Disk.images_since in
    run_logs (g.H.Host.spec c.args.host.now) disks c.args.command.now.directory.now c.in-Ok.ready.directory c.in-Ok.ensures.directory
    c.run_opened.result c.run_opened.ensures.opening c.run_opened.ensures.log

pub returns-in-Ok-clause-causes : goal.returns-in-Ok-clause-causes
returns-in-Ok-clause-causes g c =
    let io = streams_of g.H.In.Source.left g.H.In.Source.faults g.H.Out.Sink.contents g.H.Out.Sink.faults in
    let disks = disks_of g.H.Disk.Disk.bytes g.H.Disk.Disk.faults g.H.Disk.Disk.images g.H.Disk.Disk.moment g.H.Disk.Disk.images_since in
    caused_by_sessions (g.H.Host.spec c.args.host.now) io disks _ c.run_opened.result (run_by c.args.command.now)
    c.in-Ok.ready.sessions.items _ (trees_in c.in-Ok.ready.directory) c.in-Ok.ensures.sessions.each tt refl c.run_opened.ensures.no_loads
    c.in-Ok.ensures.sessions.faults c.run_opened.ensures.no_console c.run_opened.ensures.no_target
    (c.in-Ok.ensures.directory.reopened.segments_unfailed ∙ c.in-Ok.ensures.directory.segments.faults)
    (run_logs (g.H.Host.spec c.args.host.now) disks c.args.command.now.directory.now c.in-Ok.ready.directory c.in-Ok.ensures.directory
    c.run_opened.result c.run_opened.ensures.opening c.run_opened.ensures.log)
    (λ none. has_disks c.run_opened.result _ _ (c.run_opened.ensures.none none).log (c.run_opened.ensures.none none).segments)
    c.run_opened.ensures.ended

pub returns-in-Ok-clause-unharmed : goal.returns-in-Ok-clause-unharmed
returns-in-Ok-clause-unharmed g c = λ none.
    let disks = disks_of g.H.Disk.Disk.bytes g.H.Disk.Disk.faults g.H.Disk.Disk.images g.H.Disk.Disk.moment g.H.Disk.Disk.images_since in
    let spec = g.H.Host.spec c.args.host.now in
    let dir = c.args.command.now.directory.now in
    subst (λ (o : Option g.row.H-Disk.Denot). IfSome o (IsUnharmed spec disks dir)) (sym (c.run_opened.ensures.none none).log)
    (opened_unharmed spec disks dir c.in-Ok.ready.directory c.in-Ok.ensures.directory)

pub returns-in-Ok-clause-coverage : goal.returns-in-Ok-clause-coverage
returns-in-Ok-clause-coverage g c =
    let io = streams_of g.H.In.Source.left g.H.In.Source.faults g.H.Out.Sink.contents g.H.Out.Sink.faults in
    let disks = disks_of g.H.Disk.Disk.bytes g.H.Disk.Disk.faults g.H.Disk.Disk.images g.H.Disk.Disk.moment g.H.Disk.Disk.images_since in
    run_covers (g.H.Host.spec c.args.host.now) io disks c.args.command.now.directory.now c.in-Ok.ready.directory
    c.in-Ok.ensures.directory _ _ _ c.run_opened.result c.run_opened.ensures.ended c.run_opened.ensures.opening

pub returns-in-Ok-clause-merged : goal.returns-in-Ok-clause-merged
returns-in-Ok-clause-merged g c =
    let io = streams_of g.H.In.Source.left g.H.In.Source.faults g.H.Out.Sink.contents g.H.Out.Sink.faults in
    let disks = disks_of g.H.Disk.Disk.bytes g.H.Disk.Disk.faults g.H.Disk.Disk.images g.H.Disk.Disk.moment g.H.Disk.Disk.images_since in
    run_merges (g.H.Host.spec c.args.host.now) io disks c.args.command.now.directory.now c.in-Ok.ready.directory
    c.in-Ok.ensures.directory _ _ _ c.run_opened.result c.run_opened.ensures.ended

pub returns-in-Err-clause-causes : goal.returns-in-Err-clause-causes
returns-in-Err-clause-causes g c =
    let io = streams_of g.H.In.Source.left g.H.In.Source.faults g.H.Out.Sink.contents g.H.Out.Sink.faults in
    let disks = disks_of g.H.Disk.Disk.bytes g.H.Disk.Disk.faults g.H.Disk.Disk.images g.H.Disk.Disk.moment g.H.Disk.Disk.images_since in
    let out = c.not_begun.ensures in
    caused_by_unready (g.H.Host.spec c.args.host.now) (g.H.Host.spec c.open_run.new.host) io disks c.not_begun.result
    (run_by c.args.command.now) c.in-Err.unready c.in-Err.ensures.stop out.none out.log out.segments out.no_console out.no_target out.said

pub returns-in-Err-clause-unharmed : goal.returns-in-Err-clause-unharmed
returns-in-Err-clause-unharmed g c = λ none.
    let io = streams_of g.H.In.Source.left g.H.In.Source.faults g.H.Out.Sink.contents g.H.Out.Sink.faults in
    let disks = disks_of g.H.Disk.Disk.bytes g.H.Disk.Disk.faults g.H.Disk.Disk.images g.H.Disk.Disk.moment g.H.Disk.Disk.images_since in
    let out = c.not_begun.ensures in
    unready_unharmed (g.H.Host.spec c.args.host.now) (g.H.Host.spec c.open_run.new.host) io disks c.not_begun.result
    (run_by c.args.command.now) c.in-Err.unready c.in-Err.ensures.stop out.none out.log out.segments
