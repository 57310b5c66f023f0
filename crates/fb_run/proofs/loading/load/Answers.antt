use Rattle.std.proofs.Common.{◌≡◌, ◌⊎◌, inr, ◌∙◌, Option, Some, sym, ap, subst, arith}
use Rattle.std.proofs.lemmas.Option.{IfSome_then}
use Rattle.std.specs.Prelude.{IfSome, string_bytes}
use Rattle.fb_session.specs.Terms.{terms_at}
use Rattle.fb_model.specs.History.{upto}
use Rattle.disk_model.specs.Disk.{IfKnown}
use Rattle.log_model.specs.Log.{IsLogOf}
use Rattle.fb_ports.specs.declared.hosts.Part.TheVariants as part
use Rattle.command_line.specs.Words.{load, load_merge_at}
use Rattle.fb_view.specs.SnapshotModel.{Stands}
use Rattle.fb_run.specs.Outside.{streams_of, disks_of, ports_of}
use Rattle.fb_run.proofs.Opens.{opens_nothing}
use Rattle.fb_run.specs.Opening.{IsOpenedFor}
use Rattle.fb_run.specs.Generated.{loads_of, spec_in_memory, in_memory}
use Rattle.fb_run.specs.Logs.{LogHolds, IsUnharmed}
use Rattle.fb_run.specs.Causes.{directory_of, NoSession, IsOutOfMemory}
use Rattle.fb_run.specs.Coverage.{GoAsFar, IsMerged}
use Rattle.fb_run.specs.Merging.{trees_in}
use Rattle.fb_run.specs.Running.{HaveEnded}
use Rattle.fb_run.specs.Loading.{Left}
use Rattle.fb_run.proofs.Lists.{each_len}
use Rattle.fb_run.proofs.Directories.{opened_unharmed, run_opens, run_logs}
use Rattle.fb_run.proofs.Settling.{run_covers, run_merges}
use Rattle.fb_run.proofs.Causing.{has_disks, caused_by_memory, caused_by_unready, unready_unharmed, says_line, says_memory}
use Rattle.fb_run.proofs.Loads.{opened_in_memory, load_history, load_replies, load_prefixes, load_merged, caused_by_load}
use Rattle.fb_run.proofs.loading.load.Goals as goal

pub run_opened-ran-requires-clause-few : goal.run_opened-ran-requires-clause-few
run_opened-ran-requires-clause-few g c κs within =
    let spec = g.H.Host.spec c.args.host.now in
    let made = c.in-Ok-open_load.ensures in
    let sessions = c.in-Ok-open_load.made.ready.sessions.items in
    let count = each_len (λ n name s. IsOpenedFor (spec_in_memory spec (Some (load c.args.count))) in_memory name s) 0
    (loads_of (Some (load c.args.count))) sessions (opened_in_memory spec c.args.count sessions made.sessions) in
    (omega (arith, count), omega (arith, count))

pub returns-in-Ok-open_load-clause-one_history : goal.returns-in-Ok-open_load-clause-one_history
returns-in-Ok-open_load-clause-one_history g c =
    let spec = g.H.Host.spec c.args.host.now in
    let io = streams_of g.H.In.Source.left g.H.In.Source.faults g.H.Out.Sink.contents g.H.Out.Sink.faults in
    let disks = disks_of g.H.Disk.Disk.bytes g.H.Disk.Disk.faults g.H.Disk.Disk.images g.H.Disk.Disk.moment g.H.Disk.Disk.images_since in
    let so = c.summed_up.ensures in
    load_history spec spec io disks c.args.count c.run_opened-ran.result c.summed_up.result so.left so.loads so.sessions so.no_target
    c.run_opened-ran.ensures.one_history

pub returns-in-Ok-open_load-clause-replies : goal.returns-in-Ok-open_load-clause-replies
returns-in-Ok-open_load-clause-replies g c =
    let terms = terms_at g.K.Clock.may_answer g.G.Guard.bars g.P.FilterTable.place_of g.P.FilterTable.selects_at
    c.args.clock.now c.args.guard.now c.args.preds.now in
    let spec = g.H.Host.spec c.args.host.now in
    let io = streams_of g.H.In.Source.left g.H.In.Source.faults g.H.Out.Sink.contents g.H.Out.Sink.faults in
    let disks = disks_of g.H.Disk.Disk.bytes g.H.Disk.Disk.faults g.H.Disk.Disk.images g.H.Disk.Disk.moment g.H.Disk.Disk.images_since in
    let so = c.summed_up.ensures in
    load_replies spec spec io disks c.args.count c.run_opened-ran.result c.summed_up.result so.left so.loads so.sessions so.no_target
    terms c.in-Ok-open_load.made.ready.sessions.items
    (opened_in_memory spec c.args.count c.in-Ok-open_load.made.ready.sessions.items c.in-Ok-open_load.ensures.sessions)
    c.run_opened-ran.ensures.replies

pub returns-in-Ok-open_load-clause-prefixes : goal.returns-in-Ok-open_load-clause-prefixes
returns-in-Ok-open_load-clause-prefixes g c =
    let spec = g.H.Host.spec c.args.host.now in
    let io = streams_of g.H.In.Source.left g.H.In.Source.faults g.H.Out.Sink.contents g.H.Out.Sink.faults in
    let disks = disks_of g.H.Disk.Disk.bytes g.H.Disk.Disk.faults g.H.Disk.Disk.images g.H.Disk.Disk.moment g.H.Disk.Disk.images_since in
    let so = c.summed_up.ensures in
    load_prefixes spec spec io disks c.args.count c.run_opened-ran.result c.summed_up.result so.left so.loads so.sessions so.no_target
    c.run_opened-ran.ensures.prefixes

pub returns-in-Ok-open_load-clause-opening : goal.returns-in-Ok-open_load-clause-opening
returns-in-Ok-open_load-clause-opening g c =
    let spec = g.H.Host.spec c.args.host.now in
    let disks = disks_of g.H.Disk.Disk.bytes g.H.Disk.Disk.faults g.H.Disk.Disk.images g.H.Disk.Disk.moment g.H.Disk.Disk.images_since in
    let dir = directory_of (Some (load c.args.count)) in
    let ran = c.run_opened-ran.result in
    subst (λ (l : Left g.row.H-Disk.Denot). IfSome l.last (λ last. IfKnown (spec.disks dir part.Log) (λ file. IsLogOf file
    (upto last.entries l.recovered)))) (sym c.summed_up.ensures.left)
    (IfSome_then ran.last c.run_opened-ran.ensures.opening (λ last goes_on. run_opens spec disks dir c.in-Ok-open_load.made.ready.directory
    c.in-Ok-open_load.ensures.directory ran last.entries goes_on))

pub returns-in-Ok-open_load-clause-log : goal.returns-in-Ok-open_load-clause-log
returns-in-Ok-open_load-clause-log g c =
    let spec = g.H.Host.spec c.args.host.now in
    let disks = disks_of g.H.Disk.Disk.bytes g.H.Disk.Disk.faults g.H.Disk.Disk.images g.H.Disk.Disk.moment g.H.Disk.Disk.images_since in
    let dir = directory_of (Some (load c.args.count)) in
    let ran = c.run_opened-ran.result in
    subst (λ (l : Left g.row.H-Disk.Denot). IfSome l.last (λ last. IfSome l.log (LogHolds spec disks dir last.entries l.recovered l.torn)))
    (sym c.summed_up.ensures.left)
    (run_logs spec disks dir c.in-Ok-open_load.made.ready.directory c.in-Ok-open_load.ensures.directory ran
    c.run_opened-ran.ensures.opening c.run_opened-ran.ensures.log)

pub returns-in-Ok-open_load-clause-causes : goal.returns-in-Ok-open_load-clause-causes
returns-in-Ok-open_load-clause-causes g c =
    let spec = g.H.Host.spec c.args.host.now in
    let new = g.H.Host.spec c.open_load.new.host in
    let io = streams_of g.H.In.Source.left g.H.In.Source.faults g.H.Out.Sink.contents g.H.Out.Sink.faults in
    let disks = disks_of g.H.Disk.Disk.bytes g.H.Disk.Disk.faults g.H.Disk.Disk.images g.H.Disk.Disk.moment g.H.Disk.Disk.images_since in
    let dir = directory_of (Some (load c.args.count)) in
    let ran = c.run_opened-ran.result in
    let so = c.summed_up.ensures in
    let made = c.in-Ok-open_load.ensures in
    let ready = c.in-Ok-open_load.made.ready in
    let at = c.in-Ok.command.options.merge_at in
    let ended = subst (λ names. (NoSession ran × IsOutOfMemory ran)
    ⊎ HaveEnded in_memory disks at names ready.sessions.items (trees_in ready.directory) ran)
    (c.in-Ok.ensures.names c.args.count) c.run_opened-ran.ensures.ended in
    let holds =
    subst (λ (l : Left g.row.H-Disk.Denot). IfSome l.last (λ last. IfSome l.log (LogHolds spec disks dir last.entries l.recovered
    l.torn))) (sym so.left)
    (run_logs spec disks dir ready.directory made.directory ran c.run_opened-ran.ensures.opening c.run_opened-ran.ensures.log) in
    caused_by_load spec new io disks c.args.count ran c.summed_up.result so.left so.loads so.sessions so.no_target at (trees_in ready.directory)
    (made.directory.reopened.segments_unfailed ∙ made.directory.segments.faults)
    ready.sessions.items made.unfailed (opened_in_memory spec c.args.count ready.sessions.items made.sessions)
    c.in-Ok-open_load.made.console made.console holds
    (λ none. has_disks ran _ _ (c.run_opened-ran.ensures.none none).log (c.run_opened-ran.ensures.none none).segments) ended so.said

pub returns-in-Ok-open_load-clause-unharmed : goal.returns-in-Ok-open_load-clause-unharmed
returns-in-Ok-open_load-clause-unharmed g c = λ none.
    let spec = g.H.Host.spec c.args.host.now in
    let disks = disks_of g.H.Disk.Disk.bytes g.H.Disk.Disk.faults g.H.Disk.Disk.images g.H.Disk.Disk.moment g.H.Disk.Disk.images_since in
    let left = c.summed_up.ensures.left in
    let dir = directory_of (Some (load c.args.count)) in
    let kept = (c.run_opened-ran.ensures.none (sym (ap (λ (l : Left g.row.H-Disk.Denot). l.last) left) ∙ none)).log in
    subst (λ (o : Option g.row.H-Disk.Denot). IfSome o (IsUnharmed spec disks dir))
    (sym (ap (λ (l : Left g.row.H-Disk.Denot). l.log) left ∙ kept))
    (opened_unharmed spec disks dir c.in-Ok-open_load.made.ready.directory c.in-Ok-open_load.ensures.directory)

pub returns-in-Ok-open_load-clause-coverage : goal.returns-in-Ok-open_load-clause-coverage
returns-in-Ok-open_load-clause-coverage g c =
    let spec = g.H.Host.spec c.args.host.now in
    let disks = disks_of g.H.Disk.Disk.bytes g.H.Disk.Disk.faults g.H.Disk.Disk.images g.H.Disk.Disk.moment g.H.Disk.Disk.images_since in
    let dir = directory_of (Some (load c.args.count)) in
    subst (λ (l : Left g.row.H-Disk.Denot). IfSome l.last (λ last. IfSome l.segments (GoAsFar spec disks dir (upto last.entries l.recovered)
    last))) (sym c.summed_up.ensures.left)
    (run_covers spec in_memory disks dir c.in-Ok-open_load.made.ready.directory c.in-Ok-open_load.ensures.directory _ _ _
    c.run_opened-ran.result c.run_opened-ran.ensures.ended c.run_opened-ran.ensures.opening)

pub returns-in-Ok-open_load-clause-covered : goal.returns-in-Ok-open_load-clause-covered
returns-in-Ok-open_load-clause-covered g c =
    subst (λ (l : Left g.row.H-Disk.Denot). IfSome l.last (λ last. l.covered ≡ last.covered)) (sym c.summed_up.ensures.left)
    c.run_opened-ran.ensures.covered

pub returns-in-Ok-open_load-clause-merged : goal.returns-in-Ok-open_load-clause-merged
returns-in-Ok-open_load-clause-merged g c =
    let spec = g.H.Host.spec c.args.host.now in
    let io = streams_of g.H.In.Source.left g.H.In.Source.faults g.H.Out.Sink.contents g.H.Out.Sink.faults in
    let disks = disks_of g.H.Disk.Disk.bytes g.H.Disk.Disk.faults g.H.Disk.Disk.images g.H.Disk.Disk.moment g.H.Disk.Disk.images_since in
    let dir = directory_of (Some (load c.args.count)) in
    let so = c.summed_up.ensures in
    let ran = c.run_opened-ran.result in
    load_merged spec spec io disks c.args.count ran c.summed_up.result so.left so.loads so.sessions so.no_target
    (λ segments last. IfSome segments (IsMerged spec disks dir load_merge_at last)) io.contents io.sink_faults
    c.in-Ok-open_load.made.console so.said
    (subst (λ merge_at. IfSome ran.last (λ last. ran.status ≡ 0 → IfSome ran.segments (IsMerged spec disks dir merge_at last)))
    c.in-Ok.ensures.merge_at
    (run_merges spec in_memory disks dir c.in-Ok-open_load.made.ready.directory c.in-Ok-open_load.ensures.directory _ _ _ ran
    c.run_opened-ran.ensures.ended))

pub returns-clause-causes : goal.returns-clause-causes
returns-clause-causes g c =
    let io = streams_of g.H.In.Source.left g.H.In.Source.faults g.H.Out.Sink.contents g.H.Out.Sink.faults in
    let disks = disks_of g.H.Disk.Disk.bytes g.H.Disk.Disk.faults g.H.Disk.Disk.images g.H.Disk.Disk.moment g.H.Disk.Disk.images_since in
    let out = c.not_begun.ensures in
    caused_by_unready (g.H.Host.spec c.args.host.now) (g.H.Host.spec c.open_load.new.host) io disks c.not_begun.result
    (load c.args.count) c.in-Err.unready c.in-Err.ensures.stop out.none out.log out.segments out.no_console out.no_target out.said

pub returns-clause-unharmed : goal.returns-clause-unharmed
returns-clause-unharmed g c = λ none.
    let io = streams_of g.H.In.Source.left g.H.In.Source.faults g.H.Out.Sink.contents g.H.Out.Sink.faults in
    let disks = disks_of g.H.Disk.Disk.bytes g.H.Disk.Disk.faults g.H.Disk.Disk.images g.H.Disk.Disk.moment g.H.Disk.Disk.images_since in
    let out = c.not_begun.ensures in
    unready_unharmed (g.H.Host.spec c.args.host.now) (g.H.Host.spec c.open_load.new.host) io disks c.not_begun.result
    (load c.args.count) c.in-Err.unready c.in-Err.ensures.stop out.none out.log out.segments

pub returns-in_default-clause-causes : goal.returns-in_default-clause-causes
returns-in_default-clause-causes g c =
    let io = streams_of g.H.In.Source.left g.H.In.Source.faults g.H.Out.Sink.contents g.H.Out.Sink.faults in
    let disks = disks_of g.H.Disk.Disk.bytes g.H.Disk.Disk.faults g.H.Disk.Disk.images g.H.Disk.Disk.moment g.H.Disk.Disk.images_since in
    let said = c.without_session.ensures in
    caused_by_memory (g.H.Host.spec c.args.host.now) io disks _ c.without_session.result (load c.args.count) said.none
    (inr (said.no_disk, opens_nothing _ (g.H.Host.spec c.args.host.now))) said.no_console said.no_target
    (says_memory _ _ (says_line string_bytes c.out_of_memory.result 9 _ _ _ said.said said.unsaid c.out_of_memory.ensures))

pub returns-in_default-clause-others : goal.returns-in_default-clause-others
returns-in_default-clause-others g c = opens_nothing (ports_of (Some (load c.args.count))) (g.H.Host.spec c.args.host.now)

pub returns-in-Ok-open_load-clause-stands : goal.returns-in-Ok-open_load-clause-stands
returns-in-Ok-open_load-clause-stands g c =
    subst (λ (l : Left g.row.H-Disk.Denot). IfSome l.last Stands) (sym c.summed_up.ensures.left) c.run_opened-ran.ensures.stands
