use Rattle.std.proofs.Common.{◌≡◌, ◌∙◌, [], ap, subst, refl, Option, Some, map}
use Rattle.std.specs.Prelude.{IfSome, string_bytes}
use Rattle.std.specs.Option.{unwrap_or}
use Rattle.fb_session.specs.Terms.{terms_at}
use Rattle.command_line.specs.Words.{Command, check, command_of, load, scripts_of, merge_at_of}
use Rattle.command_line.specs.Views.{names_in, run_by, backup_by}
use Rattle.fb_run.specs.Outside.{streams_of, disks_of, ports_of, OpensOnly}
use Rattle.fb_model.specs.History.{basis, upto}
use Rattle.talk_model.specs.Prefixes.{Prefixes}
use Rattle.disk_model.specs.Disk.{IfKnown}
use Rattle.log_model.specs.Log.{IsLogOf}
use Rattle.fb_ports.specs.declared.hosts.Part.TheVariants as part
use Rattle.fb_run.specs.Causes.{directory_of}
use Rattle.fb_run.specs.Logs.{LogHolds}
use Rattle.fb_run.specs.Coverage.{GoAsFar, IsMerged}
use Rattle.fb_run.specs.Headline.{EachReplies}
use Rattle.fb_run.specs.Generated.{loads_of, spec_in_memory, in_memory}
use Rattle.fb_run.specs.Complete.{Complete}
use Rattle.fb_run.specs.Strict.{under}
use Rattle.fb_run.proofs.Opens.{opens_nothing}
use Rattle.fb_run.proofs.Causing.{caused_by_usage, caused_by_words, says_line, says_memory}
use Rattle.fb_run.proofs.Completing.{complete_scripts, complete_look, complete_backup, complete_refused}
use Rattle.fb_run.proofs.Loads.{nothing_replies, nothing_all, no_loads_history, no_sessions_history}
use Rattle.fb_run.proofs.Generators.{load_within}
use Rattle.fb_run.proofs.LoadsWhole.{complete_load}
use Rattle.fb_run.proofs.top.run.Goals as goal

pub returns-in-Ok-Some-Run-clause-replies : goal.returns-in-Ok-Some-Run-clause-replies
returns-in-Ok-Some-Run-clause-replies g c =
    let terms = λ (command : Option Command). terms_at g.K.Clock.may_answer (under command g.G.Guard.bars) g.P.FilterTable.place_of
    g.P.FilterTable.selects_at c.args.clock.now c.args.guard.now c.args.preds.now in
    let io = streams_of g.H.In.Source.left g.H.In.Source.faults g.H.Out.Sink.contents g.H.Out.Sink.faults in
    let some = rw c.in-Ok-Some-Run.field-0-is at c.in-Ok-Some-Run.ensures.asks in
    let is = rw c.in-Ok-Some-Run.field-0-0-is at some in
    let r = c.run_command.result in
    subst (λ command. IfSome r.last (λ last. EachReplies (terms command) (g.H.Host.spec c.args.host.now) io r.recovered r.torn
    (unwrap_or r.authors []) (scripts_of command) r.sessions.items last.entries))
    (is ∙ ap (λ ws. command_of (map string_bytes ws)) c.as_slice.ensures.value) c.run_command.ensures.replies

pub returns-in-Ok-Some-Run-clause-opening : goal.returns-in-Ok-Some-Run-clause-opening
returns-in-Ok-Some-Run-clause-opening g c =
    let some = rw c.in-Ok-Some-Run.field-0-is at c.in-Ok-Some-Run.ensures.asks in
    let is = rw c.in-Ok-Some-Run.field-0-0-is at some in
    let r = c.run_command.result in
    subst (λ command. IfSome r.last (λ last. IfKnown ((g.H.Host.spec c.args.host.now).disks (directory_of command) part.Log)
    (λ file. IsLogOf file (upto last.entries r.recovered))))
    (is ∙ ap (λ ws. command_of (map string_bytes ws)) c.as_slice.ensures.value) c.run_command.ensures.opening

pub returns-in-Ok-Some-Run-clause-log : goal.returns-in-Ok-Some-Run-clause-log
returns-in-Ok-Some-Run-clause-log g c =
    let disks = disks_of g.H.Disk.Disk.bytes g.H.Disk.Disk.faults g.H.Disk.Disk.images g.H.Disk.Disk.moment g.H.Disk.Disk.images_since in
    let some = rw c.in-Ok-Some-Run.field-0-is at c.in-Ok-Some-Run.ensures.asks in
    let is = rw c.in-Ok-Some-Run.field-0-0-is at some in
    let r = c.run_command.result in
    subst (λ command. IfSome r.last (λ last. IfSome r.log (LogHolds (g.H.Host.spec c.args.host.now) disks (directory_of command)
    last.entries r.recovered r.torn)))
    (is ∙ ap (λ ws. command_of (map string_bytes ws)) c.as_slice.ensures.value) c.run_command.ensures.log

pub returns-in-Ok-Some-Run-clause-coverage : goal.returns-in-Ok-Some-Run-clause-coverage
returns-in-Ok-Some-Run-clause-coverage g c =
    let disks = disks_of g.H.Disk.Disk.bytes g.H.Disk.Disk.faults g.H.Disk.Disk.images g.H.Disk.Disk.moment g.H.Disk.Disk.images_since in
    let some = rw c.in-Ok-Some-Run.field-0-is at c.in-Ok-Some-Run.ensures.asks in
    let is = rw c.in-Ok-Some-Run.field-0-0-is at some in
    let r = c.run_command.result in
    subst (λ command. IfSome r.last (λ last. IfSome r.segments (GoAsFar (g.H.Host.spec c.args.host.now) disks (directory_of command)
    (upto last.entries r.recovered) last)))
    (is ∙ ap (λ ws. command_of (map string_bytes ws)) c.as_slice.ensures.value) c.run_command.ensures.coverage

pub returns-in-Ok-Some-Run-clause-merged : goal.returns-in-Ok-Some-Run-clause-merged
returns-in-Ok-Some-Run-clause-merged g c =
    let disks = disks_of g.H.Disk.Disk.bytes g.H.Disk.Disk.faults g.H.Disk.Disk.images g.H.Disk.Disk.moment g.H.Disk.Disk.images_since in
    let some = rw c.in-Ok-Some-Run.field-0-is at c.in-Ok-Some-Run.ensures.asks in
    let is = rw c.in-Ok-Some-Run.field-0-0-is at some in
    let r = c.run_command.result in
    subst (λ command. IfSome r.last (λ last. r.status ≡ 0 → IfSome (merge_at_of command) (λ merge_at. IfSome r.segments
    (IsMerged (g.H.Host.spec c.args.host.now) disks (directory_of command) merge_at last))))
    (is ∙ ap (λ ws. command_of (map string_bytes ws)) c.as_slice.ensures.value) c.run_command.ensures.merged

pub returns-in-Ok-Some-Run-clause-complete : goal.returns-in-Ok-Some-Run-clause-complete
returns-in-Ok-Some-Run-clause-complete g c =
    let terms = λ (command : Option Command). terms_at g.K.Clock.may_answer (under command g.G.Guard.bars) g.P.FilterTable.place_of
    g.P.FilterTable.selects_at c.args.clock.now c.args.guard.now c.args.preds.now in
    let io = streams_of g.H.In.Source.left g.H.In.Source.faults g.H.Out.Sink.contents g.H.Out.Sink.faults in
    let disks = disks_of g.H.Disk.Disk.bytes g.H.Disk.Disk.faults g.H.Disk.Disk.images g.H.Disk.Disk.moment g.H.Disk.Disk.images_since in
    let some = rw c.in-Ok-Some-Run.field-0-is at c.in-Ok-Some-Run.ensures.asks in
    let is = rw c.in-Ok-Some-Run.field-0-0-is at some in
    let r = c.run_command.result in
    let new = g.H.Host.spec c.run_command.new.host in
    subst (λ command. Complete (terms command) (g.H.Host.spec c.args.host.now) io disks new.faults command r)
    (is ∙ ap (λ ws. command_of (map string_bytes ws)) c.as_slice.ensures.value)
    (complete_scripts (terms (Some (run_by c.in-Ok-Some-Run.command))) (g.H.Host.spec c.args.host.now) io disks new
    c.in-Ok-Some-Run.command.options c.in-Ok-Some-Run.command.directory.now (names_in c.in-Ok-Some-Run.command.scripts.items) r _ _
    c.run_command.ensures.one_history c.run_command.ensures.replies c.run_command.ensures.log c.run_command.ensures.causes)

pub returns-in-Ok-None-clause-causes : goal.returns-in-Ok-None-clause-causes
returns-in-Ok-None-clause-causes g c =
    let io = streams_of g.H.In.Source.left g.H.In.Source.faults g.H.Out.Sink.contents g.H.Out.Sink.faults in
    let disks = disks_of g.H.Disk.Disk.bytes g.H.Disk.Disk.faults g.H.Disk.Disk.images g.H.Disk.Disk.moment g.H.Disk.Disk.images_since in
    let is = rw c.in-Ok-None.field-0-is at c.in-Ok-None.ensures.asks in
    caused_by_usage (g.H.Host.spec c.args.host.now) io disks _ c.without_session.result _ (is ∙ ap (λ ws. command_of (map string_bytes
    ws)) c.as_slice.ensures.value) refl
    c.without_session.ensures.none c.without_session.ensures.no_disk c.without_session.ensures.no_console c.without_session.ensures.no_target
    (says_line string_bytes c.usage.result 1 _ _ _ c.without_session.ensures.said c.without_session.ensures.unsaid c.usage.ensures)

pub returns-in-Err-clause-causes : goal.returns-in-Err-clause-causes
returns-in-Err-clause-causes g c =
    let io = streams_of g.H.In.Source.left g.H.In.Source.faults g.H.Out.Sink.contents g.H.Out.Sink.faults in
    let disks = disks_of g.H.Disk.Disk.bytes g.H.Disk.Disk.faults g.H.Disk.Disk.images g.H.Disk.Disk.moment g.H.Disk.Disk.images_since in
    caused_by_words (g.H.Host.spec c.args.host.now) io disks _ c.without_session-in-Err.result _ refl
    (opens_nothing _ (g.H.Host.spec c.args.host.now))
    c.without_session-in-Err.ensures.none c.without_session-in-Err.ensures.no_disk c.without_session-in-Err.ensures.no_console
    c.without_session-in-Err.ensures.no_target
    (says_memory _ _ (says_line string_bytes c.out_of_memory.result 9 _ _ _ c.without_session-in-Err.ensures.said
    c.without_session-in-Err.ensures.unsaid c.out_of_memory.ensures))

pub returns-in-Ok-Some-Check-clause-complete : goal.returns-in-Ok-Some-Check-clause-complete
returns-in-Ok-Some-Check-clause-complete g c =
    let terms = λ (command : Option Command). terms_at g.K.Clock.may_answer (under command g.G.Guard.bars) g.P.FilterTable.place_of
    g.P.FilterTable.selects_at c.args.clock.now c.args.guard.now c.args.preds.now in
    let io = streams_of g.H.In.Source.left g.H.In.Source.faults g.H.Out.Sink.contents g.H.Out.Sink.faults in
    let disks = disks_of g.H.Disk.Disk.bytes g.H.Disk.Disk.faults g.H.Disk.Disk.images g.H.Disk.Disk.moment g.H.Disk.Disk.images_since in
    let some = rw c.in-Ok-Some-Check.field-0-is at c.in-Ok-Some-Check.ensures.asks in
    let is = rw c.in-Ok-Some-Check.field-0-0-is at some in
    let r = c.check_directory.result in
    let new = g.H.Host.spec c.check_directory.new.host in
    subst (λ command. Complete (terms command) (g.H.Host.spec c.args.host.now) io disks new.faults command r)
    (is ∙ ap (λ ws. command_of (map string_bytes ws)) c.as_slice.ensures.value)
    (complete_look (terms (Some (check c.in-Ok-Some-Check.directory.now))) (g.H.Host.spec c.args.host.now) io disks new
    c.in-Ok-Some-Check.directory.now r c.check_directory.ensures.causes)

pub returns-in-Ok-Some-Run-clause-one_history : goal.returns-in-Ok-Some-Run-clause-one_history
returns-in-Ok-Some-Run-clause-one_history g c =
    let r = c.run_command.result in
    no_loads_history r.last r.recovered (unwrap_or r.authors []) r.loads.items (map (λ s. s.commits) r.sessions.items)
    c.run_command.ensures.no_loads c.run_command.ensures.one_history

pub returns-in-Ok-Some-Run-clause-loads : goal.returns-in-Ok-Some-Run-clause-loads
returns-in-Ok-Some-Run-clause-loads g c =
    let terms = λ (command : Option Command). terms_at g.K.Clock.may_answer (under command g.G.Guard.bars) g.P.FilterTable.place_of
    g.P.FilterTable.selects_at c.args.clock.now c.args.guard.now c.args.preds.now in
    let spec = g.H.Host.spec c.args.host.now in
    let io = streams_of g.H.In.Source.left g.H.In.Source.faults g.H.Out.Sink.contents g.H.Out.Sink.faults in
    let some = rw c.in-Ok-Some-Run.field-0-is at c.in-Ok-Some-Run.ensures.asks in
    let is = rw c.in-Ok-Some-Run.field-0-0-is at some in
    let r = c.run_command.result in
    subst (λ command. IfSome r.last (λ last. EachReplies (terms command) (spec_in_memory spec command) in_memory r.recovered
    r.torn (unwrap_or r.authors []) (loads_of command) r.loads.items last.entries))
    (is ∙ ap (λ ws. command_of (map string_bytes ws)) c.as_slice.ensures.value)
    (nothing_replies (terms (Some (run_by c.in-Ok-Some-Run.command))) (terms (Some (run_by c.in-Ok-Some-Run.command)))
    (spec_in_memory spec (Some (run_by c.in-Ok-Some-Run.command))) spec in_memory io r.recovered r.torn (unwrap_or r.authors [])
    (names_in c.in-Ok-Some-Run.command.scripts.items) r.loads.items r.sessions.items c.run_command.ensures.no_loads r.last
    c.run_command.ensures.replies)

pub returns-in-Ok-Some-Run-clause-load_prefixes : goal.returns-in-Ok-Some-Run-clause-load_prefixes
returns-in-Ok-Some-Run-clause-load_prefixes g c =
    let r = c.run_command.result in
    nothing_all (λ last s. Prefixes r.recovered (basis last.entries) s.places s.commits) r.loads.items c.run_command.ensures.no_loads r.last

pub returns-in-Ok-Some-Load-clause-one_history : goal.returns-in-Ok-Some-Load-clause-one_history
returns-in-Ok-Some-Load-clause-one_history g c =
    let r = c.load.result in
    no_sessions_history r.last r.recovered (unwrap_or r.authors []) (map (λ s. s.commits) r.loads.items) r.sessions.items
    c.load.ensures.sessions c.load.ensures.one_history

pub returns-in-Ok-Some-Load-clause-replies : goal.returns-in-Ok-Some-Load-clause-replies
returns-in-Ok-Some-Load-clause-replies g c =
    let terms = λ (command : Option Command). terms_at g.K.Clock.may_answer (under command g.G.Guard.bars) g.P.FilterTable.place_of
    g.P.FilterTable.selects_at c.args.clock.now c.args.guard.now c.args.preds.now in
    let io = streams_of g.H.In.Source.left g.H.In.Source.faults g.H.Out.Sink.contents g.H.Out.Sink.faults in
    let some = rw c.in-Ok-Some-Load.field-0-is at c.in-Ok-Some-Load.ensures.asks in
    let is = rw c.in-Ok-Some-Load.field-0-0-is at some in
    let r = c.load.result in
    subst (λ command. IfSome r.last (λ last. EachReplies (terms command) (g.H.Host.spec c.args.host.now) io r.recovered r.torn
    (unwrap_or r.authors []) (scripts_of command) r.sessions.items last.entries))
    (is ∙ ap (λ ws. command_of (map string_bytes ws)) c.as_slice.ensures.value)
    (nothing_replies (terms (Some (load c.in-Ok-Some-Load.count))) (terms (Some (load c.in-Ok-Some-Load.count)))
    (g.H.Host.spec c.args.host.now) (spec_in_memory (g.H.Host.spec c.args.host.now) (Some (load c.in-Ok-Some-Load.count))) io in_memory
    r.recovered r.torn (unwrap_or r.authors []) (loads_of (Some (load c.in-Ok-Some-Load.count))) r.sessions.items r.loads.items
    c.load.ensures.sessions r.last c.load.ensures.replies)

pub returns-in-Ok-Some-Load-clause-loads : goal.returns-in-Ok-Some-Load-clause-loads
returns-in-Ok-Some-Load-clause-loads g c =
    let terms = λ (command : Option Command). terms_at g.K.Clock.may_answer (under command g.G.Guard.bars) g.P.FilterTable.place_of
    g.P.FilterTable.selects_at c.args.clock.now c.args.guard.now c.args.preds.now in
    let some = rw c.in-Ok-Some-Load.field-0-is at c.in-Ok-Some-Load.ensures.asks in
    let is = rw c.in-Ok-Some-Load.field-0-0-is at some in
    let r = c.load.result in
    subst (λ command. IfSome r.last (λ last. EachReplies (terms command) (spec_in_memory (g.H.Host.spec c.args.host.now) command) in_memory
    r.recovered r.torn (unwrap_or r.authors []) (loads_of command) r.loads.items last.entries))
    (is ∙ ap (λ ws. command_of (map string_bytes ws)) c.as_slice.ensures.value) c.load.ensures.replies

pub returns-in-Ok-Some-Load-clause-prefixes : goal.returns-in-Ok-Some-Load-clause-prefixes
returns-in-Ok-Some-Load-clause-prefixes g c =
    let r = c.load.result in
    nothing_all (λ last s. Prefixes r.recovered (basis last.entries) s.places s.commits) r.sessions.items c.load.ensures.sessions r.last

pub returns-in-Ok-Some-Load-clause-opening : goal.returns-in-Ok-Some-Load-clause-opening
returns-in-Ok-Some-Load-clause-opening g c =
    let some = rw c.in-Ok-Some-Load.field-0-is at c.in-Ok-Some-Load.ensures.asks in
    let is = rw c.in-Ok-Some-Load.field-0-0-is at some in
    let r = c.load.result in
    subst (λ command. IfSome r.last (λ last. IfKnown ((g.H.Host.spec c.args.host.now).disks (directory_of command) part.Log)
    (λ file. IsLogOf file (upto last.entries r.recovered))))
    (is ∙ ap (λ ws. command_of (map string_bytes ws)) c.as_slice.ensures.value) c.load.ensures.opening

pub returns-in-Ok-Some-Load-clause-log : goal.returns-in-Ok-Some-Load-clause-log
returns-in-Ok-Some-Load-clause-log g c =
    let disks = disks_of g.H.Disk.Disk.bytes g.H.Disk.Disk.faults g.H.Disk.Disk.images g.H.Disk.Disk.moment g.H.Disk.Disk.images_since in
    let some = rw c.in-Ok-Some-Load.field-0-is at c.in-Ok-Some-Load.ensures.asks in
    let is = rw c.in-Ok-Some-Load.field-0-0-is at some in
    let r = c.load.result in
    subst (λ command. IfSome r.last (λ last. IfSome r.log (LogHolds (g.H.Host.spec c.args.host.now) disks (directory_of command)
    last.entries r.recovered r.torn)))
    (is ∙ ap (λ ws. command_of (map string_bytes ws)) c.as_slice.ensures.value) c.load.ensures.log

pub returns-in-Ok-Some-Load-clause-complete : goal.returns-in-Ok-Some-Load-clause-complete
returns-in-Ok-Some-Load-clause-complete g c =
    let terms = λ (command : Option Command). terms_at g.K.Clock.may_answer (under command g.G.Guard.bars) g.P.FilterTable.place_of
    g.P.FilterTable.selects_at c.args.clock.now c.args.guard.now c.args.preds.now in
    let io = streams_of g.H.In.Source.left g.H.In.Source.faults g.H.Out.Sink.contents g.H.Out.Sink.faults in
    let disks = disks_of g.H.Disk.Disk.bytes g.H.Disk.Disk.faults g.H.Disk.Disk.images g.H.Disk.Disk.moment g.H.Disk.Disk.images_since in
    let some = rw c.in-Ok-Some-Load.field-0-is at c.in-Ok-Some-Load.ensures.asks in
    let is = rw c.in-Ok-Some-Load.field-0-0-is at some in
    let r = c.load.result in
    let new = g.H.Host.spec c.load.new.host in
    subst (λ command. Complete (terms command) (g.H.Host.spec c.args.host.now) io disks new.faults command r)
    (is ∙ ap (λ ws. command_of (map string_bytes ws)) c.as_slice.ensures.value)
    (complete_load (terms (Some (load c.in-Ok-Some-Load.count))) (g.H.Host.spec c.args.host.now) io disks new c.in-Ok-Some-Load.count r _ _
    c.load.ensures.one_history c.load.ensures.replies c.load.ensures.log c.load.ensures.causes
    (load_within (map string_bytes c.args.words.now.items) c.in-Ok-Some-Load.count
    (is ∙ ap (λ ws. command_of (map string_bytes ws)) c.as_slice.ensures.value)))

pub returns-in-Ok-Some-Load-clause-coverage : goal.returns-in-Ok-Some-Load-clause-coverage
returns-in-Ok-Some-Load-clause-coverage g c =
    let disks = disks_of g.H.Disk.Disk.bytes g.H.Disk.Disk.faults g.H.Disk.Disk.images g.H.Disk.Disk.moment g.H.Disk.Disk.images_since in
    let some = rw c.in-Ok-Some-Load.field-0-is at c.in-Ok-Some-Load.ensures.asks in
    let is = rw c.in-Ok-Some-Load.field-0-0-is at some in
    let r = c.load.result in
    subst (λ command. IfSome r.last (λ last. IfSome r.segments (GoAsFar (g.H.Host.spec c.args.host.now) disks (directory_of command)
    (upto last.entries r.recovered) last)))
    (is ∙ ap (λ ws. command_of (map string_bytes ws)) c.as_slice.ensures.value) c.load.ensures.coverage

pub returns-in-Ok-Some-Load-clause-merged : goal.returns-in-Ok-Some-Load-clause-merged
returns-in-Ok-Some-Load-clause-merged g c =
    let disks = disks_of g.H.Disk.Disk.bytes g.H.Disk.Disk.faults g.H.Disk.Disk.images g.H.Disk.Disk.moment g.H.Disk.Disk.images_since in
    let some = rw c.in-Ok-Some-Load.field-0-is at c.in-Ok-Some-Load.ensures.asks in
    let is = rw c.in-Ok-Some-Load.field-0-0-is at some in
    let r = c.load.result in
    subst (λ command. IfSome r.last (λ last. r.status ≡ 0 → IfSome (merge_at_of command) (λ merge_at. IfSome r.segments
    (IsMerged (g.H.Host.spec c.args.host.now) disks (directory_of command) merge_at last))))
    (is ∙ ap (λ ws. command_of (map string_bytes ws)) c.as_slice.ensures.value) c.load.ensures.merged

pub returns-in-Ok-None-clause-others : goal.returns-in-Ok-None-clause-others
returns-in-Ok-None-clause-others g c =
    opens_nothing (ports_of (command_of (map string_bytes c.args.words.now.items))) (g.H.Host.spec c.args.host.now)

pub returns-in-Err-clause-others : goal.returns-in-Err-clause-others
returns-in-Err-clause-others g c =
    opens_nothing (ports_of (command_of (map string_bytes c.args.words.now.items))) (g.H.Host.spec c.args.host.now)

pub returns-in-Ok-Some-Run-clause-others : goal.returns-in-Ok-Some-Run-clause-others
returns-in-Ok-Some-Run-clause-others g c =
    let some = rw c.in-Ok-Some-Run.field-0-is at c.in-Ok-Some-Run.ensures.asks in
    let is = rw c.in-Ok-Some-Run.field-0-0-is at some in
    subst (λ command. OpensOnly (ports_of command) (g.H.Host.spec c.args.host.now) (g.H.Host.spec c.run_command.new.host))
    (is ∙ ap (λ ws. command_of (map string_bytes ws)) c.as_slice.ensures.value) c.run_command.ensures.others

pub returns-in-Ok-Some-Check-clause-others : goal.returns-in-Ok-Some-Check-clause-others
returns-in-Ok-Some-Check-clause-others g c =
    let some = rw c.in-Ok-Some-Check.field-0-is at c.in-Ok-Some-Check.ensures.asks in
    let is = rw c.in-Ok-Some-Check.field-0-0-is at some in
    subst (λ command. OpensOnly (ports_of command) (g.H.Host.spec c.args.host.now) (g.H.Host.spec c.check_directory.new.host))
    (is ∙ ap (λ ws. command_of (map string_bytes ws)) c.as_slice.ensures.value) c.check_directory.ensures.others

pub returns-in-Ok-Some-Load-clause-others : goal.returns-in-Ok-Some-Load-clause-others
returns-in-Ok-Some-Load-clause-others g c =
    let some = rw c.in-Ok-Some-Load.field-0-is at c.in-Ok-Some-Load.ensures.asks in
    let is = rw c.in-Ok-Some-Load.field-0-0-is at some in
    subst (λ command. OpensOnly (ports_of command) (g.H.Host.spec c.args.host.now) (g.H.Host.spec c.load.new.host))
    (is ∙ ap (λ ws. command_of (map string_bytes ws)) c.as_slice.ensures.value) c.load.ensures.others

pub returns-in-Ok-Some-Backup-clause-complete : goal.returns-in-Ok-Some-Backup-clause-complete
returns-in-Ok-Some-Backup-clause-complete g c =
    let terms = λ (command : Option Command). terms_at g.K.Clock.may_answer (under command g.G.Guard.bars) g.P.FilterTable.place_of
    g.P.FilterTable.selects_at c.args.clock.now c.args.guard.now c.args.preds.now in
    let io = streams_of g.H.In.Source.left g.H.In.Source.faults g.H.Out.Sink.contents g.H.Out.Sink.faults in
    let disks = disks_of g.H.Disk.Disk.bytes g.H.Disk.Disk.faults g.H.Disk.Disk.images g.H.Disk.Disk.moment g.H.Disk.Disk.images_since in
    let some = rw c.in-Ok-Some-Backup.field-0-is at c.in-Ok-Some-Backup.ensures.asks in
    let is = rw c.in-Ok-Some-Backup.field-0-0-is at some in
    let r = c.back_up.result in
    let new = g.H.Host.spec c.back_up.new.host in
    subst (λ command. Complete (terms command) (g.H.Host.spec c.args.host.now) io disks new.faults command r)
    (is ∙ ap (λ ws. command_of (map string_bytes ws)) c.as_slice.ensures.value)
    (complete_backup (terms (Some (backup_by c.in-Ok-Some-Backup.names))) (g.H.Host.spec c.args.host.now) io disks new
    c.in-Ok-Some-Backup.names.from.now c.in-Ok-Some-Backup.names.to.now r c.back_up.ensures.causes)

pub returns-in-Ok-Some-Backup-clause-others : goal.returns-in-Ok-Some-Backup-clause-others
returns-in-Ok-Some-Backup-clause-others g c =
    let some = rw c.in-Ok-Some-Backup.field-0-is at c.in-Ok-Some-Backup.ensures.asks in
    let is = rw c.in-Ok-Some-Backup.field-0-0-is at some in
    subst (λ command. OpensOnly (ports_of command) (g.H.Host.spec c.args.host.now) (g.H.Host.spec c.back_up.new.host))
    (is ∙ ap (λ ws. command_of (map string_bytes ws)) c.as_slice.ensures.value) c.back_up.ensures.others

pub returns-in-Err-clause-complete : goal.returns-in-Err-clause-complete
returns-in-Err-clause-complete g c =
    let spec = g.H.Host.spec c.args.host.now in
    let command = command_of (map string_bytes c.args.words.now.items) in
    let terms = terms_at g.K.Clock.may_answer (under command g.G.Guard.bars) g.P.FilterTable.place_of
    g.P.FilterTable.selects_at c.args.clock.now c.args.guard.now c.args.preds.now in
    let io = streams_of g.H.In.Source.left g.H.In.Source.faults g.H.Out.Sink.contents g.H.Out.Sink.faults in
    let disks = disks_of g.H.Disk.Disk.bytes g.H.Disk.Disk.faults g.H.Disk.Disk.images g.H.Disk.Disk.moment g.H.Disk.Disk.images_since in
    complete_refused terms spec io disks spec.faults command c.without_session-in-Err.result
    (says_memory _ _ (says_line string_bytes c.out_of_memory.result 9 _ _ _ c.without_session-in-Err.ensures.said
    c.without_session-in-Err.ensures.unsaid c.out_of_memory.ensures))
