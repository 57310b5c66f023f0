use Rattle.std.proofs.Common.{◌≡◌, Err, arith, rules}
use Rattle.command_line.specs.Views.{names_in}
use Rattle.fb_run.specs.Outside.{streams_of}
use Rattle.fb_run.proofs.Telling.{count_sources, opened_by}
use Rattle.fb_run.proofs.Opens.{opens_sources, opens_both, source_stuck, sink_stuck}
use Rattle.fb_run.proofs.opening.open_all.Goals as goal

pub open_sinks-requires-clause-sources : goal.open_sinks-requires-clause-sources
open_sinks-requires-clause-sources g c =
    let count = count_sources (streams_of g.H.In.Source.left g.H.In.Source.faults g.H.Out.Sink.contents g.H.Out.Sink.faults)
    c.args.scripts.now _ _ _ _
    c.in_ok-open_sources.ensures.opened c.new-sources.ensures.items in
    omega (arith, count, c.into_iter-sources.ensures.len, c.open_sources.new.sources.ok.0)

pub returns-clause-opened : goal.returns-clause-opened
returns-clause-opened g c =
    opened_by (streams_of g.H.In.Source.left g.H.In.Source.faults g.H.Out.Sink.contents g.H.Out.Sink.faults) _ _ _ _ _ _ _ _ _
    c.new-sources.ensures.items c.new-sessions.ensures.items c.into_iter-sources.ensures.rest c.in_ok-open_sources.ensures.opened
    c.in_ok-open_sinks.ensures.opened

pub returns-in_err-open_sources-clause-others : goal.returns-in_err-open_sources-clause-others
returns-in_err-open_sources-clause-others g c =
    opens_sources (names_in c.args.scripts.now) (g.H.Host.spec c.args.host.now) (g.H.Host.spec c.open_sources.new.host)
    c.in_err-open_sources.ensures.others

pub returns-in_err-open_sources-clause-stop : goal.returns-in_err-open_sources-clause-stop
returns-in_err-open_sources-clause-stop g c =
    let e : c.from_residual.result ≡ Err c.in_err-open_sources.field-0.0 = first_of (search rules, grind arith) in
    rw e
    (source_stuck (names_in c.args.scripts.now) (g.H.Host.spec c.args.host.now) (g.H.Host.spec c.open_sources.new.host) _
    c.in_err-open_sources.ensures.stop)

pub returns-in_err-open_sinks-clause-others : goal.returns-in_err-open_sinks-clause-others
returns-in_err-open_sinks-clause-others g c =
    opens_both (names_in c.args.scripts.now) (g.H.Host.spec c.args.host.now) (g.H.Host.spec c.open_sources.new.host)
    (g.H.Host.spec c.open_sinks.new.host) c.in_ok-open_sources.ensures.others c.in_err-open_sinks.ensures.others

pub returns-in_err-open_sinks-clause-stop : goal.returns-in_err-open_sinks-clause-stop
returns-in_err-open_sinks-clause-stop g c =
    let e : c.from_residual-in_err-open_sinks.result ≡ Err c.in_err-open_sinks.field-0.0 = first_of (search rules, grind arith) in
    rw e
    (sink_stuck (names_in c.args.scripts.now) (g.H.Host.spec c.args.host.now) (g.H.Host.spec c.open_sources.new.host)
    (g.H.Host.spec c.open_sinks.new.host) _ c.in_ok-open_sources.ensures.opened.faults c.in_ok-open_sources.ensures.others
    c.in_err-open_sinks.ensures.stop)

pub returns-clause-others : goal.returns-clause-others
returns-clause-others g c =
    opens_both (names_in c.args.scripts.now) (g.H.Host.spec c.args.host.now) (g.H.Host.spec c.open_sources.new.host)
    (g.H.Host.spec c.open_sinks.new.host) c.in_ok-open_sources.ensures.others c.in_ok-open_sinks.ensures.others
