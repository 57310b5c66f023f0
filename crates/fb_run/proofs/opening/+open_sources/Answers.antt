use Rattle.std.proofs.Common.{◌≡◌, Err, arith, rules}
use Rattle.fb_run.specs.Outside.{streams_of, of_sources}
use Rattle.fb_run.proofs.Telling.{sources_none, sources_step}
use Rattle.fb_run.proofs.Opens.{sources_grow, opens_nothing, opens_first, opens_rest, stuck_first, stuck_later}
use Rattle.command_line.specs.Views.{names_in}
use Rattle.fb_run.proofs.opening.+open_sources.Goals as goal

pub returns-in-empty-clause-opened : goal.returns-in-empty-clause-opened
returns-in-empty-clause-opened g t c = sources_none _ c.args.scripts.now _ _ c.in-empty.len_below

pub returns-in-empty-clause-others : goal.returns-in-empty-clause-others
returns-in-empty-clause-others g t c = opens_nothing (of_sources (names_in c.args.scripts.now)) (g.H.Host.spec c.args.host.now)

pub returns-in_err-add_source-in-len1-up-clause-others : goal.returns-in_err-add_source-in-len1-up-clause-others
returns-in_err-add_source-in-len1-up-clause-others g t c =
    opens_first of_sources sources_grow c.args.scripts.now _ c.in-len1-up.len_at_least (g.H.Host.spec c.args.host.now)
    (g.H.Host.spec c.add_source.new.host) c.in_err-add_source-in-len1-up.ensures.others

pub returns-in_err-add_source-in-len1-up-clause-stop : goal.returns-in_err-add_source-in-len1-up-clause-stop
returns-in_err-add_source-in-len1-up-clause-stop g t c =
    let e : c.from_residual.result ≡ Err c.in_err-add_source-in-len1-up.field-0.0 = first_of (search rules, grind arith) in
    rw e
    (stuck_first of_sources sources_grow c.args.scripts.now _ c.in-len1-up.len_at_least (g.H.Host.spec c.args.host.now)
    (g.H.Host.spec c.add_source.new.host) _ c.in_err-add_source-in-len1-up.ensures.others c.in_err-add_source-in-len1-up.ensures.stop)

pub returns-in_ok-add_source-in-len1-up-clause-opened : goal.returns-in_ok-add_source-in-len1-up-clause-opened
returns-in_ok-add_source-in-len1-up-clause-opened g t c =
    sources_step (streams_of g.H.In.Source.left g.H.In.Source.faults g.H.Out.Sink.contents g.H.Out.Sink.faults) c.open_sources.result
    c.args.scripts.now _ _ _ _ _ _ _
    c.in-len1-up.len_at_least c.requires.apart c.in_ok-add_source-in-len1-up.ensures.opened c.open_sources.ensures.opened

pub returns-in_ok-add_source-in-len1-up-clause-others : goal.returns-in_ok-add_source-in-len1-up-clause-others
returns-in_ok-add_source-in-len1-up-clause-others g t c =
    opens_rest of_sources sources_grow c.args.scripts.now _ c.in-len1-up.len_at_least (g.H.Host.spec c.args.host.now)
    (g.H.Host.spec c.add_source.new.host) (g.H.Host.spec c.open_sources.new.host) c.in_ok-add_source-in-len1-up.ensures.others
    c.open_sources.ensures.others

pub returns-in_ok-add_source-in-len1-up-clause-stop : goal.returns-in_ok-add_source-in-len1-up-clause-stop
returns-in_ok-add_source-in-len1-up-clause-stop g t c =
    stuck_later of_sources sources_grow c.args.scripts.now _ c.in-len1-up.len_at_least c.open_sources.result
    (g.H.Host.spec c.args.host.now) (g.H.Host.spec c.add_source.new.host) (g.H.Host.spec c.open_sources.new.host)
    c.in_ok-add_source-in-len1-up.ensures.opened.faults c.in_ok-add_source-in-len1-up.ensures.others c.open_sources.ensures.stop
