use Rattle.std.proofs.Common.{◌≡◌, ◌∷◌, [], subst, arith, rules}
use Rattle.fb_ports.specs.HostCalls.{StaysButSink}
use Rattle.command_line.specs.Words.{sink_of}
use Rattle.fb_run.specs.Outside.{of_sinks}
use Rattle.fb_run.proofs.Opens.{opens_nothing, opens_sink}
use Rattle.fb_run.proofs.opening.open_sink.Goals as goal

pub returns-in_default-clause-others : goal.returns-in_default-clause-others
returns-in_default-clause-others g c = opens_nothing (of_sinks (c.args.name.now ∷ [])) (g.H.Host.spec c.args.host.now)

pub returns-in-Ok-sink-clause-others : goal.returns-in-Ok-sink-clause-others
returns-in-Ok-sink-clause-others g c =
    let old = g.H.Host.spec c.args.host.now in
    let new = g.H.Host.spec c.sink.new.self in
    let same : c.as_str.result.now ≡ sink_of c.args.name.now = first_of (search rules, grind arith) in
    opens_sink c.args.name.now old new (subst (λ n. StaysButSink n old new) same c.in-Ok-sink.ensures.others)
