use Rattle.std.proofs.Common.{◌≡◌, ◌∙◌, Err, arith, rules}
use Rattle.command_line.specs.Words.{standard}
use Rattle.fb_run.proofs.Backups.{opens_target, opens_console, refuses_target, refuses_console}
use Rattle.fb_run.proofs.backing.open_outside.Goals as goal

pub returns-in-Ok-clause-opened : goal.returns-in-Ok-clause-opened
returns-in-Ok-clause-opened g c =
    let first = c.in_ok-target.ensures in
    let sink = c.in-Ok.ensures.opened in
    record {
      target = first.opened;
      console = record {
        contents = sink.is.contents ∙ first.streams.sinks standard;
        faults = sink.is.faults ∙ first.streams.sink_faults standard;
      };
      host = sink.faults ∙ first.streams.faults;
    }

pub returns-in-Ok-clause-others : goal.returns-in-Ok-clause-others
returns-in-Ok-clause-others g c =
    opens_console c.args.to.now (g.H.Host.spec c.args.host.now) (g.H.Host.spec c.open_disks.new.host) (g.H.Host.spec c.open_sink.new.host)
    c.in_ok-target.ensures.others c.in-Ok.ensures.others

pub returns-in-Err-clause-others : goal.returns-in-Err-clause-others
returns-in-Err-clause-others g c =
    opens_console c.args.to.now (g.H.Host.spec c.args.host.now) (g.H.Host.spec c.open_disks.new.host) (g.H.Host.spec c.open_sink.new.host)
    c.in_ok-target.ensures.others c.in-Err.ensures.others

pub returns-in-Err-clause-stop : goal.returns-in-Err-clause-stop
returns-in-Err-clause-stop g c =
    refuses_console c.args.to.now (g.H.Host.spec c.args.host.now) (g.H.Host.spec c.open_disks.new.host)
    (g.H.Host.spec c.open_sink.new.host) c.in_ok-target.ensures.streams.faults c.in-Err.why c.in-Err.ensures.stop

pub returns-in_err-target-clause-stop : goal.returns-in_err-target-clause-stop
returns-in_err-target-clause-stop g c =
    let e : c.from_residual.result ≡ Err c.in_err-target.field-0.0 = first_of (search rules, grind arith) in
    rw e
    (refuses_target c.args.to.now (g.H.Host.spec c.args.host.now) (g.H.Host.spec c.open_disks.new.host) c.in_err-target.ensures.others _
    c.in_err-target.ensures.stop)

pub returns-in_err-target-clause-others : goal.returns-in_err-target-clause-others
returns-in_err-target-clause-others g c =
    opens_target c.args.to.now (g.H.Host.spec c.args.host.now) (g.H.Host.spec c.open_disks.new.host) c.in_err-target.ensures.others
