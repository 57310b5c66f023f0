use Rattle.std.proofs.Common.{◌≡◌, [], Err, Some, refl, sym, subst, arith, rules}
use Rattle.command_line.specs.Views.{names_in, run_by}
use Rattle.fb_run.specs.Outside.{streams_of, disks_of, of_directory, of_scripts, ports_of, OpensOnly}
use Rattle.fb_run.specs.Opening.{HasOpened, IsUnopened}
use Rattle.fb_run.specs.Database.{LeaveLogUnharmed}
use Rattle.fb_run.proofs.Opens.{with_directory, opens_more, opens_behind}
use Rattle.fb_run.proofs.Directories.{opened_over, opened_unharmed, opened_history, unready_script}
use Rattle.fb_run.proofs.opening.open_run.Goals as goal

pub returns-in-Ok-clause-sessions : goal.returns-in-Ok-clause-sessions
returns-in-Ok-clause-sessions g c =
    let io = streams_of g.H.In.Source.left g.H.In.Source.faults g.H.Out.Sink.contents g.H.Out.Sink.faults in
    let mid = g.H.Host.spec c.open_directory.new.host in
    let new = g.H.Host.spec c.open_all.new.host in
    let ours = subst (λ l. HasOpened io (names_in l) mid new c.in-Ok.sessions.items) c.as_slice.ensures.value c.in-Ok.ensures.opened in
    opened_over io (g.H.Host.spec c.args.host.now) mid c.in_ok-directory.ensures.streams (names_in c.args.command.now.scripts.items) new
    c.in-Ok.sessions.items ours

pub returns-in_err-directory-clause-stop : goal.returns-in_err-directory-clause-stop
returns-in_err-directory-clause-stop g c =
    let e : c.from_residual.result ≡ Err c.in_err-directory.field-0.0 = first_of (search rules, grind arith) in
    rw e
    (c.in_err-directory.ensures.stop (ports_of (Some (run_by c.args.command.now))) (names_in c.args.command.now.scripts.items) [] refl)

pub returns-in_err-directory-clause-others : goal.returns-in_err-directory-clause-others
returns-in_err-directory-clause-others g c =
    let dir = c.args.command.now.directory.now in
    let ports = ports_of (Some (run_by c.args.command.now)) in
    opens_more (of_directory dir) ports (g.H.Host.spec c.args.host.now) (g.H.Host.spec c.open_directory.new.host)
    (with_directory ports dir refl) c.in_err-directory.ensures.others

pub returns-in-Ok-clause-others : goal.returns-in-Ok-clause-others
returns-in-Ok-clause-others g c =
    let mid = g.H.Host.spec c.open_directory.new.host in
    let new = g.H.Host.spec c.open_all.new.host in
    let dir = c.args.command.now.directory.now in
    opens_behind (of_scripts (names_in c.args.command.now.scripts.items)) dir (g.H.Host.spec c.args.host.now) mid new
    c.in_ok-directory.ensures.others
    (subst (λ l. OpensOnly (of_scripts (names_in l)) mid new) c.as_slice.ensures.value c.in-Ok.ensures.others)

pub returns-in-Err-clause-others : goal.returns-in-Err-clause-others
returns-in-Err-clause-others g c =
    let mid = g.H.Host.spec c.open_directory.new.host in
    let new = g.H.Host.spec c.open_all.new.host in
    let dir = c.args.command.now.directory.now in
    opens_behind (of_scripts (names_in c.args.command.now.scripts.items)) dir (g.H.Host.spec c.args.host.now) mid new
    c.in_ok-directory.ensures.others
    (subst (λ l. OpensOnly (of_scripts (names_in l)) mid new) c.as_slice.ensures.value c.in-Err.ensures.others)

pub returns-in-Err-clause-stop : goal.returns-in-Err-clause-stop
returns-in-Err-clause-stop g c =
    let disks = disks_of g.H.Disk.Disk.bytes g.H.Disk.Disk.faults g.H.Disk.Disk.images g.H.Disk.Disk.moment g.H.Disk.Disk.images_since in
    let old = g.H.Host.spec c.args.host.now in
    let mid = g.H.Host.spec c.open_directory.new.host in
    let new = g.H.Host.spec c.open_all.new.host in
    let dir = c.args.command.now.directory.now in
    let directory = c.in_ok-directory.ensures in
    let not = subst (λ l. IsUnopened (names_in l) mid new c.in-Err.why) c.as_slice.ensures.value c.in-Err.ensures.stop in
    let both = subst (λ d. LeaveLogUnharmed old disks dir d) (sym c.into_disks.ensures)
    (opened_unharmed old disks dir c.in_ok-directory.directory directory.opened) in
    unready_script disks dir old mid new c.into_disks.result directory.streams.faults both
    (opened_history old disks dir c.in_ok-directory.directory directory.opened) directory.others
    (names_in c.args.command.now.scripts.items) c.in-Err.why not
