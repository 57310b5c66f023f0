use Rattle.std.proofs.Common.{◌≡◌, Err, refl, arith, rules}
use Rattle.fb_ports.specs.declared.hosts.Part.TheVariants.{Log, Segments}
use Rattle.fb_run.specs.Outside.{disks_of, of_directory}
use Rattle.fb_run.proofs.Opens.{opens_part, opens_then}
use Rattle.fb_run.proofs.Directories.{other_part, refuses_later}
use Rattle.fb_run.proofs.database.open_disks.Goals as goal

pub returns-clause-opened : goal.returns-clause-opened
returns-clause-opened g c =
    let disks = disks_of g.H.Disk.Disk.bytes g.H.Disk.Disk.faults g.H.Disk.Disk.images g.H.Disk.Disk.moment g.H.Disk.Disk.images_since in
    record {
      log = c.in_ok-log.ensures.opened;
      segments = other_part disks c.args.dir.now (g.H.Host.spec c.args.host.now) (g.H.Host.spec c.open_part.new.host)
          c.in_ok-segments.segments c.in_ok-log.ensures.others c.in_ok-segments.ensures.opened;
    }

pub returns-in_err-log-clause-others : goal.returns-in_err-log-clause-others
returns-in_err-log-clause-others g c =
    opens_part (of_directory c.args.dir.now) c.args.dir.now Log (g.H.Host.spec c.args.host.now) (g.H.Host.spec c.open_part.new.host) refl
    c.in_err-log.ensures.others

pub returns-in_err-segments-clause-others : goal.returns-in_err-segments-clause-others
returns-in_err-segments-clause-others g c =
    let old = g.H.Host.spec c.args.host.now in
    let mid = g.H.Host.spec c.open_part.new.host in
    let new = g.H.Host.spec c.open_part-2.new.host in
    let dir = c.args.dir.now in
    opens_then (of_directory dir) old mid new (opens_part (of_directory dir) dir Log old mid refl c.in_ok-log.ensures.others)
    (opens_part (of_directory dir) dir Segments mid new refl c.in_err-segments.ensures.others)

pub returns-clause-others : goal.returns-clause-others
returns-clause-others g c =
    let old = g.H.Host.spec c.args.host.now in
    let mid = g.H.Host.spec c.open_part.new.host in
    let new = g.H.Host.spec c.open_part-2.new.host in
    let dir = c.args.dir.now in
    opens_then (of_directory dir) old mid new (opens_part (of_directory dir) dir Log old mid refl c.in_ok-log.ensures.others)
    (opens_part (of_directory dir) dir Segments mid new refl c.in_ok-segments.ensures.others)

pub returns-in_err-segments-clause-stop : goal.returns-in_err-segments-clause-stop
returns-in_err-segments-clause-stop g c =
    let e : c.from_residual-in_err-segments.result ≡ Err c.in_err-segments.field-0.0 = first_of (search rules, grind arith) in
    rw e
    (refuses_later c.args.dir.now (g.H.Host.spec c.args.host.now) (g.H.Host.spec c.open_part.new.host) (g.H.Host.spec
    c.open_part-2.new.host)
    c.in_ok-log.ensures.unfailed _ c.in_err-segments.ensures.stop)
