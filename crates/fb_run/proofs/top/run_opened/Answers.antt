use Rattle.std.proofs.Common.{◌≡◌, ◌∙◌, refl, sym, ap, subst, inr, arith, rules, length}
use Rattle.std.proofs.lemmas.Option.{slice_get_within, IfSome_then}
use Rattle.fb_desk.specs.Desks.{State}
use Rattle.fb_conn.specs.Seats.{state_of}
use Rattle.fb_run.proofs.Lists.{there}
use Rattle.disk_log.specs.Logs.{disk_in, count_in}
use Rattle.fb_run.specs.Outside.{disks_of}
use Rattle.fb_run.specs.Merging.{trees_in, HaveMerged}
use Rattle.fb_run.specs.Running.{HandsLogBack}
use Rattle.fb_run.proofs.Running.{run_history, run_replies, run_prefixes, run_opening, run_ended}
use Rattle.fb_run.proofs.top.run_opened.Goals as goal

pub serve_all-ended-requires-clause-seats : goal.serve_all-ended-requires-clause-seats
serve_all-ended-requires-clause-seats g c κs within = λ k seat is.
    let m = c.in-Ok-connected.ensures.made.opened k seat is in let left : (state_of seat).left ≡ 4294967296 = ap (λ (s : State). s.left) m.2 in (
      m.0,
      omega (arith, left),
    )

pub closed-requires-clause-seats : goal.closed-requires-clause-seats
closed-requires-clause-seats g c κs within = λ k seat is.
    let t = c.serve_all-ended.ensures.talked in
    let was = there c.in-Ok-connected.field-0.seats.items k (omega (arith, slice_get_within _ k seat is, t.seat_count)) in
    let r = t.rested k was.0 seat was.1 is in (r.0, r.1 ∙ (c.in-Ok-connected.ensures.made.opened k was.0 was.1).1)

pub returns-in-Ok-connected-clause-one_history : goal.returns-in-Ok-connected-clause-one_history
returns-in-Ok-connected-clause-one_history g c =
    let count : length c.args.ready.sessions.items ≡ length c.in-Ok-connected.field-0.seats.items = first_of (search rules, grind arith) in
    let re = c.requires.reopened.2 in
    let cl = c.closed.ensures in
    run_history _ _ _ _ _ _ _ c.serve_all-ended.ensures.talked count c.args.ready.directory.core.snapshot.entries
    re.core.snapshot.history.lawful _
    (sym re.recovered) (λ k seat is. (c.in-Ok-connected.ensures.made.opened k seat is).2) c.closed.result cl.closes
    cl.sessions cl.recovered

pub returns-in-Ok-connected-clause-replies : goal.returns-in-Ok-connected-clause-replies
returns-in-Ok-connected-clause-replies g c =
    let count : length c.args.ready.sessions.items ≡ length c.in-Ok-connected.field-0.seats.items = first_of (search rules, grind arith) in
    let re = c.requires.reopened.2 in
    let cl = c.closed.ensures in
    run_replies _ _ _ _ _ _ _ c.serve_all-ended.ensures.talked count c.args.ready.directory.core.snapshot.entries
    re.core.snapshot.history.lawful _
    (sym re.recovered) (λ k seat is. (c.in-Ok-connected.ensures.made.opened k seat is).2) c.closed.result cl.closes
    cl.sessions cl.recovered

pub returns-in-Ok-connected-clause-prefixes : goal.returns-in-Ok-connected-clause-prefixes
returns-in-Ok-connected-clause-prefixes g c =
    let count : length c.args.ready.sessions.items ≡ length c.in-Ok-connected.field-0.seats.items = first_of (search rules, grind arith) in
    let re = c.requires.reopened.2 in
    let cl = c.closed.ensures in
    run_prefixes _ _ _ _ _ _ _ c.serve_all-ended.ensures.talked count c.args.ready.directory.core.snapshot.entries
    re.core.snapshot.history.lawful _
    (sym re.recovered) (λ k seat is. (c.in-Ok-connected.ensures.made.opened k seat is).2) c.closed.result cl.closes
    cl.sessions cl.recovered

pub returns-in-Ok-connected-clause-opening : goal.returns-in-Ok-connected-clause-opening
returns-in-Ok-connected-clause-opening g c =
    let count : length c.args.ready.sessions.items ≡ length c.in-Ok-connected.field-0.seats.items = first_of (search rules, grind arith) in
    let re = c.requires.reopened.2 in
    let cl = c.closed.ensures in
    run_opening _ _ _ _ _ _ _ c.serve_all-ended.ensures.talked count c.args.ready.directory.core.snapshot.entries
    re.core.snapshot.history.lawful _
    (sym re.recovered) (λ k seat is. (c.in-Ok-connected.ensures.made.opened k seat is).2) c.closed.result cl.closes
    cl.sessions cl.recovered c.args.ready.directory refl refl
    (omega (arith, count, c.requires.few.0, c.serve_all-ended.ensures.talked.session_count))

pub returns-in-Ok-connected-clause-log : goal.returns-in-Ok-connected-clause-log
returns-in-Ok-connected-clause-log g c =
    let disks = disks_of g.D.Disk.bytes g.D.Disk.faults g.D.Disk.images g.D.Disk.moment g.D.Disk.images_since in
    let directory = c.args.ready.directory in
    let out = c.closed.result in
    IfSome_then out.last c.closed.ensures.log (λ last leaves.
    subst (λ n. HandsLogBack disks n (disk_in directory.log) last.entries out) c.requires.reopened.2.count
    (subst (λ log. HandsLogBack disks (count_in log) (disk_in log) last.entries out) c.in-Ok-connected.ensures.begun leaves))

pub returns-in-Ok-connected-clause-ended : goal.returns-in-Ok-connected-clause-ended
returns-in-Ok-connected-clause-ended g c =
    let disks = disks_of g.D.Disk.bytes g.D.Disk.faults g.D.Disk.images g.D.Disk.moment g.D.Disk.images_since in
    let count : length c.args.ready.sessions.items ≡ length c.in-Ok-connected.field-0.seats.items = first_of (search rules, grind arith) in
    let re = c.requires.reopened.2 in
    let cl = c.closed.ensures in
    inr (run_ended _ _ _ _ _ _ _ c.serve_all-ended.ensures.talked count c.args.ready.directory.core.snapshot.entries
    re.core.snapshot.history.lawful _
    (sym re.recovered) (λ k seat is. (c.in-Ok-connected.ensures.made.opened k seat is).2) c.closed.result cl.closes
    cl.sessions cl.recovered _ disks _ _ _ (trees_in c.args.ready.directory) cl.log
    (cl.ends (trees_in c.args.ready.directory) refl
    (subst (λ trees. HaveMerged disks trees c.serve_all-ended.new.worker.trees c.serve_all-ended.new.worker.end) c.in-Ok-connected.ensures.trees
    c.serve_all-ended.ensures.worked.merged)))
