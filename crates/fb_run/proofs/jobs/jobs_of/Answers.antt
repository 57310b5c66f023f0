use Rattle.std.proofs.Common.{◌≡◌, ◌∙◌, ◌++◌, map, length, refl, ap, subst, arith}
use Rattle.std.specs.List.{AllByRecursion}
use Rattle.std.specs.Vec.Iter.{into_iter_items}
use Rattle.fb_conn.specs.Seats.{IsSeatOf}
use Rattle.fb_conn.proofs.Places.{all_with}
use Rattle.fb_run.proofs.Talking.{grow, finish, every}
use Rattle.fb_run.proofs.jobs.jobs_of.Goals as goal

pub loop-seat-init : goal.loop-seat-init
loop-seat-init g c =
    let items = c.requires.empty in let none : length c.args.room.items ≡ 0 = ap length items in
    let seats : length (into_iter_items c.into_iter-seats.result) ≡ length c.args.seats.items = ap length c.into_iter-seats.ensures.rest in
    let opened : length (into_iter_items c.into_iter-opened.result) ≡ length c.args.opened.items = ap length
    c.into_iter-opened.ensures.rest in (
      ap (λ js. map (λ job. job.desk.seat) js ++ into_iter_items c.into_iter-seats.result) items,
      ap (λ js. map (λ job. job.out) js ++ into_iter_items c.into_iter-opened.result) items,
      λ k d within. absurd (omega (arith, within, none)),
      every (λ seat. IsSeatOf c.args.conn.now seat) c.args.seats.items (into_iter_items c.into_iter-seats.result)
          c.into_iter-seats.ensures.rest c.requires.seats,
      omega (
        arith,
        c.into_iter-seats.ensures.len,
        c.into_iter-opened.ensures.len,
        c.requires.opened,
        c.args.seats.ok.0,
        c.args.opened.ok.0,
      ),
      omega (arith, seats, c.into_iter-seats.ensures.len, c.args.seats.ok.0),
      omega (arith, opened, c.into_iter-opened.ensures.len, c.args.opened.ok.0),
      omega (arith, none, c.args.room.ok.0, c.into_iter-seats.ensures.len, c.args.seats.ok.0, c.requires.room),
    )

pub loop-seat-preserved : goal.loop-seat-preserved
loop-seat-preserved g c =
    let inv = c.loop-seat.invariant in let next = c.in-Some.ensures.cases in let made = c.job_of-job.ensures in let pushed =
    c.push_reserved.ensures.items in
    let seats = ap length next.0 in let opened = ap length made.out in (
      grow (λ job. job.desk.seat) _ _ c.job_of-job.result _ _ _ _ pushed made.seat next.0 inv.0,
      grow (λ job. job.out) _ _ c.job_of-job.result _ _ _ _ pushed refl made.out inv.1,
      all_with (λ job. job.desk.conn.now ≡ c.args.conn.now) _ _ c.job_of-job.result pushed inv.2 made.conn,
      (subst (AllByRecursion (λ seat. IsSeatOf c.args.conn.now seat)) next.0 inv.3).1,
      omega (arith, next.1, made.len, inv.4),
      omega (arith, seats, next.1, inv.5),
      omega (arith, opened, made.len, inv.6),
      omega (arith, c.push_reserved.ensures.len, c.push_reserved.ensures.capacity, next.1, inv.7),
    )

pub returns-clause-seats : goal.returns-clause-seats
returns-clause-seats g c =
    let inv = c.loop-seat.invariant in
    finish (λ job. job.desk.seat) c.loop-seat.jobs.items _ _ inv.0 (omega (arith, inv.5, c.in_default.ensures.cases.0)) ∙
    c.into_iter-seats.ensures.rest

pub returns-clause-sessions : goal.returns-clause-sessions
returns-clause-sessions g c =
    let inv = c.loop-seat.invariant in
    finish (λ job. job.out) c.loop-seat.jobs.items _ _ inv.1 (omega (arith, inv.6, inv.4, c.in_default.ensures.cases.0)) ∙
    c.into_iter-opened.ensures.rest
