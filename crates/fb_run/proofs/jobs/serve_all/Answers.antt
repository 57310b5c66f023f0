use Rattle.std.proofs.Common.{◌≤◌, arith}
use Rattle.std.proofs.lemmas.Option.{slice_get-get_or}
use Rattle.std.specs.Prelude.{slice_index_or}
use Rattle.talk_model.specs.Script.{most_commands}
use Rattle.fb_conn.specs.Seats.{state_of}
use Rattle.fb_run.proofs.Talking.{at_seats, have_talked_in}
use Rattle.fb_run.proofs.jobs.serve_all.Goals as goal

pub jobs_of-jobs-requires-clause-seats : goal.jobs_of-jobs-requires-clause-seats
jobs_of-jobs-requires-clause-seats g c = λ k d within.
    let seats = c.args.seats.items in (c.requires.seats k (slice_index_or seats k d) (slice_get-get_or seats k d within)).0

pub serve_from-requires-clause-left : goal.serve_from-requires-clause-left
serve_from-requires-clause-left g c κs within =
    at_seats (λ seat. most_commands ≤ (state_of seat).left) _ _ _ c.as_mut_slice.ensures.value c.jobs_of-jobs.ensures.seats (λ k seat is.
    (c.requires.seats k seat is).1)

pub returns-clause-talked : goal.returns-clause-talked
returns-clause-talked g c =
    let a = c.jobs_of-jobs.ensures in let e = c.as_mut_slice.ensures in
    have_talked_in _ _ c.args.conn.now _ _ _ _ c.jobs_of-jobs.result.items c.as_mut_slice.result.now c.serve_from.new.jobs
    c.jobs_of-jobs.result.len a.seats a.sessions a.desks e.value
    c.serve_from.ensures.talked (first_of (search (arith, c.serve_from.auto.jobs), omega (arith, c.serve_from.auto.jobs))) (omega (
      arith,
      c.jobs_of-jobs.result.ok.0,
    ))
    c.take_apart.ensures.seats c.take_apart.ensures.sessions
