use Rattle.std.proofs.Common.{◌∙◌, ◌+◌, length, ap, arith}
use Rattle.live_runs.specs.Parts.{members_of}
use Rattle.live_runs.specs.Runs.{runs_datoms}
use Rattle.live_runs.proofs.Counting.{members_digits, members_long, middle_digits}
use Rattle.live_runs.proofs.Seeking.{walk_left}
use Rattle.live_runs.proofs.runs.Runs.walk_from.Goals as goal

pub of-requires : goal.of-requires
of-requires g c =
    (walk_left c.args.aim.now c.args.table.now c.args.self.now c.order.result c.newest-newest.result.now c.middle-middle.result.now
    c.lower_bound-first.result c.lower_bound-second.result (members_of c.parts.result.now) c.rest_from-rest.result.chunk.now
    c.rest_from-rest.result.later.now c.requires c.order.ensures c.newest-newest.ensures.changes c.lower_bound-first.ensures.value c.middle-middle.ensures
    c.lower_bound-second.ensures.value c.parts.ensures.members c.rest_from-rest.ensures.cut c.rest_from-rest.ensures.each).0

pub returns-clause-datoms : goal.returns-clause-datoms
returns-clause-datoms g c =
    c.of.ensures.datoms
    ∙ (walk_left c.args.aim.now c.args.table.now c.args.self.now c.order.result c.newest-newest.result.now c.middle-middle.result.now
    c.lower_bound-first.result c.lower_bound-second.result (members_of c.parts.result.now) c.rest_from-rest.result.chunk.now
    c.rest_from-rest.result.later.now c.requires c.order.ensures c.newest-newest.ensures.changes c.lower_bound-first.ensures.value c.middle-middle.ensures
    c.lower_bound-second.ensures.value c.parts.ensures.members c.rest_from-rest.ensures.cut c.rest_from-rest.ensures.each).1

pub returns-clause-cost : goal.returns-clause-cost
returns-clause-cost g c = λ digits few.
    let members = length (members_of c.parts.result.now) in
    let datoms = length (runs_datoms c.args.aim.now.order c.args.table.now c.args.self.now) in
    let long = members_long c.args.aim.now.order c.args.table.now c.args.self.now c.requires in
    let within =
    members_digits members datoms digits
    (omega (arith, long, c.newest-newest.ensures.few, ap length c.newest-newest.ensures.changes, ap length c.parts.ensures.members)) few in
    let first = c.lower_bound-first.ensures.cost 5 (omega (arith, c.newest-newest.ensures.few)) in
    let second =
    c.lower_bound-second.ensures.cost (digits + 4)
    (middle_digits (length c.middle-middle.result.now) members digits
    (omega (arith, c.requires.settled.short, ap length c.middle-middle.ensures, ap length c.parts.ensures.members)) within) in
    let rest = c.rest_from-rest.ensures.cost digits within in
    omega (arith, first, second, rest)
