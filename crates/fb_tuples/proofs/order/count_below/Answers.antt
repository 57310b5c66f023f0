-- By the place at which the test turns.
use Rattle.std.proofs.Common.{rules}
use Rattle.std.proofs.lemmas.List.Sorted.{IsPartitionPoint-from_clause}
use Rattle.fb_tuples.specs.Lent.{is_below}
use Rattle.fb_tuples.proofs.BelowBounds.{partitioned, below_rows, rows_behind}
use Rattle.fb_tuples.proofs.order.count_below.Goals as goal

pub returns-clause-below : goal.returns-clause-below
returns-clause-below g c =
    let row = g.R.Bounded.stands_for in
    let point = IsPartitionPoint-from_clause (λ r. is_below c.args.bound.now (row r)) c.args.rows.now _ c.partition_point.ensures.partitioned
    (partitioned row c.args.bound.now c.args.rows.now c.requires) (λ a r f' called. search rules) in
    below_rows row c.args.bound.now c.args.rows.now _ c.partition_point.ensures.bound point.0 point.1

pub returns-clause-behind : goal.returns-clause-behind
returns-clause-behind g c =
    let row = g.R.Bounded.stands_for in
    let point = IsPartitionPoint-from_clause (λ r. is_below c.args.bound.now (row r)) c.args.rows.now _ c.partition_point.ensures.partitioned
    (partitioned row c.args.bound.now c.args.rows.now c.requires) (λ a r f' called. search rules) in
    rows_behind row c.args.bound.now c.args.rows.now _ c.partition_point.ensures.bound point.0 point.1
