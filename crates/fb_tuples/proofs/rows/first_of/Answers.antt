-- By the place at which the entities are no longer below the one that is looked for.
use Rattle.std.proofs.Common.{rules, ltb}
use Rattle.std.proofs.lemmas.List.Sorted.{IsPartitionPoint-from_clause, IsPartitionedBy-ltb}
use Rattle.std.proofs.lemmas.Bool.{ltb-true, ltb-false}
use Rattle.fb_tuples.proofs.Firsts.{first_there, none_there, other_there, by_entity}
use Rattle.fb_tuples.proofs.rows.first_of.Goals as goal

pub returns-in_err-d : goal.returns-in_err-d
returns-in_err-d c =
    let point =
    IsPartitionPoint-from_clause (λ d. ltb d.now.e c.args.e) c.args.list.now _ c.partition_point-place.ensures.partitioned
    (IsPartitionedBy-ltb (λ d. d.now.e) c.args.list.now c.args.e (by_entity c.args.list.now c.requires)) (λ a r f' called. search rules) in
    rw c.from_residual.ensures (none_there c.args.e c.args.list.now _ c.requires point.0 c.partition_point-place.ensures.bound (search (rules, ltb-false)))

pub returns-then-d-e : goal.returns-then-d-e
returns-then-d-e c =
    let point =
    IsPartitionPoint-from_clause (λ d. ltb d.now.e c.args.e) c.args.list.now _ c.partition_point-place.ensures.partitioned
    (IsPartitionedBy-ltb (λ d. d.now.e) c.args.list.now c.args.e (by_entity c.args.list.now c.requires)) (λ a r f' called. search rules) in
    first_there c.args.e c.args.list.now _ c.requires point.0 c.in_ok-d.field-0.now (search (rules, ltb-true)) (search rules) c.if-d-e.true

pub returns-else-d-e : goal.returns-else-d-e
returns-else-d-e c =
    let point =
    IsPartitionPoint-from_clause (λ d. ltb d.now.e c.args.e) c.args.list.now _ c.partition_point-place.ensures.partitioned
    (IsPartitionedBy-ltb (λ d. d.now.e) c.args.list.now c.args.e (by_entity c.args.list.now c.requires)) (λ a r f' called. search rules) in
    other_there c.args.e c.args.list.now _ c.requires point.0 point.1 c.in_ok-d.field-0.now (search (rules, ltb-true)) (search rules) c.if-d-e.false
