use Rattle.std.proofs.Common.{cond, ap, Some, None}
use Rattle.held_facts.proofs.Steps.{followed}
use Rattle.held_facts.proofs.fact_maps.follow.Goals as goal

pub returns-in_ok-insert-3 : goal.returns-in_ok-insert-3
returns-in_ok-insert-3 c = λ before has.
    let d = c.args.d.now in
    let by_entity = c.insert.new.self in
    let by_attribute = c.insert-then-d.new.self in
    let by_value = c.insert-then-d-2.new.self in
    followed before d c.args.kept.now (record { by_entity = by_entity; by_attribute = by_attribute; by_value = by_value }) (Some d.t) _ _ _
    (record {
      leaves = ap (λ b. cond b (Some d.t) None) c.if-d.true;
      is_u = c.in_ok-copy.ensures;
      is_v = c.in_ok-copy-2.ensures;
      is_w = c.in_ok-copy-3.ensures;
      by_entity = c.in_ok-insert.ensures.updates;
      by_attribute = c.in_ok-insert-2.ensures.updates;
      by_value = c.in_ok-insert-3.ensures.updates;
      entities_ordered = c.in_ok-insert.ensures.ordered;
      attributes_ordered = c.in_ok-insert-2.ensures.ordered;
      values_ordered = c.in_ok-insert-3.ensures.ordered;
    })
    has

pub returns-in_ok-copy-6 : goal.returns-in_ok-copy-6
returns-in_ok-copy-6 c = λ before has.
    let d = c.args.d.now in
    let by_entity = c.remove.new.self in
    let by_attribute = c.remove-else-d.new.self in
    let by_value = c.remove-else-d-2.new.self in
    followed before d c.args.kept.now (record { by_entity = by_entity; by_attribute = by_attribute; by_value = by_value }) None _ _ _
    (record {
      leaves = ap (λ b. cond b (Some d.t) None) c.if-d.false;
      is_u = c.in_ok-copy-4.ensures;
      is_v = c.in_ok-copy-5.ensures;
      is_w = c.in_ok-copy-6.ensures;
      by_entity = c.remove.ensures.updates;
      by_attribute = c.remove-else-d.ensures.updates;
      by_value = c.remove-else-d-2.ensures.updates;
      entities_ordered = c.remove.ensures.ordered;
      attributes_ordered = c.remove-else-d.ensures.ordered;
      values_ordered = c.remove-else-d-2.ensures.ordered;
    })
    has
