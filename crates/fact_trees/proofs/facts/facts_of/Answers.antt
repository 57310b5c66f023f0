use Rattle.std.proofs.Common.{arith}
use Rattle.fb_values.specs.declared.indexes.Order.TheVariants.{Eavt, Aevt, Avet, Vaet}
use Rattle.fact_trees.proofs.Ids.{four_distinct, all_below}
use Rattle.fact_trees.proofs.facts.facts_of.Goals as goal

pub tree_of_facts-requires-clause-fresh : goal.tree_of_facts-requires-clause-fresh
tree_of_facts-requires-clause-fresh c = let below = all_below c.args.all.now in omega (arith, below, c.next_id.ensures.next)

pub tree_of_facts-requires-clause-rising : goal.tree_of_facts-requires-clause-rising
tree_of_facts-requires-clause-rising c = (Eavt, c.requires Eavt)

pub tree_of_facts-requires-2-clause-fresh : goal.tree_of_facts-requires-2-clause-fresh
tree_of_facts-requires-2-clause-fresh c =
    let below = all_below c.args.all.now in
    omega (arith, below, c.next_id.ensures.next, c.in_ok-eavt.ensures.behind)

pub tree_of_facts-requires-2-clause-rising : goal.tree_of_facts-requires-2-clause-rising
tree_of_facts-requires-2-clause-rising c = (Aevt, c.requires Aevt)

pub tree_of_facts-requires-3-clause-fresh : goal.tree_of_facts-requires-3-clause-fresh
tree_of_facts-requires-3-clause-fresh c =
    let below = all_below c.args.all.now in
    omega (arith, below, c.next_id.ensures.next, c.in_ok-eavt.ensures.behind, c.in_ok-aevt.ensures.behind)

pub tree_of_facts-requires-3-clause-rising : goal.tree_of_facts-requires-3-clause-rising
tree_of_facts-requires-3-clause-rising c = (Avet, c.requires Avet)

pub tree_of_facts-requires-4-clause-fresh : goal.tree_of_facts-requires-4-clause-fresh
tree_of_facts-requires-4-clause-fresh c =
    let below = all_below c.args.all.now in
    omega (arith, below, c.next_id.ensures.next, c.in_ok-eavt.ensures.behind, c.in_ok-aevt.ensures.behind, c.in_ok-avet.ensures.behind)

pub tree_of_facts-requires-4-clause-rising : goal.tree_of_facts-requires-4-clause-rising
tree_of_facts-requires-4-clause-rising c = (Vaet, c.requires Vaet)

pub invariant_of-result : goal.invariant_of-result
invariant_of-result c =
    let below = all_below c.args.all.now in
    record {
      distinct = four_distinct _ _ _ _ _ _ _ _ _ _ _ _ _ c.in_ok-eavt.ensures c.in_ok-aevt.ensures c.in_ok-avet.ensures c.in_ok-vaet.ensures
          (omega (arith, c.next_id.ensures.next)) c.next_id.ensures.distinct;
    }
