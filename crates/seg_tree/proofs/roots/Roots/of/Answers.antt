use Rattle.seg_tree.specs.Ids.{ids_of_four}
use Rattle.seg_tree.proofs.Rows.{next_of_row, four_in_row, four_distinct}
use Rattle.seg_tree.proofs.roots.Roots.of.Goals as goal

pub invariant_of-result : goal.invariant_of-result
invariant_of-result c = record {
  distinct = four_distinct _ _ _ _ _ _ _ _ _ _ _ _ _ c.in_ok-eavt.ensures c.in_ok-aevt.ensures c.in_ok-avet.ensures c.in_ok-vaet.ensures;
}

pub returns-clause-ids : goal.returns-clause-ids
returns-clause-ids c =
    four_in_row _ _ _ _ _ _ _ _ _ _ _ _ _ c.in_ok-eavt.ensures c.in_ok-aevt.ensures c.in_ok-avet.ensures c.in_ok-vaet.ensures

pub returns-clause-next : goal.returns-clause-next
returns-clause-next c =
    next_of_row c.args.first_id (ids_of_four c.in_ok-eavt.eavt c.in_ok-aevt.aevt c.in_ok-avet.avet c.in_ok-vaet.vaet)
    (four_in_row _ _ _ _ _ _ _ _ _ _ _ _ _ c.in_ok-eavt.ensures c.in_ok-aevt.ensures c.in_ok-avet.ensures c.in_ok-vaet.ensures)
