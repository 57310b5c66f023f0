use Rattle.seg_tree.proofs.Growing.{in_row}
use Rattle.seg_tree.proofs.tree.Tree.of.Goals as goal

pub returns-clause-ids : goal.returns-clause-ids
returns-clause-ids c = in_row c.args.first_id c.in_ok-tree.field-0-1 c.args.datoms.items c.in_ok-tree.tree c.in_ok-tree.ensures
