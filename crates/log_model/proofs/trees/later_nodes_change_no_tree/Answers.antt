-- By the lemmas on later nodes.
use Rattle.log_model.proofs.NodesOfFiles.{one_record_changes_no_tree, more_records_change_no_tree}
use Rattle.log_model.proofs.trees.later_nodes_change_no_tree.Goals as goal

pub returns : goal.returns
returns c = record { one_record = one_record_changes_no_tree; more_records = more_records_change_no_tree }
