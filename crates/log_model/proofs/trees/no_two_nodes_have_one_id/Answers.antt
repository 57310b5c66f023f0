-- By the lemmas on the ids of nodes.
use Rattle.log_model.proofs.NodesOfFiles.{distinct-with, distinct-nodes}
use Rattle.log_model.proofs.trees.no_two_nodes_have_one_id.Goals as goal

pub returns : goal.returns
returns c = record { one_record = distinct-with; all = distinct-nodes }
