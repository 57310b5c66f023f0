-- By the lemmas on one more record.
use Rattle.log_model.proofs.NodesOfFiles.{one_more_root, one_more_nodes, one_more_good, bad_record_stops}
use Rattle.log_model.proofs.trees.one_more_record_keeps_one_more_root.Goals as goal

pub returns : goal.returns
returns c = record {
  root = one_more_root;
  nodes = one_more_nodes;
  good = one_more_good;
  bad_roots = λ records payload byte more bad. (bad_record_stops records payload byte more bad).0;
  bad_nodes = λ records payload byte more bad. (bad_record_stops records payload byte more bad).1;
}
