-- By the lemma on kept roots, from no nodes on.
use Rattle.log_model.specs.Nodes.{no_nodes}
use Rattle.log_model.proofs.KeptRoots.{kept_behind-append}
use Rattle.log_model.proofs.merges.more_records_keep_the_roots.Goals as goal

pub returns : goal.returns
returns c = kept_behind-append no_nodes
