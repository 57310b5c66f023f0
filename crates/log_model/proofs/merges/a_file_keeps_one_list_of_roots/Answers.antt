-- By the lemmas on files of segments.
use Rattle.log_model.proofs.KeptRoots.{one_keeping, some_keeping}
use Rattle.log_model.proofs.merges.a_file_keeps_one_list_of_roots.Goals as goal

pub returns-clause-one : goal.returns-clause-one
returns-clause-one c = one_keeping

pub returns-clause-some : goal.returns-clause-some
returns-clause-some c = some_keeping
