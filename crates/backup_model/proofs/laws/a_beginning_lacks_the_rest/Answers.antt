-- By the lemma on beginnings.
use Rattle.backup_model.proofs.CopiedLogs.{beginning_lacks}
use Rattle.backup_model.proofs.laws.a_beginning_lacks_the_rest.Goals as goal

pub returns : goal.returns
returns c = beginning_lacks
