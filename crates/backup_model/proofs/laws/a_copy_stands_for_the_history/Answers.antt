-- By the lemma on copies.
use Rattle.backup_model.proofs.CopiedLogs.{copy-LogStands}
use Rattle.backup_model.proofs.laws.a_copy_stands_for_the_history.Goals as goal

pub returns : goal.returns
returns c = λ h entries lacking records lawful are held is. copy-LogStands records entries are held h lacking lawful is
