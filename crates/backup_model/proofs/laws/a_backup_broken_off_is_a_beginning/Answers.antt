-- By the lemma on parts of copies.
use Rattle.backup_model.proofs.CopiedLogs.{part-LogStands}
use Rattle.backup_model.proofs.laws.a_backup_broken_off_is_a_beginning.Goals as goal

pub returns : goal.returns
returns c = λ h entries done left records lawful are held is. part-LogStands records entries are held h done left lawful is
