-- By the lemma on beginnings.
use Rattle.fb_backup.proofs.Beginnings.{from-says}
use Rattle.fb_backup.proofs.laws.a_backup_reopens_as_a_beginning.Goals as goal

pub returns : goal.returns
returns c = from-says
