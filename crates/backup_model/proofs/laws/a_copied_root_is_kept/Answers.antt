-- By the lemmas on copied roots.
use Rattle.backup_model.proofs.CopiedLogs.{copy_keeps, copy_alone, copy_opened, copy_no_further}
use Rattle.backup_model.proofs.laws.a_copied_root_is_kept.Goals as goal

pub returns-clause-keeps : goal.returns-clause-keeps
returns-clause-keeps c = copy_keeps

pub returns-clause-alone : goal.returns-clause-alone
returns-clause-alone c = copy_alone

pub returns-clause-opened : goal.returns-clause-opened
returns-clause-opened c = copy_opened

pub returns-clause-no_further : goal.returns-clause-no_further
returns-clause-no_further c = copy_no_further
