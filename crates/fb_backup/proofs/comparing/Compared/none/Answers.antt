use Rattle.std.proofs.Common.{arith}
use Rattle.fb_backup.proofs.Records.{none-same}
use Rattle.fb_backup.proofs.comparing.Compared.none.Goals as goal

pub returns : goal.returns
returns c = λ h lawful. (omega arith, none-same h lawful)
