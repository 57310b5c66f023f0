use Rattle.std.proofs.Common.{refl, codes}
use Rattle.fb_commands.proofs.Words.{differs}
use Rattle.fb_commands.proofs.reading.before_three.Goals as goal

pub returns-in_default : goal.returns-in_default
returns-in_default c = rw (differs (codes "tuple-range") c.args.word.now c.in_default.not-text) refl
