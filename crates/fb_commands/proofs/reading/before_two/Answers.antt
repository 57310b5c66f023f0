use Rattle.std.proofs.Common.{refl, codes}
use Rattle.fb_commands.proofs.Words.{differs}
use Rattle.fb_commands.proofs.reading.before_two.Goals as goal

pub returns-in_default : goal.returns-in_default
returns-in_default c = rw (differs (codes "with") c.args.word.now c.in_default.not-with) refl
