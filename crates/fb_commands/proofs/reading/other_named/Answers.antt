use Rattle.fb_commands.proofs.Words.{four_forms}
use Rattle.fb_commands.proofs.reading.other_named.Goals as goal

pub returns-in_default : goal.returns-in_default
returns-in_default c = four_forms c.args.word.now c.args.behind.now c.in_default.len_at_least
