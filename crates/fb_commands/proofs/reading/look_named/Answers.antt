use Rattle.std.proofs.Common.{◌∙◌, arith}
use Rattle.fb_commands.proofs.Words.{before_many}
use Rattle.fb_commands.proofs.reading.look_named.Goals as goal

pub returns-in-len1-up : goal.returns-in-len1-up
returns-in-len1-up c = c.of_an_index-in-len1-up.ensures ∙ before_many c.args.word.now c.args.behind.now c.x-item-2.result (omega arith) c.x-item-2.is
