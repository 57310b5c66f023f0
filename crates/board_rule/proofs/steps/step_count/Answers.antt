use Rattle.std.proofs.Common.{rules}
use Rattle.board_rule.proofs.Turns.{counts_on}
use Rattle.board_rule.proofs.steps.step_count.Goals as goal

pub load-count-requires : goal.load-count-requires
load-count-requires g c = (search rules, search rules, counts_on _ _ _ _ _ c.open-opened.result.me)
