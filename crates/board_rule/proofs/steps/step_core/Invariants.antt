use Rattle.std.proofs.Common.{◌≡◌}
use Rattle.board_rule.proofs.steps.step_core.Given as goal

abbrev pub ghosts-move_core : goal.ghosts-move_core
ghosts-move_core g a = record { kept = λ h. g.H.Named.origin h ≡ g.H.Named.origin a.board.now.table.shared.key.home.value }
