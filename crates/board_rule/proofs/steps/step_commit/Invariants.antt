use Rattle.board_rule.specs.Views.{codes}
use Rattle.board_rule.proofs.steps.step_commit.Given as goal

abbrev pub ghosts-store_count : goal.ghosts-store_count
ghosts-store_count g a =
    record { entries = codes g.row.H-Entry.coded.code (g.H.Named.entries a._home.now); authors = g.H.Named.authors a._home.now }
