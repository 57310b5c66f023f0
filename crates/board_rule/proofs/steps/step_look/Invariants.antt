use Rattle.board_rule.proofs.steps.step_look.Given as goal

abbrev pub ghosts-note_marks : goal.ghosts-note_marks
ghosts-note_marks g a = record { marks = g.H.Named.marks a._home.now }
