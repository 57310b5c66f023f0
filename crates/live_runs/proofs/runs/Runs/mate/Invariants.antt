use Rattle.live_runs.proofs.runs.Runs.mate.Given as goal

abbrev pub ghosts-mate_by : goal.ghosts-mate_by
ghosts-mate_by a = record { name = a.blank.name; parts = a.blank.parts }
