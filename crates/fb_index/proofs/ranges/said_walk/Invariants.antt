use Rattle.fb_index.proofs.ranges.said_walk.Given as goal

abbrev pub ghosts-seek_said : goal.ghosts-seek_said
ghosts-seek_said a = record { name = a.blank.name; parts = a.blank.parts }
