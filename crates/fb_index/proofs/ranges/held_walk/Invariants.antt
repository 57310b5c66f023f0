use Rattle.fb_index.proofs.ranges.held_walk.Given as goal

abbrev pub ghosts-seek_held : goal.ghosts-seek_held
ghosts-seek_held a = record { name = a.blank.name; parts = a.blank.parts }
