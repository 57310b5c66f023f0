use Rattle.seg_tree.proofs.tree.Tree.place.Given as goal

abbrev pub ghosts-seek_from : goal.ghosts-seek_from
ghosts-seek_from a = record { name = a.blank.name; parts = a.blank.parts }
