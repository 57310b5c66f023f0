use Rattle.fb_chunks.proofs.tree.Tree.+at.Given as goal

abbrev pub decreases-at : goal.decreases-at
decreases-at g l = goal.size-at g l
