use Rattle.std.proofs.Common.{subst}
use Rattle.seg_tree.specs.declared.roots.Roots.{Roots}
use Rattle.fb_merge.specs.Made.{SharesLeaves}
use Rattle.fb_merge.proofs.trees.merged.Goals as goal

pub returns-clause-older : goal.returns-clause-older
returns-clause-older g c =
    subst (λ (old : Roots). SharesLeaves c.args.first_id old c.in_ok-merged.merged) c.roots.ensures.roots c.in_ok-merged.ensures.older
