use Rattle.std.proofs.Common.{◌∙◌, sym, subst, List}
use Rattle.seg_tree.specs.Nodes.{DirectoryNode}
use Rattle.seg_tree.specs.Ranks.{AreWithin}
use Rattle.seg_tree.proofs.tree.Tree.seek.Goals as goal

pub returns-clause-cost : goal.returns-clause-cost
returns-clause-cost g c = λ d l k small.
    let same = c.deref-root.ensures ∙ c.self.view_is in
    c.seek.ensures.cost d l k (subst (λ (tree : List DirectoryNode). AreWithin tree d l k) (sym same) small)
