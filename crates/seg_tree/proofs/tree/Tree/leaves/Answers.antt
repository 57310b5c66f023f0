use Rattle.std.proofs.Common.{◌++◌, List, map, take, sym, ap, ◌∙◌}
use Rattle.std.specs.Arc.{arc_value}
use Rattle.seg_tree.specs.Nodes.{LeafNode, DirectoryNode, tree_leaves}
use Rattle.seg_tree.proofs.Making.{leaves_more}
use Rattle.seg_tree.proofs.tree.Tree.leaves.Goals as goal

pub loop-directory-preserved : goal.loop-directory-preserved
loop-directory-preserved c =
    let more =
    leaves_more arc_value c.directories-directory-items.result.now c.loop-directory.directory-index c.directory-item.result
    c.loop-directory-test.true c.directory-item.is in
    c.in_ok-leaves.ensures ∙ ap (λ (ls : List LeafNode). ls ++ c.deref.result.now.leaves) c.loop-directory.invariant
    ∙ ap (λ (d : DirectoryNode). tree_leaves
    (map arc_value (take c.loop-directory.directory-index c.directories-directory-items.result.now)) ++ d.leaves) c.deref.ensures
    ∙ sym more
