use Rattle.std.proofs.Common.{sym, subst}
use Rattle.std.specs.Prelude.{All, Contains}
use Rattle.seg_tree.specs.Nodes.{LeafNode, DirectoryNode}
use Rattle.seg_codec.specs.Trees.{file_leaf}
use Rattle.seg_codec.proofs.directories.get_directory.Goals as goal

pub returns-clause-there : goal.returns-clause-there
returns-clause-there c = subst (λ (d : DirectoryNode). All (λ (leaf : LeafNode). Contains c.args.nodes.now.leaves
    (file_leaf leaf)) d.leaves) (sym c.in_ok-of.ensures) c.in_ok-leaves.ensures.there
