use Rattle.std.proofs.Common.{sym, subst}
use Rattle.std.specs.Prelude.{All, Contains}
use Rattle.seg_tree.specs.Nodes.{LeafNode, DirectoryNode}
use Rattle.seg_codec.specs.Trees.{file_leaf}
use Rattle.seg_codec.proofs.directories.add_directory.Goals as goal

pub add_directory-requires-clause-there : goal.add_directory-requires-clause-there
add_directory-requires-clause-there c =
    subst (λ (d : DirectoryNode). All (λ (leaf : LeafNode). Contains c.args.nodes.now.leaves (file_leaf leaf)) d.leaves)
    (sym c.in_ok-new.ensures.ok) c.in_ok-directory.ensures.there
