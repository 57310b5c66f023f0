use Rattle.std.proofs.Common.{◌&&◌, sym, ap, ◌∙◌}
use Rattle.seg_tree.specs.Nodes.{LeafNode, tree_leaves}
use Rattle.seg_codec.specs.Wanted.{is_wanted}
use Rattle.seg_codec.proofs.Wholes.{all_of_four}
use Rattle.seg_codec.proofs.wanted.Wanted.has_all.Goals as goal

pub returns : goal.returns
returns c =
    let trees = c.args.trees.now in
    c.all_four.ensures
    ∙ (λ i. ((c.in_ok-eavt.ensures i && c.in_ok-aevt.ensures i) && c.in_ok-avet.ensures i) && c.in_ok-vaet.ensures i)
    ∙ sym (all_of_four (λ (leaf : LeafNode). is_wanted c.args.self.now leaf.id) (tree_leaves trees.eavt) (tree_leaves trees.aevt)
    (tree_leaves trees.avet) (tree_leaves trees.vaet))
