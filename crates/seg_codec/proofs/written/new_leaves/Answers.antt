use Rattle.std.proofs.Common.{not, map, ap}
use Rattle.std.specs.Arc.{arc_value}
use Rattle.log_model.specs.Nodes.{is_among}
use Rattle.seg_tree.specs.Nodes.{LeafNode, tree_leaves}
use Rattle.seg_codec.proofs.Rows.{kept_four}
use Rattle.seg_codec.proofs.written.new_leaves.Goals as goal

pub returns : goal.returns
returns c =
    let roots = c.args.roots.now in
    kept_four (λ (leaf : LeafNode). not (is_among c.args.in_file.now leaf.id)) (tree_leaves roots.eavt) (tree_leaves roots.aevt)
    (tree_leaves roots.avet) (tree_leaves roots.vaet)
    (map arc_value c.new-new.result.items) (map arc_value c.add_new_leaves.new.new.items) (map arc_value c.add_new_leaves-2.new.new.items)
    (map arc_value c.add_new_leaves-3.new.new.items) (map arc_value c.add_new_leaves-4.new.new.items)
    (ap (map arc_value) c.new-new.ensures.items) c.in_ok-add_new_leaves.ensures c.in_ok-add_new_leaves-2.ensures
    c.in_ok-add_new_leaves-3.ensures c.in_ok-add_new_leaves-4.ensures
