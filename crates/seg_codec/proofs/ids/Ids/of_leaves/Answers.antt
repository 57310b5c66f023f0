use Rattle.std.proofs.Common.{◌||◌, ap, ◌∙◌}
use Rattle.log_model.specs.Nodes.{is_among}
use Rattle.seg_tree.specs.Nodes.{tree_leaves}
use Rattle.seg_tree.specs.Ids.{leaf_ids}
use Rattle.seg_codec.proofs.Wholes.{among_four}
use Rattle.seg_codec.proofs.ids.Ids.of_leaves.Goals as goal

pub returns : goal.returns
returns c = λ id.
    let trees = c.args.trees.now in
    let e = is_among (leaf_ids (tree_leaves trees.eavt)) id in
    let a = is_among (leaf_ids (tree_leaves trees.aevt)) id in
    let v = is_among (leaf_ids (tree_leaves trees.avet)) id in
    let r = is_among (leaf_ids (tree_leaves trees.vaet)) id in
    c.in_ok-add_tree-4.ensures id
    ∙ ap (λ b. b || r) (c.in_ok-add_tree-3.ensures id)
    ∙ ap (λ b. (b || v) || r) (c.in_ok-add_tree-2.ensures id)
    ∙ ap (λ b. ((b || a) || v) || r) (c.in_ok-add_tree.ensures id ∙ ap (λ l. is_among l id || e) c.new-ids.ensures)
    ∙ among_four trees id
