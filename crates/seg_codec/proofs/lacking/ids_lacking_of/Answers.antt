use Rattle.std.proofs.Common.{◌++◌, not, ap, ◌∙◌}
use Rattle.std.specs.Prelude.{filter}
use Rattle.log_model.specs.Nodes.{is_among}
use Rattle.seg_tree.specs.Nodes.{LeafNode, DirectoryNode}
use Rattle.seg_tree.specs.Ids.{leaf_ids}
use Rattle.seg_codec.specs.Trees.{directory_ids, leaves_of_four, directories_of_four}
use Rattle.seg_codec.proofs.lacking.ids_lacking_of.Goals as goal

pub returns : goal.returns
returns c =
    let in_file = c.args.in_file.now in
    let trees = c.args.trees.now in
    let leaves = leaf_ids (filter (λ (leaf : LeafNode). not (is_among in_file leaf.id)) (leaves_of_four trees)) in
    let directories = directory_ids (filter (λ (d : DirectoryNode). not (is_among in_file d.id)) (directories_of_four trees)) in
    c.in_ok-add_directory_ids.ensures
    ∙ ap (λ ds. c.add_leaf_ids.new.ids.items ++ directory_ids ds) c.in_ok-directories.ensures
    ∙ ap (λ l. l ++ directories)
    (c.in_ok-add_leaf_ids.ensures ∙ ap (λ ls. c.new-ids.result.items ++ leaf_ids ls) c.in_ok-leaves.ensures
    ∙ ap (λ l. l ++ leaves) c.new-ids.ensures.items)
