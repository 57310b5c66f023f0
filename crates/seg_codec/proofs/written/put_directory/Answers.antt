use Rattle.std.proofs.Common.{◌++◌, length, map, ap, ◌∙◌, append_assoc}
use Rattle.std.specs.Arc.{arc_value}
use Rattle.log_model.specs.Fields.{u32_bytes, u64_bytes}
use Rattle.log_model.specs.Nodes.{list_bytes}
use Rattle.seg_tree.specs.Nodes.{LeafNode}
use Rattle.seg_tree.specs.Ids.{leaf_ids}
use Rattle.seg_codec.proofs.Rows.{written_all, list_written, list_mapped}
use Rattle.seg_codec.proofs.written.put_directory.Goals as goal

pub returns : goal.returns
returns c =
    let old = c.args.out.now.items in
    let items = c.leaves-leaves.result.now in
    let d = c.args.directory.now in
    list_written (λ leaf. u64_bytes (arc_value {X = LeafNode} leaf).id) items (old ++ u64_bytes d.id) c.loop-leaf.out.items
    (written_all (λ leaf. u64_bytes (arc_value {X = LeafNode} leaf).id) items c.loop-leaf.leaf-index
    ((old ++ u64_bytes d.id) ++ u32_bytes (length items)) c.loop-leaf.out.items c.loop-leaf-test.false c.loop-leaf.invariant)
    ∙ ap (λ l. (old ++ u64_bytes d.id) ++ l)
    (list_mapped (λ (leaf : LeafNode). u64_bytes leaf.id) arc_value items
    ∙ list_mapped u64_bytes (λ (leaf : LeafNode). leaf.id) (map arc_value items)
    ∙ ap (λ ls. list_bytes u64_bytes (leaf_ids ls)) c.leaves-leaves.ensures.leaves)
    ∙ append_assoc old (u64_bytes d.id) (list_bytes u64_bytes (leaf_ids d.leaves))
