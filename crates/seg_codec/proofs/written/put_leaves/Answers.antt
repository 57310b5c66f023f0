use Rattle.std.proofs.Common.{◌<◌, ◌≤◌, ◌++◌, length, map, sym, ap, subst, ◌∙◌, arith}
use Rattle.std.specs.Prelude.{All, IsTrue}
use Rattle.std.specs.Arc.{arc_value}
use Rattle.std.proofs.lemmas.List.Elements.{All-contains}
use Rattle.log_model.specs.Fields.{u32_bytes}
use Rattle.log_model.specs.Payload.{written_format}
use Rattle.log_model.specs.Storable.{is_storable_value}
use Rattle.log_model.specs.Nodes.{leaf_bytes}
use Rattle.seg_tree.specs.Nodes.{LeafNode}
use Rattle.seg_codec.specs.Trees.{file_leaf}
use Rattle.seg_codec.proofs.InNodes.{at_place}
use Rattle.seg_codec.proofs.Rows.{written_more, written_all, list_written, list_mapped}
use Rattle.seg_codec.proofs.written.put_leaves.Goals as goal

pub put_leaf-requires : goal.put_leaf-requires
put_leaf-requires c =
    let there : c.loop-leaf.leaf-index < length c.deref-leaf-items.result.now = omega arith in
    let within = rw c.deref-leaf-items.ensures.value at there in
    let is = rw c.deref-leaf-items.ensures.value at c.leaf-item.is in
    subst (λ (leaf : LeafNode). All (λ d. IsTrue (is_storable_value written_format d.v)) leaf.datoms) (sym c.deref.ensures)
    (All-contains (λ (leaf : LeafNode). All (λ d. IsTrue (is_storable_value written_format d.v)) leaf.datoms)
    (map arc_value c.args.leaves.now.items) (arc_value {X = LeafNode} c.leaf-item.result) c.requires
    (at_place arc_value c.args.leaves.now.items c.loop-leaf.leaf-index c.leaf-item.result within is))

pub loop-leaf-preserved : goal.loop-leaf-preserved
loop-leaf-preserved c =
    let there : c.loop-leaf.leaf-index < length c.deref-leaf-items.result.now = omega arith in
    let within = rw c.deref-leaf-items.ensures.value at there in
    let is = rw c.deref-leaf-items.ensures.value at c.leaf-item.is in
    written_more (λ leaf. leaf_bytes (file_leaf
    (arc_value {X = LeafNode} leaf))) c.args.leaves.now.items c.loop-leaf.leaf-index c.leaf-item.result
    (c.args.out.now.items ++ u32_bytes (length c.args.leaves.now.items))
    c.loop-leaf.out.items c.put_leaf.new.out.items within is c.loop-leaf.invariant
    (c.in_ok-put_leaf.ensures ∙ ap (λ l. c.loop-leaf.out.items ++ leaf_bytes (file_leaf l)) c.deref.ensures)

pub returns : goal.returns
returns c =
    let old = c.args.out.now.items in
    let items = c.args.leaves.now.items in
    let past : length c.deref-leaf-items.result.now ≤ c.loop-leaf.leaf-index = omega arith in
    list_written (λ leaf. leaf_bytes (file_leaf (arc_value {X = LeafNode} leaf))) items old c.loop-leaf.out.items
    (written_all (λ leaf. leaf_bytes (file_leaf (arc_value {X = LeafNode} leaf))) items c.loop-leaf.leaf-index
    (old ++ u32_bytes (length items)) c.loop-leaf.out.items (rw c.deref-leaf-items.ensures.value at past) c.loop-leaf.invariant)
    ∙ ap (λ l. old ++ l) (list_mapped (λ (leaf : LeafNode). leaf_bytes (file_leaf leaf)) arc_value items
    ∙ list_mapped leaf_bytes file_leaf (map arc_value items))
