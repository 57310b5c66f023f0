use Rattle.std.proofs.Common.{◌<◌, ◌≤◌, ◌++◌, ◌∷◌, [], true, length, map, take, sym, ap, ◌∙◌, arith, append_assoc}
use Rattle.std.specs.Arc.{arc_value}
use Rattle.seg_tree.specs.Nodes.{LeafNode}
use Rattle.seg_tree.specs.Ids.{leaf_ids}
use Rattle.seg_codec.proofs.Reaching.{ids_more, ids_all}
use Rattle.seg_codec.proofs.lacking.add_leaf_ids.Goals as goal

pub loop-leaf-preserved : goal.loop-leaf-preserved
loop-leaf-preserved c =
    let old = c.args.ids.now.items in
    let items = c.args.leaves.now.items in
    let i = c.loop-leaf.leaf-index in
    let there : c.loop-leaf.leaf-index < length c.deref-leaf-items.result.now = omega arith in
    let within = rw c.deref-leaf-items.ensures.value at there in
    let is = rw c.deref-leaf-items.ensures.value at c.leaf-item.is in
    let id = c.id.ensures.id ∙ ap (λ (x : LeafNode). x.id) c.deref.ensures in
    c.in_ok-push.ensures.items
    ∙ ap (λ l. l ++ c.id.result ∷ []) c.loop-leaf.invariant
    ∙ ap (λ n. (old ++ leaf_ids (map arc_value (take i items))) ++ n ∷ []) id
    ∙ append_assoc old (leaf_ids (map arc_value (take i items))) ((arc_value {X = LeafNode} c.leaf-item.result).id ∷ [])
    ∙ ap (λ l. old ++ l) (sym (ids_more arc_value (λ _. true) items i c.leaf-item.result within is))

pub returns : goal.returns
returns c =
    let past : length c.deref-leaf-items.result.now ≤ c.loop-leaf.leaf-index = omega arith in
    c.loop-leaf.invariant ∙ ap (λ l. c.args.ids.now.items ++ l) (ids_all arc_value c.args.leaves.now.items c.loop-leaf.leaf-index (rw
    c.deref-leaf-items.ensures.value at past))
