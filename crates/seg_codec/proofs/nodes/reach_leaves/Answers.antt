use Rattle.std.proofs.Common.{◌++◌, ◌∷◌, [], true, map, take, sym, ap, subst, ◌∙◌, append_assoc}
use Rattle.std.specs.Arc.{arc_value}
use Rattle.log_model.specs.Nodes.{is_among}
use Rattle.seg_tree.specs.Nodes.{LeafNode}
use Rattle.seg_tree.specs.Ids.{leaf_ids}
use Rattle.seg_codec.proofs.Among.{AreOnce}
use Rattle.seg_codec.proofs.Reaching.{ids_more, ids_all, next_leaf_apart}
use Rattle.seg_codec.proofs.nodes.reach_leaves.Goals as goal

pub add-requires-clause-new : goal.add-requires-clause-new
add-requires-clause-new c =
    let old = c.args.reached.now in
    let items = c.leaves-leaf-items.result.now in
    let i = c.loop-leaf.leaf-index in
    let id = c.id.ensures.id ∙ ap (λ (l : LeafNode). l.id) c.deref.ensures in
    ap (λ l. is_among l c.id.result) c.loop-leaf.invariant
    ∙ ap (is_among (old ++ leaf_ids (map arc_value (take i items)))) id
    ∙ next_leaf_apart arc_value old items i c.leaf-item.result
    (subst AreOnce (ap (λ ls. old ++ leaf_ids ls)
    (sym c.leaves-leaf-items.ensures.leaves)) c.requires) c.loop-leaf-test.true c.leaf-item.is

pub loop-leaf-preserved : goal.loop-leaf-preserved
loop-leaf-preserved c =
    let old = c.args.reached.now in
    let items = c.leaves-leaf-items.result.now in
    let i = c.loop-leaf.leaf-index in
    let id = c.id.ensures.id ∙ ap (λ (l : LeafNode). l.id) c.deref.ensures in
    c.in_ok-add.ensures.added
    ∙ ap (λ l. l ++ c.id.result ∷ []) c.loop-leaf.invariant
    ∙ ap (λ n. (old ++ leaf_ids (map arc_value (take i items))) ++ n ∷ []) id
    ∙ append_assoc old (leaf_ids (map arc_value (take i items))) ((arc_value {X = LeafNode} c.leaf-item.result).id ∷ [])
    ∙ ap (λ l. old ++ l) (sym (ids_more arc_value (λ _. true) items i c.leaf-item.result c.loop-leaf-test.true c.leaf-item.is))

pub returns : goal.returns
returns c =
    let old = c.args.reached.now in
    c.loop-leaf.invariant
    ∙ ap (λ l. old ++ l) (ids_all arc_value c.leaves-leaf-items.result.now c.loop-leaf.leaf-index c.loop-leaf-test.false)
    ∙ ap (λ ls. old ++ leaf_ids ls) c.leaves-leaf-items.ensures.leaves
