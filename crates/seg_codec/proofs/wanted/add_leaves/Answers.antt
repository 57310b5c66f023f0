use Rattle.std.proofs.Common.{◌≡◌, ◌<◌, ◌≤◌, ◌||◌, ◌∷◌, [], ℕ, length, map, sym, ap, ◌∙◌, arith}
use Rattle.std.specs.Arc.{arc_value}
use Rattle.log_model.specs.Nodes.{is_among}
use Rattle.seg_tree.specs.Nodes.{LeafNode}
use Rattle.seg_tree.specs.Ids.{leaf_ids}
use Rattle.seg_codec.proofs.Reaching.{ids_all}
use Rattle.seg_codec.proofs.Wholes.{none_more, one_more_among}
use Rattle.seg_codec.proofs.wanted.add_leaves.Goals as goal

pub loop-leaf-init : goal.loop-leaf-init
loop-leaf-init c = λ id. none_more (is_among c.args.ids.now id)

pub loop-leaf-preserved : goal.loop-leaf-preserved
loop-leaf-preserved c = λ id.
    let there : c.loop-leaf.leaf-index < length c.deref-leaf-items.result.now = omega arith in
    let within = rw c.deref-leaf-items.ensures.value at there in
    let is = rw c.deref-leaf-items.ensures.value at c.leaf-item.is in
    c.in_ok-add_leaf.ensures id
    ∙ ap (λ (l : LeafNode). is_among c.loop-leaf.ids id || is_among (leaf_ids (l ∷ [])) id) c.deref.ensures
    ∙ one_more_among arc_value c.args.leaves.now.items c.loop-leaf.leaf-index c.leaf-item.result within is
    (is_among c.args.ids.now id) (is_among c.loop-leaf.ids id) id (c.loop-leaf.invariant id)

pub returns : goal.returns
returns c = λ id.
    let past : length c.deref-leaf-items.result.now ≤ c.loop-leaf.leaf-index = omega arith in
    c.loop-leaf.invariant id
    ∙ ap (λ l. is_among c.args.ids.now id || is_among l id)
    (ids_all arc_value c.args.leaves.now.items c.loop-leaf.leaf-index (rw c.deref-leaf-items.ensures.value at past))
