use Rattle.std.proofs.Common.{sym, ap, ◌∙◌}
use Rattle.std.specs.List.{list_any}
use Rattle.std.specs.Arc.{arc_value}
use Rattle.log_model.specs.Nodes.{is_among}
use Rattle.seg_tree.specs.Nodes.{LeafNode}
use Rattle.seg_tree.specs.Ids.{leaf_ids}
use Rattle.seg_codec.proofs.Reaching.{any_here, none_more, ids_all}
use Rattle.seg_codec.proofs.nodes.any_reached.Goals as goal

pub loop-leaf-preserved : goal.loop-leaf-preserved
loop-leaf-preserved c =
    let reached = c.args.reached.now in
    let id = c.id.ensures.id ∙ ap (λ (l : LeafNode). l.id) c.deref.ensures in
    none_more arc_value
    (is_among reached) c.leaves-leaf-items.result.now c.loop-leaf.leaf-index c.leaf-item.result c.loop-leaf-test.true c.leaf-item.is
    c.loop-leaf.invariant
    (ap (is_among reached) (sym id) ∙ sym c.contains.ensures ∙ c.if-contains.false)

pub returns-then-contains : goal.returns-then-contains
returns-then-contains c =
    let reached = c.args.reached.now in
    let id = c.id.ensures.id ∙ ap (λ (l : LeafNode). l.id) c.deref.ensures in
    sym (ap (λ ls. list_any (is_among reached) (leaf_ids ls)) (sym c.leaves-leaf-items.ensures.leaves)
    ∙ any_here arc_value
    (is_among reached) c.leaves-leaf-items.result.now c.loop-leaf.leaf-index c.leaf-item.result c.loop-leaf-test.true c.leaf-item.is
    (ap (is_among reached) (sym id) ∙ sym c.contains.ensures ∙ c.if-contains.true))

pub returns : goal.returns
returns c =
    let reached = c.args.reached.now in
    sym (ap (λ ls. list_any (is_among reached) (leaf_ids ls)) (sym c.leaves-leaf-items.ensures.leaves)
    ∙ ap (list_any (is_among reached)) (sym
    (ids_all arc_value c.leaves-leaf-items.result.now c.loop-leaf.leaf-index c.loop-leaf-test.false))
    ∙ c.loop-leaf.invariant)
