use Rattle.std.proofs.Common.{◌++◌, not, map, sym, ap, ◌∙◌}
use Rattle.std.specs.Prelude.{filter}
use Rattle.std.specs.Arc.{arc_value}
use Rattle.std.proofs.lemmas.List.{append-nil, take_all}
use Rattle.log_model.specs.Nodes.{is_among}
use Rattle.seg_tree.specs.Nodes.{LeafNode}
use Rattle.seg_codec.proofs.Rows.{kept_more}
use Rattle.seg_codec.proofs.written.add_new_leaves.Goals as goal

pub loop-leaf-init : goal.loop-leaf-init
loop-leaf-init c = sym (append-nil (map arc_value c.args.new.now.items))

pub loop-leaf-preserved : goal.loop-leaf-preserved
loop-leaf-preserved c =
    kept_more (λ (leaf : LeafNode). not
    (is_among c.args.in_file.now leaf.id)) arc_value c.deref-leaf-items.result.now c.loop-leaf.leaf-index c.leaf-item.result
    (map arc_value c.args.new.now.items)
    (map arc_value c.loop-leaf.new.items)
    (map arc_value c.add_new_leaf.new.new.items) c.loop-leaf-test.true c.leaf-item.is c.loop-leaf.invariant c.in_ok-add_new_leaf.ensures

pub returns : goal.returns
returns c =
    let old = map arc_value c.args.new.now.items in
    c.loop-leaf.invariant
    ∙ ap (λ ls. old ++ filter (λ (leaf : LeafNode). not (is_among c.args.in_file.now leaf.id)) ls)
    (ap (map arc_value) (take_all c.loop-leaf.leaf-index c.deref-leaf-items.result.now c.loop-leaf-test.false
    ∙ c.deref-leaf-items.ensures.value) ∙ c.in_ok-leaves.ensures)
