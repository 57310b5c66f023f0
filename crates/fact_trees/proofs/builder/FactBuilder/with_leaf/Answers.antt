use Rattle.std.proofs.Common.{◌≡◌, ◌∙◌, List, true, sym, ap, subst}
use Rattle.std.specs.Prelude.{IfOk}
use Rattle.std.specs.Arc.{arc_value}
use Rattle.std.specs.Option.{option_copied}
use Rattle.fb_values.specs.declared.facts.Datom.{Datom}
use Rattle.seg_tree.specs.Nodes.{LeafNode}
use Rattle.seg_tree.specs.Built.{Build}
use Rattle.fact_trees.specs.Facts.{all_stand}
use Rattle.fact_trees.proofs.Neighbours.{with_leaf-all}
use Rattle.fact_trees.proofs.builder.FactBuilder.with_leaf.Goals as goal

pub returns-then-all_stand : goal.returns-then-all_stand
returns-then-all_stand c =
    let leaf = arc_value c.args.leaf.now in
    let next = option_copied c.args.next in
    let same : c.datoms.result.now ≡ leaf.datoms = c.datoms.ensures.datoms ∙ ap (λ (l : LeafNode). l.datoms) c.deref.ensures in
    let all : all_stand leaf.datoms next ≡ true =
    ap (λ (ds : List Datom). all_stand ds next) (sym same) ∙ sym c.all_stand.ensures ∙ c.if-all_stand.true in
    subst (λ (b : Build). IfOk c.keep.result (λ new. new ≡ b)) (with_leaf-all c.args.self leaf next all) c.keep.ensures
