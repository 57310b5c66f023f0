use Rattle.std.proofs.Common.{List, sym, subst}
use Rattle.std.specs.Prelude.{Contains}
use Rattle.std.proofs.lemmas.Bool.{lt-ltb}
use Rattle.std.proofs.lemmas.List.Elements.{All-contains}
use Rattle.fb_values.specs.Lists.{list_in}
use Rattle.live_index.proofs.Members.{from_filter, into_filter}
use Rattle.seg_tree.specs.Nodes.{LeafNode, tree_datoms, tree_leaves}
use Rattle.seg_tree.specs.Ids.{is_old}
use Rattle.seg_tree.specs.Indexes.{tree_in, trees_of}
use Rattle.seg_tree.proofs.Indexes.{list_in-trees_of}
use Rattle.seg_merge.specs.Merged.{IsMerged}
use Rattle.seg_merge.specs.Four.{plan_in}
use Rattle.seg_merge.proofs.Orders.{kept_are_older}
use Rattle.seg_merge.proofs.Distinct.{kept_distinct}
use Rattle.seg_merge.proofs.Standing.{root_stands}
use Rattle.seg_merge.proofs.merge.merge4.Goals as goal

pub build-requires-clause-older : goal.build-requires-clause-older
build-requires-clause-older g c = λ order.
    kept_are_older c.args.roots.now c.args.first_id order (plan_in c.in_ok-plans.plans order).kept c.requires.fresh
    (c.in_ok-plans.ensures order).older

pub build-requires-clause-once : goal.build-requires-clause-once
build-requires-clause-once g c = kept_distinct c.args.roots.now c.in_ok-plans.plans (λ order. (c.in_ok-plans.ensures order).once)

pub returns-clause-distinct : goal.returns-clause-distinct
returns-clause-distinct g c = c.in_ok-merged.merged.distinct

pub returns-clause-merged : goal.returns-clause-merged
returns-clause-merged g c = λ order.
    subst (IsMerged order c.args.covers.now c.args.c (tree_datoms (tree_in c.args.roots.now order)) (list_in c.args.live.now order))
    (sym (c.in_ok-merged.ensures.datoms order)) (c.in_ok-plans.ensures order).merged

pub returns-clause-stays : goal.returns-clause-stays
returns-clause-stays g c = λ order n leaf read none all.
    let kept = (c.in_ok-plans.ensures order).stays n leaf read none all in
    let leaves = tree_leaves (tree_in c.in_ok-merged.merged order) in
    (from_filter (λ (l : LeafNode). is_old c.args.first_id l.id) leaves leaf
    (subst (λ (ls : List LeafNode). Contains ls leaf) (sym (c.in_ok-merged.ensures.kept order)) kept)).0

pub returns-clause-older : goal.returns-clause-older
returns-clause-older g c = λ order leaf there less.
    let leaves = tree_leaves (tree_in c.in_ok-merged.merged order) in
    let old = into_filter (λ (l : LeafNode). is_old c.args.first_id l.id) leaves leaf there (lt-ltb leaf.id c.args.first_id less) in
    let kept = subst (λ (ls : List LeafNode). Contains ls leaf) (c.in_ok-merged.ensures.kept order) old in
    All-contains (Contains (tree_leaves (tree_in c.args.roots.now order))) (plan_in c.in_ok-plans.plans order).kept leaf
    (c.in_ok-plans.ensures order).older kept

pub returns-clause-stand : goal.returns-clause-stand
returns-clause-stand g c = λ h old can.
    root_stands h old c.args.c c.args.covers.now (trees_of c.args.roots.now) c.args.live.now (trees_of c.in_ok-merged.merged) can
    (λ order. rw (
      list_in-trees_of c.args.roots.now order,
      list_in-trees_of c.in_ok-merged.merged order,
      c.in_ok-merged.ensures.datoms order,
    ) (c.in_ok-plans.ensures order).merged)
