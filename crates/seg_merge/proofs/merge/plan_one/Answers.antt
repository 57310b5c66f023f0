use Rattle.std.proofs.Common.{map, ap, ◌∙◌}
use Rattle.std.specs.Arc.{arc_value}
use Rattle.std.specs.List.{All}
use Rattle.std.specs.Prelude.{Contains}
use Rattle.fb_values.specs.Lists.{list_in}
use Rattle.seg_tree.specs.Nodes.{leaf_datoms, tree_leaves}
use Rattle.seg_tree.specs.Indexes.{tree_in}
use Rattle.seg_merge.specs.Merged.{KeepsLeaves}
use Rattle.seg_merge.specs.Plans.{Planned, IsUnion, RepeatsNone}
use Rattle.seg_merge.specs.Merges.{IsPlan}
use Rattle.seg_merge.proofs.Lists.{if_ok_four}
use Rattle.seg_merge.proofs.Orders.{leaves_rise, leaves_held, due_rises, due_single, plan_is}
use Rattle.seg_merge.proofs.merge.plan_one.Goals as goal

pub planned-requires-clause-leaves_rise : goal.planned-requires-clause-leaves_rise
planned-requires-clause-leaves_rise c =
    let ls = map arc_value c.deref.result.now in
    let ls_is = ap (map arc_value) c.deref.ensures.value ∙ c.in_ok-leaves.ensures ∙ ap tree_leaves c.tree.ensures in
    leaves_rise c.args.order (tree_in c.args.roots.now c.args.order) ls ls_is c.requires.mergeable.old_rises

pub planned-requires-clause-added_rises : goal.planned-requires-clause-added_rises
planned-requires-clause-added_rises c =
    due_rises c.args.order c.args.covers.now c.args.c (list_in c.args.live.now c.args.order) c.deref-2.result.now
    (c.deref-2.ensures.value ∙ c.in_ok-due.ensures) c.requires.mergeable.live_rises

pub planned-requires-clause-single : goal.planned-requires-clause-single
planned-requires-clause-single c =
    let ls = map arc_value c.deref.result.now in
    let ls_is = ap (map arc_value) c.deref.ensures.value ∙ c.in_ok-leaves.ensures ∙ ap tree_leaves c.tree.ensures in
    due_single c.args.order c.args.covers.now c.args.c (tree_in c.args.roots.now c.args.order) ls (list_in c.args.live.now c.args.order)
    c.deref-2.result.now ls_is (c.deref-2.ensures.value ∙ c.in_ok-due.ensures) c.requires.mergeable.single

pub planned-requires-clause-known : goal.planned-requires-clause-known
planned-requires-clause-known c = λ stay.
    let ls = map arc_value c.deref.result.now in
    let ls_is = ap (map arc_value) c.deref.ensures.value ∙ c.in_ok-leaves.ensures ∙ ap tree_leaves c.tree.ensures in
    leaves_held c.args.order c.args.held.now c.args.covers.now (tree_in c.args.roots.now c.args.order) ls ls_is
    (c.stays_in-all_stay.ensures.0 stay) c.requires.held

pub returns : goal.returns
returns c =
    let order = c.args.order in
    let coverage = c.args.covers.now in
    let tree = tree_in c.args.roots.now order in
    let live = list_in c.args.live.now order in
    let ls = map arc_value c.deref.result.now in
    let due = c.deref-2.result.now in
    let ls_is = ap (map arc_value) c.deref.ensures.value ∙ c.in_ok-leaves.ensures ∙ ap tree_leaves c.tree.ensures in
    let due_is = c.deref-2.ensures.value ∙ c.in_ok-due.ensures in
    if_ok_four c.planned.result
    (λ (plan : Planned). IsUnion order coverage (leaf_datoms ls) due plan.datoms) (λ (plan : Planned). All (Contains ls) plan.kept)
    (λ (plan : Planned). RepeatsNone ls plan.kept) (λ (plan : Planned). KeepsLeaves order coverage ls due plan.kept)
    (IsPlan order coverage c.args.c tree live)
    (λ plan union older once stays. plan_is order coverage c.args.c tree ls live due plan ls_is due_is union older once stays)
    c.planned.ensures.union c.planned.ensures.older c.planned.ensures.once c.planned.ensures.stays
