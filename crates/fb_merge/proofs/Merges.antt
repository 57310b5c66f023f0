-- A value's live lists may be merged into trees that they go with.
use Rattle.std.proofs.Common.{◌∙◌, ap, sym, subst, arith, get_or, List}
use Rattle.std.specs.Prelude.{Contains}
use Rattle.std.proofs.lemmas.List.Elements.{Contains-get_or}
use Rattle.fb_values.specs.declared.facts.Datom.{Datom}
use Rattle.fb_values.specs.declared.facts.Entry.{Entry}
use Rattle.fb_values.specs.declared.indexes.Order.{Order}
use Rattle.fb_covers.specs.Coverage.{Coverage}
use Rattle.fb_model.specs.History.{basis}
use Rattle.fb_model.specs.Facts.{facts}
use Rattle.fb_model.specs.Schema.{covers}
use Rattle.fb_model.proofs.Times.{upto-basis}
use Rattle.fb_schema.specs.Tables.{HasCoverage}
use Rattle.fb_values.specs.Lists.{Lists, list_in}
use Rattle.view_model.specs.Stands.{RootStands}
use Rattle.seg_tree.specs.Indexes.{tree_in, trees_of}
use Rattle.seg_tree.specs.declared.roots.Roots.{Roots}
use Rattle.seg_tree.specs.Nodes.{tree_datoms}
use Rattle.seg_merge.specs.Merged.{AreHeld, IsMergeable}
use Rattle.seg_merge.specs.Standing.{CanMerge}
use Rattle.fb_view.specs.SnapshotModel.{SnapshotModel, Stands}
use Rattle.fb_view.proofs.Standing.{coverage_of}
use Rattle.seg_tree.proofs.Indexes.{list_in-trees_of}

pub can_merge : (k : SnapshotModel) (roots : Lists) (coverage : Coverage) → Stands k → RootStands roots k.entries k.covered
    → HasCoverage coverage k.schema → CanMerge k.entries k.covered (basis k.entries) coverage roots k.live
can_merge k roots coverage stands trees has = record {
  lawful = stands.history.lawful;
  roots_stand = trees;
  live_stands = stands.history.live_stands;
  later = trees.bound;
  bound = omega arith;
  coverage_is = λ order a.
      coverage_of k.schema k.entries coverage stands.schema_is has order a
      ∙ ap (λ (h : List Entry). covers (facts h) order a) (sym (upto-basis k.entries stands.history.lawful));
  still_covered = λ order d there early. ap (λ (h : List Entry). covers (facts h) order d.a) (upto-basis k.entries stands.history.lawful);
}

pub mergeable : (roots : Roots) (live : Lists) (order : Order) → IsMergeable order (list_in (trees_of roots) order) (list_in live order)
    → IsMergeable order (tree_datoms (tree_in roots order)) (list_in live order)
mergeable roots live order is = subst (λ ds. IsMergeable order ds (list_in live order)) (list_in-trees_of roots order) is

-- the trees hold attributes of the value's older coverage alone
pub are_held : (k : SnapshotModel) (roots : Roots) → Stands k → RootStands (trees_of roots) k.entries k.covered → (order : Order)
    → AreHeld k.held order (tree_datoms (tree_in roots order))
are_held k roots stands trees order = λ i d within.
    let ds = tree_datoms (tree_in roots order) in
    let x = get_or ds i d in
    let there = subst (λ (l : List Datom). Contains l x) (sym (list_in-trees_of roots order)) (Contains-get_or ds i d within) in
    stands.held_is order x.a ∙ (((trees.trees order).members x).0 there).is_covered
