-- Four trees are the indexes of the first entries of a history where each of them is.
use Rattle.std.proofs.Common.{◌<◌, ◌≤◌, ℕ, List, length, arith}
use Rattle.fb_values.specs.declared.facts.Entry.{Entry}
use Rattle.fb_values.specs.Lists.{list_in}
use Rattle.fb_values.specs.declared.indexes.Order.{Order}
use Rattle.fb_values.specs.declared.indexes.Order.TheVariants.{Eavt, Aevt, Avet, Vaet}
use Rattle.fb_model.specs.History.{upto}
use Rattle.fb_model.specs.Lawful.{IsLawful}
use Rattle.fb_model.proofs.LawfulHistories.{IsLawful-length}
use Rattle.view_model.specs.Stands.{RootStands}
use Rattle.seg_tree.specs.Indexes.{trees_of}
use Rattle.seg_tree.specs.declared.roots.Roots.{Roots}
use Rattle.seg_agree.specs.Indexes.{IsIndexOf, TreeStands}

pub four_trees : (h : List Entry) (c : ℕ) (roots : Roots) → IsLawful h → c < length h
    → TreeStands roots h c Eavt × TreeStands roots h c Aevt → TreeStands roots h c Avet × TreeStands roots h c Vaet
    → RootStands (trees_of roots) h c
four_trees h c roots lawful within by_entity by_value = record {
  bound = omega (arith, within, IsLawful-length h lawful);
  trees = each;
}
  where
    each : (order : Order) → IsIndexOf (upto h c) order (list_in (trees_of roots) order)
    each Eavt = by_entity.0
    each Aevt = by_entity.1
    each Avet = by_value.0
    each Vaet = by_value.1

pub by_entity_of : (h : List Entry) (c : ℕ) (roots : Roots) → RootStands (trees_of roots) h c
    → TreeStands roots h c Eavt × TreeStands roots h c Aevt
by_entity_of h c roots stands = (stands.trees Eavt, stands.trees Aevt)

pub by_value_of : (h : List Entry) (c : ℕ) (roots : Roots) → RootStands (trees_of roots) h c
    → TreeStands roots h c Avet × TreeStands roots h c Vaet
by_value_of h c roots stands = (stands.trees Avet, stands.trees Vaet)

-- no root goes farther than the history
pub goes_no_farther : (h : List Entry) (c : ℕ) (roots : Roots) → IsLawful h → length h ≤ c → RootStands (trees_of roots) h c → ⊥
goes_no_farther h c roots lawful far stands = omega (arith, stands.bound, far, IsLawful-length h lawful)
