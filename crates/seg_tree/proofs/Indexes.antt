-- What the tree of an order holds.
use Rattle.std.proofs.Common.{◌≡◌, refl}
use Rattle.fb_values.specs.declared.indexes.Order.{Order}
use Rattle.fb_values.specs.declared.indexes.Order.TheVariants.{Eavt, Aevt, Avet, Vaet}
use Rattle.fb_values.specs.Lists.{list_in}
use Rattle.seg_tree.specs.Indexes.{tree_in, trees_of}
use Rattle.seg_tree.specs.Nodes.{tree_datoms}
use Rattle.seg_tree.specs.declared.roots.Roots.{Roots}

pub list_in-trees_of : (roots : Roots) (order : Order) → list_in (trees_of roots) order ≡ tree_datoms (tree_in roots order)
list_in-trees_of roots Eavt = refl
list_in-trees_of roots Aevt = refl
list_in-trees_of roots Avet = refl
list_in-trees_of roots Vaet = refl
