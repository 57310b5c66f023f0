-- The four segment trees of a database.
-- Restates Indexes of Datomic's documentation (the four indexes).
use Rattle.std.specs.Prelude.{ℕ, List}
use Rattle.fb_values.specs.declared.indexes.Order.{Order}
use Rattle.fb_values.specs.declared.indexes.Order.TheVariants.{Eavt, Aevt, Avet, Vaet}
use Rattle.fb_values.specs.Lists.{Lists}
use Rattle.seg_tree.specs.Nodes.{DirectoryNode, tree_datoms}
use Rattle.seg_tree.specs.Ids.{ids_of_four}
use Rattle.seg_tree.specs.declared.roots.Roots.{Roots}

abbrev pub tree_in : Roots → Order → List DirectoryNode
tree_in roots Eavt = roots.eavt
tree_in roots Aevt = roots.aevt
tree_in roots Avet = roots.avet
tree_in roots Vaet = roots.vaet

-- what the trees hold, read from left to right
abbrev pub trees_of : Roots → Lists
trees_of roots = record {
  eavt = tree_datoms roots.eavt;
  aevt = tree_datoms roots.aevt;
  avet = tree_datoms roots.avet;
  vaet = tree_datoms roots.vaet;
}

-- the ids of all nodes
abbrev pub root_ids : Roots → List ℕ
root_ids roots = ids_of_four roots.eavt roots.aevt roots.avet roots.vaet
