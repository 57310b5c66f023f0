-- The lists of an order, a tree's and the live ones, read as one: all datoms, or those that hold.
-- Restates Indexes of Datomic's documentation (the merging of recent datoms with older ones).
use Rattle.std.specs.Prelude.{Bool, true, List, filter, drop}
use Rattle.fb_values.specs.declared.facts.Datom.{Datom}
use Rattle.fb_values.specs.declared.indexes.Order.{Order}
use Rattle.fb_values.specs.Lists.{Lists, list_in}
use Rattle.fb_values.specs.Rising.{IsRising}
use Rattle.fb_model.specs.Facts.{standing}
use Rattle.live_index.specs.Halves.{IsPair, merged, outlives, withdrawn}
use Rattle.seg_tree.specs.Nodes.{DirectoryNode, tree_datoms}
use Rattle.seg_tree.specs.Ranks.{rank}
use Rattle.seg_tree.specs.declared.tree.Place.{Place}
use Rattle.fb_index.specs.declared.sides.Extent.{Extent}
use Rattle.fb_index.specs.declared.sides.Extent.TheVariants.{Said, Held}

-- what is read of a tree's datoms: all, or those whose triple has no later datom
abbrev pub older_read : Extent → Lists → List Datom → List Datom
older_read Said live older = older
older_read Held live older = filter (outlives (withdrawn live.eavt)) older

-- what is read of a live list
abbrev pub live_read : Extent → List Datom → List Datom
live_read Said ds = ds
live_read Held ds = standing ds

-- what is read of an order
abbrev pub whole : Extent → Order → List Datom → Lists → List Datom
whole extent order older live =
    merged order (older_read extent live older) (live_read extent (list_in live order))

-- a datom of the tree is read
abbrev pub is_read : Extent → Lists → Datom → Bool
is_read Said live d = true
is_read Held live d = outlives (withdrawn live.eavt) d

-- what is read of the tree from a place on
abbrev pub older_ahead : Extent → List DirectoryNode → Lists → Place → List Datom
older_ahead extent tree live place =
    older_read extent live (drop (rank tree place) (tree_datoms tree))

-- the lists can be read as one
pub record AreBeside (extent : Extent) (order : Order) (older : List Datom) (live : Lists)
    : Type 0 where
  pub rises : IsRising order older
  pub pair : IsPair order (older_read extent live older) (live_read extent (list_in live order))
