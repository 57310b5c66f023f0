-- What a database value at a point keeps, and when that stands for its history.
-- Restates Indexes of Datomic's documentation;
-- that there are live lists beside the trees is this project's own choice.
use Rattle.std.specs.Prelude.{◌≡◌, ℕ, List}
use Rattle.fb_values.specs.declared.facts.Datom.{Datom}
use Rattle.fb_values.specs.declared.facts.Entry.{Entry}
use Rattle.fb_covers.specs.Coverage.{Coverage}
use Rattle.fb_values.specs.declared.indexes.Order.{Order}
use Rattle.fb_values.specs.Lists.{Lists}
use Rattle.fb_model.specs.History.{basis, upto}
use Rattle.fb_model.specs.Facts.{facts, standing}
use Rattle.fb_model.specs.Schema.{schema_in}
use Rattle.fb_model.specs.Lawful.{IsLawful, IsLawfulAfter}
use Rattle.view_model.specs.Stands.{RootStands, SnapshotStands}
use Rattle.fb_schema.specs.Described.{SchemaStands}
use Rattle.live_index.specs.Standing.{IsCoverageOf}
use Rattle.seg_tree.specs.Indexes.{trees_of, tree_in}
use Rattle.seg_tree.specs.Nodes.{tree_datoms}
use Rattle.seg_tree.specs.declared.roots.Roots.{Roots}
use Rattle.fb_index.specs.declared.sides.Extent.{Extent}
use Rattle.fb_index.specs.declared.sides.Extent.TheVariants.{Said, Held}
use Rattle.fb_view.specs.declared.growth.Older.{Older}
use Rattle.fb_view.specs.declared.growth.Recent.{Recent}

-- a history with its schema, its live lists, and the trees of its entries up to one of them
pub record SnapshotModel : Type 0 where
  pub entries : List Entry
  -- the facts that name entities and describe attributes
  pub schema : List Datom
  pub live : Lists
  pub roots : Roots
  -- the trees of what holds by those
  pub now : Roots
  -- which attributes the trees hold
  pub held : Coverage
  -- the t of the last entry that the trees are of
  pub covered : ℕ

abbrev pub model_snapshot : List Entry → Recent → Older → SnapshotModel
model_snapshot h recent older = record {
  entries = h;
  schema = recent.schema;
  live = recent.live;
  roots = older.roots;
  now = older.facts;
  held = older.held;
  covered = older.covered;
}

-- the second trees have what holds by the first ones
abbrev pub AreFacts : Roots → Roots → Type 0
AreFacts all now =
    (order : Order) → tree_datoms (tree_in now order) ≡ standing (tree_datoms (tree_in all order))

-- the trees that are read
abbrev pub roots_read : Extent → SnapshotModel → Roots
roots_read Said k = k.roots
roots_read Held k = k.now

-- the parts stand for the entries
pub record Stands (k : SnapshotModel) : Type 0 where
  pub history : SnapshotStands k.entries (schema_in k.schema) (trees_of k.roots) k.live k.covered
      k.entries
  pub schema_is : SchemaStands k.schema k.entries
  pub held_is : IsCoverageOf k.held (facts (upto k.entries k.covered))
  pub now_is : AreFacts k.roots k.now

-- the trees are those of a whole history, with the coverage of its schema
pub record AreWhole (h : List Entry) (older : Older) : Type 0 where
  pub lawful : IsLawful h
  pub roots_stand : RootStands (trees_of older.roots) h older.covered
  pub covered_is : older.covered ≡ basis h
  pub held_is : IsCoverageOf older.held (facts h)
  pub now_is : AreFacts older.roots older.facts

-- the parts stand for the history, and the entry may follow it
pub record Follows (h : List Entry) (recent : Recent) (older : Older) (entry : Entry) : Type 0 where
  pub stands : Stands (model_snapshot h recent older)
  pub next : IsLawfulAfter h entry
