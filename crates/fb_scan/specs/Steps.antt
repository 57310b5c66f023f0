-- A scan of an index: what it reads, which of that it gives, and how far it has come.
-- This project's own choice.
use Rattle.std.specs.Prelude.{◌≡◌, ◌⊎◌, ◌↔◌, ℕ, Bool, List, ◌++◌, Contains, IsTrue, IsFalse, take, Option}
use Rattle.std.specs.Prelude.{Some, None}
use Rattle.fb_values.specs.declared.facts.Datom.{Datom}
use Rattle.fb_values.specs.declared.facts.Entry.{Entry}
use Rattle.fb_values.specs.declared.indexes.Order.{Order}
use Rattle.fb_values.specs.declared.indexes.Probe.{Probe}
use Rattle.fb_model.specs.Facts.{facts}
use Rattle.fb_model.specs.Schema.{covers}
use Rattle.fb_values.specs.Rising.{IsRising}
use Rattle.view_model.specs.Window.{Window}
use Rattle.view_model.specs.View.{InView}
use Rattle.seg_tree.specs.Nodes.{tree_datoms}
use Rattle.seg_tree.specs.Indexes.{tree_in}
use Rattle.fb_index.specs.declared.sides.Extent.{Extent}
use Rattle.fb_index.specs.declared.sides.Extent.TheVariants.{Said, Held}
use Rattle.fb_index.specs.declared.sides.Sides.{Sides}
use Rattle.fb_index.specs.Ranges.{from_probe, within}
use Rattle.fb_index.specs.Sides.{whole, AreBeside}
use Rattle.fb_view.specs.SnapshotModel.{SnapshotModel, Stands, roots_read}
use Rattle.fb_scan.specs.declared.ends.End.{End}
use Rattle.fb_scan.specs.declared.ends.End.TheVariants.{Never, Behind, Before}
use Rattle.fb_db.specs.declared.db.Db.{Db}
use Rattle.fb_db.specs.Seen.{window_of}
use Rattle.fb_scan.specs.declared.walk.Scan.{Scan}
use Rattle.fb_scan.specs.Ends.{is_past, is_met, IsIn, IsWalk}
use Rattle.fb_scan.specs.Knowing.{known_at}
use Rattle.fb_scan.specs.Walks.{extent_of, shown}

-- the lists can be read as one
abbrev pub CanBeRead : Sides → Type 0
CanBeRead sides =
    AreBeside sides.extent sides.order (tree_datoms sides.tree.now) sides.live.now

-- the lists are those of the order, as far as a walk under the window reads them
pub record AreRead (k : SnapshotModel) (w : Window) (order : Order) (sides : Sides) : Type 0 where
  pub extent_is : sides.extent ≡ extent_of k.entries w
  pub order_is : sides.order ≡ order
  pub tree_is : sides.tree.now ≡ tree_in (roots_read sides.extent k) order
  pub live_is : sides.live.now ≡ k.live
  pub beside : CanBeRead sides
  pub stands : Stands k

-- the probe up to which a walk reads:
-- of what holds, no datom has to be known that lies beyond the end
abbrev pub last_read : Extent → End → Option Probe
last_read Said end = None
last_read Held Never = None
last_read Held (Behind probe) = Some probe.now
last_read Held (Before probe) = Some probe.now

-- what a walk reads: the datoms of an index that are not below the probe
abbrev pub path : Sides → End → Probe → List Datom
path sides end from =
    within (last_read sides.extent end)
    (from_probe from
    (whole sides.extent sides.order (tree_datoms sides.tree.now) sides.live.now))

-- a walk over the list gives the datom:
-- it is shown, the index holds it, it does not lie beyond the end, and it is selected
pub record IsGiven (h : List Entry) (w : Window) (Selects : Datom → Type 0) (extent : Extent)
    (order : Order) (end : End) (ds : List Datom) (d : Datom) : Type 0 where
  pub is_seen : Contains (shown extent w ds) d
  pub is_held : IsTrue (covers (facts h) order d.a)
  pub is_before : IsFalse (is_past end d)
  pub is_selected : Selects d

-- the datoms found, and those that are given of the list after them,
-- are those of the view that lie from the probe on and before the end
pub record IsGoing (h : List Entry) (w : Window) (Selects : Datom → Type 0) (from : Probe)
    (end : End) (extent : Extent) (found rest : List Datom) : Type 0 where
  pub rising : IsRising from.order (found ++ rest)
  pub same : (d : Datom)
      → (Contains found d ⊎ IsGiven h w Selects extent from.order end rest d)
      ↔ (InView h w Selects d × IsTrue (is_met (facts h) from end d))

-- the database value, where its window shows history or none
abbrev pub showing : {S : Type 0} → Bool → Db S → Db S
showing history db = record db { history = history }

-- the scan knows whether the index holds the attribute at which it ends
abbrev pub KnowsEnd : {S : Type 0} → Scan S → Type 0
KnowsEnd scan = scan.known ≡ known_at scan.db.now.snapshot.entries scan.order scan.end

-- a scan of the database value from the probe to the end has given the datoms,
-- and gives the rest of them
pub record HasGiven {S : Type 0} (db : Db S) (Selects : Datom → Type 0) (from : Probe)
    (end : End) (scan : Scan S) (found : List Datom) : Type 0 where
  pub db_is : showing scan.history scan.db.now ≡ db
  pub order_is : scan.order ≡ from.order
  pub end_is : scan.end ≡ end
  pub inside : IsIn from.order end
  pub knows : KnowsEnd scan
  pub going : IsGoing db.snapshot.entries (window_of db) Selects from end scan.extent found
      scan.walk

-- a walk that ends with its range, or before, with so many datoms
abbrev pub IsWalkUpto : Option ℕ → List Entry → Window → (Datom → Type 0) → Probe → End
    → List Datom → Type 0
IsWalkUpto None h w Selects from end ds = IsWalk h w Selects from end ds
IsWalkUpto (Some most) h w Selects from end ds =
    (all : List Datom) → IsWalk h w Selects from end all → ds ≡ take most all
