-- Lists of datoms beside an index of the first entries of a history.
-- This project's own choice.
use Rattle.std.specs.Prelude.{◌≡◌, ◌<◌, ℕ, Bool, true, List, length, slice_index, All, IsTrue}
use Rattle.std.specs.Prelude.{Option, Some, None}
use Rattle.std.specs.Ordering.{is_lt}
use Rattle.fb_values.specs.declared.facts.Datom.{Datom}
use Rattle.fb_values.specs.declared.facts.Entry.{Entry}
use Rattle.fb_values.specs.declared.indexes.Order.{Order}
use Rattle.fb_values.specs.Orders.{key_cmp}
use Rattle.fb_values.specs.Rising.{rises}
use Rattle.fb_covers.specs.Coverage.{Coverage, covers as held}
use Rattle.fb_model.specs.Rising.{IsRisingListOf}
use Rattle.fb_model.specs.History.{said, upto}
use Rattle.fb_model.specs.Facts.{facts}
use Rattle.fb_model.specs.Schema.{covers}
use Rattle.fb_model.specs.Lawful.{IsLawful}
use Rattle.view_model.specs.Stands.{IsIndexed}
use Rattle.seg_tree.specs.Indexes.{tree_in}
use Rattle.seg_tree.specs.Nodes.{tree_datoms}
use Rattle.seg_tree.specs.declared.roots.Roots.{Roots}
use Rattle.seg_agree.specs.declared.index.Index.{Index}

-- the list is the history's index of the order
abbrev pub IsIndexOf : List Entry → Order → List Datom → Type 0
IsIndexOf h order ds = IsRisingListOf order ds (IsIndexed h order)

-- the list rises, and the index has each of its datoms
pub record IsPartOf (h : List Entry) (order : Order) (ds : List Datom) : Type 0 where
  pub rising : IsTrue (rises order ds)
  pub indexed : All (IsIndexed h order) ds

-- the entries whose index it is
abbrev pub past : Index → List Entry
past index = upto index.entries.now index.c

-- the coverage holds in the order what the history's index holds
abbrev pub HoldsAsOf : Coverage → List Entry → Order → Type 0
HoldsAsOf coverage h order = (a : ℕ) → held coverage order a ≡ covers (facts h) order a

-- the list is an index of a lawful history,
-- up to one of its entries, with the coverage after that one
pub record IsOfHistory (index : Index) : Type 0 where
  pub lawful : IsLawful index.entries.now
  pub within : index.c < length index.entries.now
  pub covers : HoldsAsOf index.covers.now (past index) index.order

-- the datom's key is below that of the next one, if there is a next one
abbrev pub is_below_next : Order → Datom → Option Datom → Bool
is_below_next order d None = true
is_below_next order d (Some next) = is_lt (key_cmp order d next)

-- the tree of the order is the index of the entries up to c
abbrev pub TreeStands : Roots → List Entry → ℕ → Order → Type 0
TreeStands roots h c order = IsIndexOf (upto h c) order (tree_datoms (tree_in roots order))

-- how many datoms the entries up to each one have
pub record AreTotals (totals : List ℕ) (h : List Entry) : Type 0 where
  pub long : length totals ≡ length h
  pub each : (t : ℕ) → t < length h → slice_index totals t ≡ length (said (upto h t))
