-- What new segment trees hold:
-- the datoms of the older trees and of the live index up to a transaction, and which leaves stay.
-- Restates Indexes of Datomic's documentation (the merging of recent datoms);
-- that leaves stay is this project's own choice.
use Rattle.std.specs.Prelude.{◌≡◌, ◌↔◌, ◌⊎◌, ◌+◌, ◌&&◌, ℕ, zero, suc, Bool, true, false, List, ◌++◌}
use Rattle.std.specs.Prelude.{Contains, IsTrue, IsFalse, Option, Some, nat_le, filter}
use Rattle.std.specs.List.{All, slice_get}
use Rattle.std.specs.Option.{option_map_or}
use Rattle.std.specs.Ordering.{is_lt}
use Rattle.fb_values.specs.declared.facts.Datom.{Datom}
use Rattle.fb_values.specs.declared.indexes.Order.{Order}
use Rattle.fb_values.specs.Orders.{key_cmp}
use Rattle.fb_covers.specs.Coverage.{Coverage}
use Rattle.fb_values.specs.Rising.{IsRising}
use Rattle.live_index.specs.Growth.{HasNoTwins, is_held}
use Rattle.seg_tree.specs.Nodes.{LeafNode}

-- a live datom that goes to the trees:
-- up to the transaction, and of an attribute that the order's index holds
abbrev pub is_due : Coverage → ℕ → Order → Datom → Bool
is_due coverage c order d = nat_le d.t c && is_held coverage order d

-- the strictly rising list of the older datoms of held attributes and of the live ones that are due
pub record IsMerged (order : Order) (coverage : Coverage) (c : ℕ) (old live new : List Datom)
    : Type 0 where
  pub rising : IsRising order new
  pub members : (d : Datom)
      → Contains new d
      ↔ ((Contains old d × IsTrue (is_held coverage order d))
      ⊎ (Contains live d × IsTrue (is_due coverage c order d)))

-- both lists rise, and datoms of one entity, attribute, value and t are one datom
pub record IsMergeable (order : Order) (old live : List Datom) : Type 0 where
  pub old_rises : IsRising order old
  pub live_rises : IsRising order live
  pub single : HasNoTwins (old ++ live)

-- the order's index holds the attribute of each of the datoms
abbrev pub AreHeld : Coverage → Order → List Datom → Type 0
AreHeld coverage order ds = All (λ d. IsTrue (is_held coverage order d)) ds

-- the datom goes before the first datom of the leaf, or there is no leaf
abbrev pub goes_before_leaf : Order → Option LeafNode → Datom → Bool
goes_before_leaf order leaf d =
    option_map_or
    (λ l. option_map_or (λ first. is_lt (key_cmp order d first)) (slice_get l.datoms 0) false)
    leaf
    true

abbrev pub goes_before : Order → List LeafNode → ℕ → Datom → Bool
goes_before order leaves n d = goes_before_leaf order (slice_get leaves n) d

-- a leaf's range goes up to the next leaf's first datom, and the first leaf's begins at the start
abbrev pub FallsInto : Order → List LeafNode → ℕ → Datom → Type 0
FallsInto order leaves zero d = IsTrue (goes_before order leaves 1 d)
FallsInto order leaves (suc n) d =
    IsFalse (goes_before order leaves (suc n) d) × IsTrue (goes_before order leaves (n + 2) d)

-- the leaves into whose range none of the datoms falls,
-- and whose own datoms are of held attributes, stay under their ids
abbrev pub KeepsLeaves : Order → Coverage → List LeafNode → List Datom → List LeafNode → Type 0
KeepsLeaves order coverage old added new =
    (n : ℕ) (leaf : LeafNode) → slice_get old n ≡ Some leaf
    → ((d : Datom) → Contains added d → FallsInto order old n d → ⊥)
    → All (λ d. IsTrue (is_held coverage order d)) leaf.datoms
    → Contains new leaf

abbrev pub due_of : Coverage → ℕ → Order → List Datom → List Datom
due_of coverage c order live = filter (is_due coverage c order) live
