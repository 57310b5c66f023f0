-- What a tree is to be made of, from left to right: leaves that stay, and datoms for new leaves.
-- This project's own choice.
use Rattle.std.specs.Prelude.{◌≡◌, ◌≤◌, ◌↔◌, ◌⊎◌, ℕ, List, [], ◌∷◌, ◌++◌, Contains, IsTrue}
use Rattle.std.specs.Prelude.{if◌then◌else◌}
use Rattle.std.specs.List.{All}
use Rattle.std.specs.Ordering.{is_eq}
use Rattle.fb_values.specs.declared.facts.Datom.{Datom}
use Rattle.fb_values.specs.declared.indexes.Order.{Order}
use Rattle.fb_values.specs.Orders.{key_cmp}
use Rattle.fb_covers.specs.Coverage.{Coverage}
use Rattle.fb_values.specs.Rising.{IsRising}
use Rattle.live_index.specs.Growth.{is_held}
use Rattle.seg_tree.specs.Nodes.{LeafNode}
use Rattle.seg_tree.specs.Ids.{leaf_ids, count_of}

-- the datoms, and the older leaves that have some of them
pub record Planned : Type 0 where
  pub datoms : List Datom
  pub kept : List LeafNode

-- no id is more often among the kept leaves than among the older ones
abbrev pub RepeatsNone : List LeafNode → List LeafNode → Type 0
RepeatsNone old kept = (id : ℕ) → count_of id (leaf_ids kept) ≤ count_of id (leaf_ids old)

-- the strictly rising list of the held ones of the older datoms, and of the added ones
pub record IsUnion (order : Order) (coverage : Coverage) (old added new : List Datom) : Type 0 where
  pub rising : IsRising order new
  pub members : (d : Datom)
      → Contains new d ↔ ((Contains old d × IsTrue (is_held coverage order d)) ⊎ Contains added d)

-- the plan goes on with an older leaf and what falls into its range;
-- the leaf stays where nothing does and it is held whole
pub record AddsLeaf (order : Order) (coverage : Coverage) (leaf : LeafNode) (added : List Datom)
    (old new : Planned) : Type 0 where
  pub piece : List Datom
  pub datoms : new.datoms ≡ old.datoms ++ piece
  pub union : IsUnion order coverage leaf.datoms added piece
  pub kept : (new.kept ≡ old.kept) ⊎ (new.kept ≡ old.kept ++ leaf ∷ [])
  pub stays : added ≡ [] → All (λ d. IsTrue (is_held coverage order d)) leaf.datoms
      → new.kept ≡ old.kept ++ leaf ∷ []

-- the datoms after one that has this key
abbrev pub without_twin : Order → Datom → List Datom → List Datom
without_twin order d [] = []
without_twin order d (first ∷ rest) = if is_eq (key_cmp order first d) then rest else first ∷ rest
