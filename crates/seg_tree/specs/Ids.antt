-- The ids of a segment tree's nodes, and the ids that new nodes get.
-- This project's own choice.
use Rattle.std.specs.Prelude.{◌≡◌, ◌≤◌, ◌+◌, ◌-◌, ◌==◌, ℕ, Bool, List, [], ◌∷◌, ◌++◌, length, map}
use Rattle.std.specs.Prelude.{filter, max, nat_lt, nat_le}
use Rattle.std.specs.List.{range_with_len}
use Rattle.seg_tree.specs.Nodes.{LeafNode, DirectoryNode}

abbrev pub leaf_ids : List LeafNode → List ℕ
leaf_ids leaves = map (λ leaf. leaf.id) leaves

-- the ids of a directory's leaves, and its own after them
abbrev pub directory_ids : DirectoryNode → List ℕ
directory_ids directory = leaf_ids directory.leaves ++ directory.id ∷ []

abbrev pub node_ids : List DirectoryNode → List ℕ
node_ids [] = []
node_ids (directory ∷ directories) = directory_ids directory ++ node_ids directories

-- the least number, from 1 on, that is above all of them
abbrev pub next_above : List ℕ → ℕ
next_above [] = 1
next_above (id ∷ ids) = max (id + 1) (next_above ids)

-- the ids of four trees
abbrev pub ids_of_four : List DirectoryNode → List DirectoryNode → List DirectoryNode
    → List DirectoryNode → List ℕ
ids_of_four eavt aevt avet vaet =
    ((node_ids eavt ++ node_ids aevt) ++ node_ids avet) ++ node_ids vaet

-- how often an id is among them
abbrev pub count_of : ℕ → List ℕ → ℕ
count_of id ids = length (filter (λ x. x == id) ids)

-- no id is there twice
abbrev pub AreDistinct : List ℕ → Type 0
AreDistinct ids = (id : ℕ) → count_of id ids ≤ 1

-- an id from the first new one on, and an older one
abbrev pub is_new : ℕ → ℕ → Bool
is_new first id = nat_le first id

abbrev pub is_old : ℕ → ℕ → Bool
is_old first id = nat_lt id first

-- the new ids are the numbers from the first one up to the next, in this order, none left out
abbrev pub AreNumbered : ℕ → ℕ → List ℕ → Type 0
AreNumbered first next ids = filter (is_new first) ids ≡ range_with_len first (next - first)

-- the same, where what follows them is not said
abbrev pub IsInRow : ℕ → List ℕ → Type 0
IsInRow first ids =
    filter (is_new first) ids ≡ range_with_len first (length (filter (is_new first) ids))

-- the leaves that were taken over from an older tree
abbrev pub old_leaves : ℕ → List LeafNode → List LeafNode
old_leaves first leaves = filter (λ leaf. is_old first leaf.id) leaves
