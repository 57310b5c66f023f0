-- Which place of a segment tree's list a place in the tree is.
-- This project's own choice.
use Rattle.std.specs.Prelude.{◌<◌, ◌^◌, ℕ, List, length, map}
use Rattle.std.specs.List.{All, slice_get}
use Rattle.std.specs.Option.{option_map_or}
use Rattle.seg_tree.specs.Chunks.{chunk_rank}
use Rattle.seg_tree.specs.Nodes.{LeafNode, DirectoryNode, leaf_datoms}
use Rattle.seg_tree.specs.declared.tree.Place.{Place}

-- how many datoms of the leaves come before a leaf's datom
abbrev pub leaf_rank : List LeafNode → ℕ → ℕ → ℕ
leaf_rank leaves leaf datom = chunk_rank (map (λ l. l.datoms) leaves) leaf datom

-- a leaf that there is has the datom
abbrev pub IsInside : List LeafNode → ℕ → ℕ → Type 0
IsInside leaves leaf datom =
    leaf < length leaves → leaf_rank leaves leaf datom < length (leaf_datoms leaves)

-- how many datoms of the tree come before a place. The end is every place that the tree has not.
abbrev pub rank : List DirectoryNode → Place → ℕ
rank tree place =
    chunk_rank (map (λ d. leaf_datoms d.leaves) tree) place.directory
    (option_map_or (λ d. leaf_rank d.leaves place.leaf place.datom) (slice_get tree place.directory)
    0)

-- the numbers of directories,
-- of a directory's leaves and of a leaf's datoms have at most so many binary digits
pub record AreWithin (tree : List DirectoryNode) (d l k : ℕ) : Type 0 where
  pub directories : length tree < 2 ^ d
  pub leaves : All (λ directory. length directory.leaves < 2 ^ l) tree
  pub datoms : All (λ directory. All (λ leaf. length leaf.datoms < 2 ^ k) directory.leaves) tree
