-- What the merge of the four trees is to give.
-- Restates Indexes of Datomic's documentation (the merging of recent datoms);
-- ids and kept leaves are this project's own choice.
use Rattle.std.specs.Prelude.{◌<◌, ◌≤◌, ℕ, List, Contains}
use Rattle.std.specs.List.{All}
use Rattle.fb_values.specs.declared.facts.Datom.{Datom}
use Rattle.fb_values.specs.declared.indexes.Order.{Order}
use Rattle.fb_covers.specs.Coverage.{Coverage}
use Rattle.seg_tree.specs.Nodes.{LeafNode, DirectoryNode, tree_datoms, tree_leaves}
use Rattle.seg_merge.specs.Merged.{IsMerged, KeepsLeaves, due_of}
use Rattle.seg_merge.specs.Plans.{Planned, RepeatsNone}

-- the plan of one order's tree: its datoms are merged,
-- and it keeps older leaves, each once, all that no datom falls into among them
pub record IsPlan (order : Order) (coverage : Coverage) (c : ℕ) (tree : List DirectoryNode)
    (live : List Datom) (plan : Planned) : Type 0 where
  pub merged : IsMerged order coverage c (tree_datoms tree) live plan.datoms
  pub older : All (Contains (tree_leaves tree)) plan.kept
  pub once : RepeatsNone (tree_leaves tree) plan.kept
  pub stays : KeepsLeaves order coverage (tree_leaves tree) (due_of coverage c order live) plan.kept

-- a leaf with an older id is the older leaf
abbrev pub HasOlderLeaves : ℕ → List LeafNode → List LeafNode → Type 0
HasOlderLeaves first old new =
    (leaf : LeafNode) → Contains new leaf → leaf.id < first → Contains old leaf

-- no directory has an older id
abbrev pub HasNewDirectories : ℕ → List DirectoryNode → Type 0
HasNewDirectories first tree = All (λ directory. first ≤ directory.id) tree
