-- What holds of a leaf's datoms,
-- seen from each datom and its neighbour, and what becomes of the leaf.
-- This project's own choice.
use Rattle.std.specs.Prelude.{Bool, true, ◌&&◌, List, [], ◌∷◌, ◌++◌, Option, Some, if◌then◌else◌}
use Rattle.fb_values.specs.declared.facts.Datom.{Datom}
use Rattle.live_index.specs.Splits.{stands_at}
use Rattle.seg_tree.specs.Nodes.{LeafNode}
use Rattle.seg_tree.specs.Built.{Build}

-- the first of the datoms, or the one after them
abbrev pub first_or : List Datom → Option Datom → Option Datom
first_or [] next = next
first_or (d ∷ ds) next = Some d

-- what holds of the datoms, which the next one follows
abbrev pub facts_before : List Datom → Option Datom → List Datom
facts_before [] next = []
facts_before (d ∷ ds) next =
    if stands_at d (first_or ds next) then d ∷ facts_before ds next else facts_before ds next

-- whether all of them hold
abbrev pub all_stand : List Datom → Option Datom → Bool
all_stand [] next = true
all_stand (d ∷ ds) next = stands_at d (first_or ds next) && all_stand ds next

-- the tree in the making with what holds of a leaf; the leaf itself stays where all of it holds
abbrev pub with_leaf : Build → LeafNode → Option Datom → Build
with_leaf build leaf next = record build {
  datoms = build.datoms ++ facts_before leaf.datoms next;
  kept = if all_stand leaf.datoms next then build.kept ++ leaf ∷ [] else build.kept;
}
