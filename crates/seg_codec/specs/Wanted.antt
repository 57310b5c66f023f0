-- What is held of a file's nodes where not all leaves are wanted.
-- This project's own choice.
use Rattle.std.specs.Prelude.{ℕ, Bool, true, map, take, if◌then◌else◌}
use Rattle.std.specs.List.{list_all}
use Rattle.log_model.specs.Nodes.{Leaf, Nodes, MergeRecord, is_among, with_leaf}
use Rattle.seg_tree.specs.declared.roots.Roots.{Roots as SegRoots}
use Rattle.seg_codec.specs.Trees.{leaves_of_four}
use Rattle.seg_codec.specs.declared.wanted.Wanted.{Wanted}
use Rattle.seg_codec.specs.declared.wanted.Wanted.TheVariants.{Every, Only}

abbrev pub is_wanted : Wanted → ℕ → Bool
is_wanted Every id = true
is_wanted (Only ids) id = is_among ids id

-- a leaf as it is held: where it is not wanted, its first datom alone
abbrev pub held_leaf : Wanted → Leaf → Leaf
held_leaf wanted leaf =
    if is_wanted wanted leaf.id
    then leaf
    else record { id = leaf.id; datoms = take 1 leaf.datoms }

abbrev pub with_held : Wanted → Nodes → Leaf → Nodes
with_held wanted nodes leaf = with_leaf nodes (held_leaf wanted leaf)

abbrev pub held_nodes : Wanted → Nodes → Nodes
held_nodes wanted nodes =
    record { leaves = map (held_leaf wanted) nodes.leaves; directories = nodes.directories }

abbrev pub held_merge : Wanted → MergeRecord → MergeRecord
held_merge wanted merge =
    record {
      c = merge.c;
      leaves = map (held_leaf wanted) merge.leaves;
      directories = merge.directories;
      roots = merge.roots;
    }

-- each leaf of the trees is wanted
abbrev pub are_wanted : Wanted → SegRoots → Bool
are_wanted wanted trees = list_all (λ leaf. is_wanted wanted leaf.id) (leaves_of_four trees)
