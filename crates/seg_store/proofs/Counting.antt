-- Trees whose nodes were counted have a record.
use Rattle.std.proofs.Common.{◌≡◌, ◌≤◌, ◌<◌, ◌+◌, ◌^◌, ℕ, List, [], ◌∷◌, ◌++◌, length, subst, arith, length-append}
use Rattle.std.specs.Prelude.{All, IsTrue, max}
use Rattle.std.proofs.lemmas.List.Elements.{All-nil, All-cons, All-contains}
use Rattle.log_model.specs.Payload.{written_format}
use Rattle.log_model.specs.Merges.{is_storable_dated}
use Rattle.seg_tree.specs.Nodes.{LeafNode, DirectoryNode, tree_leaves}
use Rattle.seg_tree.specs.Ids.{leaf_ids, directory_ids, node_ids, next_above}
use Rattle.seg_tree.specs.Indexes.{root_ids}
use Rattle.seg_tree.specs.declared.roots.Roots.{Roots}
use Rattle.seg_tree.proofs.Making.{next_above_append}
use Rattle.seg_codec.specs.Trees.{leaves_of_four, directories_of_four, AreWritable}
use Rattle.seg_codec.proofs.Among.{All-made}
use Rattle.seg_codec.proofs.Over.{four_ids}
use Rattle.seg_store.specs.declared.counts.Counts.{Counts}
use Rattle.seg_store.specs.Trees.{HaveStorableDatoms}
use Rattle.seg_store.specs.Counts.{IsSmallLeaf, HasFewLeaves, IsCounted}
use Rattle.seg_store.proofs.Fitting.{all_four}

small_ids : (ds : List DirectoryNode) (most : ℕ) → next_above (node_ids ds) ≤ most → All (λ d. d.id < most) ds
small_ids [] most below = All-nil (λ d. d.id < most)
small_ids (d ∷ ds) most below =
    let whole : next_above (directory_ids d ++ node_ids ds) ≡ max (next_above (directory_ids d)) (next_above (node_ids ds)) =
    next_above_append (directory_ids d) (node_ids ds) in
    let first : next_above (directory_ids d) ≡ max (next_above (leaf_ids d.leaves)) (next_above (d.id ∷ [])) =
    next_above_append (leaf_ids d.leaves) (d.id ∷ []) in
    All-cons (λ d. d.id < most) d ds (omega (arith, below, whole, first)) (small_ids ds most (omega (arith, below, whole)))

module _ (trees : Roots) (eavt aevt avet vaet : Counts) (e : IsCounted trees.eavt eavt) (a : IsCounted trees.aevt aevt)
    (v : IsCounted trees.avet avet) (r : IsCounted trees.vaet vaet) where
  small_leaves : All IsSmallLeaf (leaves_of_four trees)
  small_leaves = all_four IsSmallLeaf (tree_leaves trees.eavt) (tree_leaves trees.aevt) (tree_leaves trees.avet) (tree_leaves trees.vaet)
      e.small_leaves a.small_leaves v.small_leaves r.small_leaves

  few_leaves : All HasFewLeaves (directories_of_four trees)
  few_leaves = all_four HasFewLeaves trees.eavt trees.aevt trees.avet trees.vaet
      e.small_directories a.small_directories v.small_directories r.small_directories

  ids_are_small : next_above (root_ids trees) ≤ 2 ^ 62 → All (λ d. d.id < 2 ^ 62) (directories_of_four trees)
  ids_are_small below = small_ids (directories_of_four trees) (2 ^ 62) (subst (λ l. next_above l ≤ 2 ^ 62) (four_ids trees) below)

  pub counted_writable : next_above (root_ids trees) ≤ 2 ^ 62 → HaveStorableDatoms trees
      → eavt.leaves + aevt.leaves + avet.leaves + vaet.leaves < 2 ^ 32
      → eavt.directories + aevt.directories + avet.directories + vaet.directories < 2 ^ 32 → AreWritable trees
  counted_writable below storable leaves directories = record {
    leaves = All-made
        (λ leaf. (leaf.id < 2 ^ 62) × (0 < length leaf.datoms) × (length leaf.datoms < 513)
        × All (λ d. IsTrue (is_storable_dated written_format d)) leaf.datoms)
        (leaves_of_four trees)
        (λ leaf member.
        let small = All-contains IsSmallLeaf (leaves_of_four trees) leaf small_leaves member in (
          small.0,
          small.1,
          small.2,
          All-contains (λ (l : LeafNode). All (λ d. IsTrue (is_storable_dated written_format d)) l.datoms)
              (leaves_of_four trees) leaf storable
              member,
        ));
    directories = All-made (λ d. (d.id < 2 ^ 62) × (0 < length d.leaves) × (length d.leaves < 513)) (directories_of_four trees)
        (λ d member.
        let few = All-contains HasFewLeaves (directories_of_four trees) d few_leaves member in
        (All-contains (λ (x : DirectoryNode). x.id < 2 ^ 62) (directories_of_four trees) d (ids_are_small below) member, few.0, few.1));
    leaves_few = omega (
      arith,
      leaves,
      e.leaves,
      a.leaves,
      v.leaves,
      r.leaves,
      length-append (tree_leaves trees.eavt) (tree_leaves trees.aevt),
      length-append (tree_leaves trees.eavt ++ tree_leaves trees.aevt) (tree_leaves trees.avet),
      length-append (tree_leaves trees.eavt ++ tree_leaves trees.aevt ++ tree_leaves trees.avet) (tree_leaves trees.vaet),
    );
    directories_few = omega (
      arith,
      directories,
      e.directories,
      a.directories,
      v.directories,
      r.directories,
      length-append trees.eavt trees.aevt,
      length-append (trees.eavt ++ trees.aevt) trees.avet,
      length-append (trees.eavt ++ trees.aevt ++ trees.avet) trees.vaet,
    );
  }
