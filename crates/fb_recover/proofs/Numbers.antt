-- No node of a file's trees has a greater number than the file's nodes.
use Rattle.std.proofs.Common.{◌≡◌, ◌∙◌, ◌≤◌, ◌<◌, ℕ, true, List, [], ◌∷◌, ◌++◌, map, arith}
use Rattle.std.specs.Prelude.{All, Contains}
use Rattle.std.proofs.lemmas.Bool.{or_left, or_right}
use Rattle.std.proofs.lemmas.List.Elements.{All-head, All-tail}
use Rattle.fb_values.specs.declared.indexes.Order.TheVariants.{Eavt, Aevt, Avet, Vaet}
use Rattle.log_model.specs.Nodes.{Leaf, Directory, Nodes, Roots as FileRoots, ids_in, is_among}
use Rattle.seg_tree.specs.Nodes.{LeafNode, DirectoryNode}
use Rattle.seg_tree.specs.Ids.{leaf_ids, directory_ids, node_ids, next_above}
use Rattle.seg_tree.specs.Indexes.{root_ids}
use Rattle.seg_tree.specs.declared.roots.Roots.{Roots}
use Rattle.seg_tree.proofs.Making.{next_above_append}
use Rattle.seg_codec.specs.Trees.{file_leaf, file_directory, Has, AreTreesOf, AreIdsOf}
use Rattle.seg_codec.proofs.Among.{among-append, mapped_among}
use Rattle.seg_store.proofs.Next.{among_below, some}

module _ (nodes : Nodes) (n : ℕ) (above : 1 ≤ n) (each : (id : ℕ) → is_among (ids_in nodes) id ≡ true → id < n) where
  leaf_below : (leaf : LeafNode) → Contains nodes.leaves (file_leaf leaf) → leaf.id < n
  leaf_below leaf there =
      each leaf.id
      (among-append (map (λ (l : Leaf). l.id) nodes.leaves) (map (λ (d : Directory). d.id) nodes.directories) leaf.id
      ∙ or_left _ _ (mapped_among (λ (l : Leaf). l.id) nodes.leaves (file_leaf leaf) there))

  directory_below : (directory : DirectoryNode) → Contains nodes.directories (file_directory directory) → directory.id < n
  directory_below directory there =
      each directory.id
      (among-append (map (λ (l : Leaf). l.id) nodes.leaves) (map (λ (d : Directory). d.id) nodes.directories) directory.id
      ∙ or_right _ _ (mapped_among (λ (d : Directory). d.id) nodes.directories (file_directory directory) there))

  leaves_below : (leaves : List LeafNode) → All (λ leaf. Contains nodes.leaves (file_leaf leaf)) leaves → next_above (leaf_ids leaves) ≤ n
  leaves_below [] there = above
  leaves_below (leaf ∷ leaves) there =
      omega (
        arith,
        leaf_below leaf (All-head (λ (l : LeafNode). Contains nodes.leaves (file_leaf l)) leaf leaves there),
        leaves_below leaves (All-tail (λ (l : LeafNode). Contains nodes.leaves (file_leaf l)) leaf leaves there),
      )

  one_below : (directory : DirectoryNode) → Has nodes directory → next_above (directory_ids directory) ≤ n
  one_below directory has =
      omega (
        arith,
        above,
        next_above_append (leaf_ids directory.leaves) (directory.id ∷ []),
        leaves_below directory.leaves has.leaves,
        directory_below directory has.itself,
      )

  tree_below : (tree : List DirectoryNode) → All (Has nodes) tree → next_above (node_ids tree) ≤ n
  tree_below [] there = above
  tree_below (directory ∷ tree) there =
      omega (
        arith,
        next_above_append (directory_ids directory) (node_ids tree),
        one_below directory (All-head (Has nodes) directory tree there),
        tree_below tree (All-tail (Has nodes) directory tree there),
      )

  trees_below : (ids : FileRoots) (trees : Roots) → AreTreesOf nodes ids trees → next_above (root_ids trees) ≤ n
  trees_below ids trees are =
      let two = node_ids trees.eavt ++ node_ids trees.aevt in
      let three = two ++ node_ids trees.avet in
      omega (
        arith,
        next_above_append (node_ids trees.eavt) (node_ids trees.aevt),
        next_above_append two (node_ids trees.avet),
        next_above_append three (node_ids trees.vaet),
        tree_below trees.eavt (are.there Eavt),
        tree_below trees.aevt (are.there Aevt),
        tree_below trees.avet (are.there Avet),
        tree_below trees.vaet (are.there Vaet),
      )

-- a store that knows the ids of the file's nodes gives new ones greater numbers
pub below_known : (known : List ℕ) (nodes : Nodes) (ids : FileRoots) (trees : Roots) → AreIdsOf known nodes → AreTreesOf nodes ids trees
    → next_above (root_ids trees) ≤ next_above known
below_known known nodes ids trees same are =
    trees_below nodes (next_above known) (some known) (λ id is. among_below known id (same id ∙ is)) ids trees are
