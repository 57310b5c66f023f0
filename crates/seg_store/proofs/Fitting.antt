-- Trees that fit the nodes of a file.
use Rattle.std.proofs.Common.{◌≤◌, ◌<◌, ℕ, List, [], ◌∷◌, ◌++◌, arith}
use Rattle.std.specs.Prelude.{Contains, All}
use Rattle.std.proofs.lemmas.List.Elements.{All-nil, All-append, All-head, All-tail, All-weaker, All-contains}
use Rattle.fb_values.specs.declared.indexes.Order.{Order}
use Rattle.fb_values.specs.declared.indexes.Order.TheVariants.{Eavt, Aevt, Avet, Vaet}
use Rattle.log_model.specs.Nodes.{Nodes, Roots as FileRoots, no_nodes, ids_in}
use Rattle.seg_tree.specs.Nodes.{LeafNode, DirectoryNode, tree_leaves}
use Rattle.seg_tree.specs.Ids.{next_above}
use Rattle.seg_tree.specs.Indexes.{tree_in}
use Rattle.seg_tree.specs.declared.roots.Roots.{Roots}
use Rattle.seg_codec.specs.Trees.{file_leaf, file_directory, Has, AreTreesOf, Fits, leaves_of_four, directories_of_four}
use Rattle.seg_codec.proofs.Among.{All-made, no_member, among, first_of_four, second_of_four, third_of_four, fourth_of_four}
use Rattle.seg_store.proofs.Next.{among_below}

-- four lists end to end
pub all_four : {A : Type 0} (P : A → Type 0) (xs ys zs ws : List A) → All P xs → All P ys → All P zs → All P ws
    → All P (xs ++ ys ++ zs ++ ws)
all_four P xs ys zs ws x y z w = All-append P (xs ++ ys ++ zs) ws (All-append P (xs ++ ys) zs (All-append P xs ys x y) z) w

abbrev Is_there : Nodes → LeafNode → Type 0
Is_there nodes leaf = Contains nodes.leaves (file_leaf leaf)

leaves_there : (nodes : Nodes) (tree : List DirectoryNode) → All (Has nodes) tree
    → All (Is_there nodes) (tree_leaves tree)
leaves_there nodes [] has = All-nil (Is_there nodes)
leaves_there nodes (d ∷ tree) has =
    All-append (Is_there nodes) d.leaves (tree_leaves tree) (All-head (Has nodes) d tree has).leaves
    (leaves_there nodes tree (All-tail (Has nodes) d tree has))

-- trees of the file
pub fits_there : (nodes : Nodes) (ids : FileRoots) (trees : Roots) → AreTreesOf nodes ids trees → Fits nodes trees
fits_there nodes ids trees are = record {
  leaves =
      All-weaker (Is_there nodes) (λ leaf. Contains (ids_in nodes) leaf.id → Contains nodes.leaves (file_leaf leaf))
      (λ leaf there known. there)
      (leaves_of_four trees)
      (all_four (Is_there nodes) (tree_leaves trees.eavt) (tree_leaves trees.aevt) (tree_leaves trees.avet) (tree_leaves trees.vaet)
      (leaves_there nodes trees.eavt (are.there Eavt)) (leaves_there nodes trees.aevt (are.there Aevt))
      (leaves_there nodes trees.avet (are.there Avet)) (leaves_there nodes trees.vaet (are.there Vaet)));
  directories = All-weaker (Has nodes) (λ d. Contains (ids_in nodes) d.id → Contains nodes.directories (file_directory d))
      (λ d has known. has.itself) (directories_of_four trees)
      (all_four (Has nodes) trees.eavt trees.aevt trees.avet trees.vaet (are.there Eavt) (are.there Aevt) (are.there Avet)
      (are.there Vaet));
}

-- a file without nodes
pub fits_none : (trees : Roots) → Fits no_nodes trees
fits_none trees = record {
  leaves = All-made (λ leaf. Contains (ids_in no_nodes) leaf.id → Contains no_nodes.leaves (file_leaf leaf)) (leaves_of_four trees)
      (λ leaf member known. absurd (no_member leaf.id known));
  directories = All-made (λ d. Contains (ids_in no_nodes) d.id → Contains no_nodes.directories (file_directory d))
      (directories_of_four trees) (λ d member known. absurd (no_member d.id known));
}

-- trees that were made of fitting ones: their older leaves are leaves of these, and all other nodes have ids that are new to the file
module _ (nodes : Nodes) (first : ℕ) (old new : Roots) (above : next_above (ids_in nodes) ≤ first) (fits : Fits nodes old)
    (shares : (order : Order) (leaf : LeafNode) → Contains (tree_leaves (tree_in new order)) leaf → leaf.id < first
    → Contains (tree_leaves (tree_in old order)) leaf)
    (later : (order : Order) → All (λ d. first ≤ d.id) (tree_in new order)) where
  abbrev Leaf_fits : LeafNode → Type 0
  Leaf_fits leaf = Contains (ids_in nodes) leaf.id → Contains nodes.leaves (file_leaf leaf)

  abbrev Directory_fits : DirectoryNode → Type 0
  Directory_fits d = Contains (ids_in nodes) d.id → Contains nodes.directories (file_directory d)

  known_below : (id : ℕ) → Contains (ids_in nodes) id → id < first
  known_below id known = omega (arith, above, among_below (ids_in nodes) id (among (ids_in nodes) id known))

  of_old : (order : Order) (leaf : LeafNode) → Contains (tree_leaves (tree_in old order)) leaf → Contains (leaves_of_four old) leaf
  of_old Eavt leaf = first_of_four (tree_leaves old.eavt) (tree_leaves old.aevt) (tree_leaves old.avet) (tree_leaves old.vaet) leaf
  of_old Aevt leaf = second_of_four (tree_leaves old.eavt) (tree_leaves old.aevt) (tree_leaves old.avet) (tree_leaves old.vaet) leaf
  of_old Avet leaf = third_of_four (tree_leaves old.eavt) (tree_leaves old.aevt) (tree_leaves old.avet) (tree_leaves old.vaet) leaf
  of_old Vaet leaf = fourth_of_four (tree_leaves old.eavt) (tree_leaves old.aevt) (tree_leaves old.avet) (tree_leaves old.vaet) leaf

  leaves_fit : (order : Order) → All Leaf_fits (tree_leaves (tree_in new order))
  leaves_fit order = All-made Leaf_fits (tree_leaves (tree_in new order)) (λ leaf member known.
      All-contains Leaf_fits (leaves_of_four old) leaf fits.leaves
      (of_old order leaf (shares order leaf member (known_below leaf.id known))) known)

  directories_fit : (order : Order) → All Directory_fits (tree_in new order)
  directories_fit order = All-weaker (λ d. first ≤ d.id) Directory_fits
      (λ d behind known. absurd (omega (arith, behind, known_below d.id known))) (tree_in new order) (later order)

  pub fits_made : Fits nodes new
  fits_made = record {
    leaves = all_four Leaf_fits (tree_leaves new.eavt) (tree_leaves new.aevt) (tree_leaves new.avet) (tree_leaves new.vaet)
        (leaves_fit Eavt) (leaves_fit Aevt) (leaves_fit Avet) (leaves_fit Vaet);
    directories = all_four Directory_fits new.eavt new.aevt new.avet new.vaet
        (directories_fit Eavt) (directories_fit Aevt) (directories_fit Avet) (directories_fit Vaet);
  }
