-- How many nodes trees have.
use Rattle.std.proofs.Common.{◌≡◌, ◌+◌, ◌<◌, ℕ, zero, suc, true, List, [], ◌∷◌, ◌++◌, length, map, drop, get_or, refl, sym, ap, ◌∙◌, arith}
use Rattle.std.proofs.Common.{length-append}
use Rattle.std.specs.Prelude.{filter, not}
use Rattle.std.proofs.lemmas.Bool.{true≢false, or_left, eq-eqb}
use Rattle.std.proofs.lemmas.List.{length-map}
use Rattle.log_model.specs.Nodes.{no_nodes, is_among}
use Rattle.seg_tree.specs.Nodes.{LeafNode, DirectoryNode, tree_leaves}
use Rattle.seg_tree.specs.Ids.{leaf_ids, node_ids}
use Rattle.seg_tree.specs.Indexes.{root_ids}
use Rattle.seg_tree.specs.declared.roots.Roots.{Roots}
use Rattle.seg_codec.specs.Trees.{directory_ids, leaves_of_four, directories_of_four, ids_lacking, AreIdsOf}
use Rattle.seg_codec.proofs.Over.{four_leaves, four_ids}

nodes-cons : (directory : DirectoryNode) (tree : List DirectoryNode)
    → length (node_ids (directory ∷ tree)) ≡ length directory.leaves + 1 + length (node_ids tree)
nodes-cons directory tree =
    omega (
      arith,
      length-append (leaf_ids directory.leaves ++ directory.id ∷ []) (node_ids tree),
      length-append (leaf_ids directory.leaves) (directory.id ∷ []),
      length-map directory.leaves (λ (leaf : LeafNode). leaf.id),
    )

leaves_and_directories : (tree : List DirectoryNode) → length (node_ids tree) ≡ length (tree_leaves tree) + length tree
leaves_and_directories [] = refl
leaves_and_directories (directory ∷ tree) =
    omega (arith, nodes-cons directory tree, length-append directory.leaves (tree_leaves tree), leaves_and_directories tree)

-- ---- counting

drop-item : {X : Type 0} (xs : List X) (i : ℕ) (x : X) → i < length xs → x ≡ get_or xs i x → drop i xs ≡ x ∷ drop (i + 1) xs
drop-item [] i x within is = absurd (omega (arith, within))
drop-item (y ∷ xs) zero x within is = ap (λ z. z ∷ xs) (sym is)
drop-item (y ∷ xs) (suc i) x within is =
    let one : suc i + 1 ≡ suc (i + 1) = omega arith in rw one (drop-item xs i x (omega (arith, within)) is)

-- the nodes of the directories from a place on
pub nodes_step : {X : Type 0} (held : X → DirectoryNode) (xs : List X) (i : ℕ) (x : X) → i < length xs → x ≡ get_or xs i x
    → length (node_ids (map held (drop i xs))) ≡ length (held x).leaves + 1 + length (node_ids (map held (drop (i + 1) xs)))
nodes_step held xs i x within is =
    ap (λ l. length (node_ids (map held l))) (drop-item xs i x within is) ∙ nodes-cons (held x) (map held (drop (i + 1) xs))

-- ---- a file with the nodes of four trees alone

all_kept : {A : Type 0} (xs : List A) → filter (λ x. true) xs ≡ xs
all_kept [] = refl
all_kept (x ∷ xs) = ap (λ l. x ∷ l) (all_kept xs)

pub all_lacking : (trees : Roots) → length (ids_lacking [] trees) ≡ length (root_ids trees)
all_lacking trees =
    let leaves : List LeafNode = filter (λ (leaf : LeafNode). not (is_among [] leaf.id)) (leaves_of_four trees) in
    let directories : List DirectoryNode = filter (λ (d : DirectoryNode). not (is_among [] d.id)) (directories_of_four trees) in
    let same_leaves : leaves ≡ leaves_of_four trees = all_kept (leaves_of_four trees) in
    let same_directories : directories ≡ directories_of_four trees = all_kept (directories_of_four trees) in
    omega (
      arith,
      length-append (leaf_ids leaves) (directory_ids directories),
      length-map leaves (λ (leaf : LeafNode). leaf.id),
      length-map directories (λ (d : DirectoryNode). d.id),
      ap length same_leaves,
      ap length same_directories,
      ap length (four_leaves trees),
      ap length (four_ids trees),
      leaves_and_directories (directories_of_four trees),
    )

-- ---- a file without a node

pub no_ids : (ids : List ℕ) → AreIdsOf ids no_nodes → ids ≡ []
no_ids [] are = refl
no_ids (id ∷ ids) are = absurd (true≢false (sym (or_left _ _ (eq-eqb id id refl)) ∙ are id))
