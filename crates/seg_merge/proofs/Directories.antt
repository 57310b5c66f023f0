-- The directories of a tree that was built are new.
use Rattle.std.proofs.Common.{◌≡◌, ◌∙◌, ℕ, suc, ◌+◌, ◌≤◌, List, [], ◌∷◌, ◌++◌, length, refl, ap, inl, inr, arith, length-append}
use Rattle.std.specs.Prelude.{filter}
use Rattle.std.proofs.lemmas.Bool.{cases_lt, lt-ltb, le-ltb}
use Rattle.std.proofs.lemmas.List.{length-map}
use Rattle.std.proofs.lemmas.List.Elements.{All-cons, All-weaker, filter-append}
use Rattle.seg_tree.specs.Nodes.{LeafNode, DirectoryNode, tree_leaves}
use Rattle.seg_tree.specs.Ids.{leaf_ids, directory_ids, node_ids, is_old, old_leaves}
use Rattle.seg_tree.specs.Built.{Build, IsBuilt}
use Rattle.seg_merge.specs.Merges.{HasNewDirectories}

abbrev old_directories : ℕ → List DirectoryNode → List DirectoryNode
old_directories first tree = filter (λ (d : DirectoryNode). is_old first d.id) tree

old_ids_of_leaves : (first : ℕ) (leaves : List LeafNode)
    → length (filter (is_old first) (leaf_ids leaves)) ≡ length (old_leaves first leaves)
old_ids_of_leaves first [] = refl
old_ids_of_leaves first (leaf ∷ leaves) =
    elim (cases_lt leaf.id first) [
      | inl below ↦ rw (lt-ltb leaf.id first below) (ap suc (old_ids_of_leaves first leaves))
      | inr up ↦ rw (le-ltb leaf.id first up) (old_ids_of_leaves first leaves)
    ]

with_one : (first : ℕ) (d : DirectoryNode) (tree : List DirectoryNode)
    → length (old_directories first (d ∷ tree)) ≡ length (filter (is_old first) (d.id ∷ [])) + length (old_directories first tree)
with_one first d tree =
    elim (cases_lt d.id first) [
      | inl below ↦ rw (lt-ltb d.id first below) (omega arith)
      | inr up ↦ rw (le-ltb d.id first up) (omega arith)
    ]

count-append : (first : ℕ) (xs ys : List ℕ)
    → length (filter (is_old first) (xs ++ ys)) ≡ length (filter (is_old first) xs) + length (filter (is_old first) ys)
count-append first xs ys =
    ap length (filter-append (is_old first) xs ys) ∙ length-append (filter (is_old first) xs) (filter (is_old first) ys)

-- an older id is one of a leaf or of a directory
old_ids_of_nodes : (first : ℕ) (tree : List DirectoryNode)
    → length (filter (is_old first) (node_ids tree)) ≡ length (old_leaves first (tree_leaves tree)) + length (old_directories first tree)
old_ids_of_nodes first [] = refl
old_ids_of_nodes first (d ∷ tree) =
    let whole = count-append first (directory_ids d) (node_ids tree) in
    let own = count-append first (leaf_ids d.leaves) (d.id ∷ []) in
    let leaves = ap length (filter-append (λ (l : LeafNode). is_old first l.id) d.leaves (tree_leaves tree))
    ∙ length-append (old_leaves first d.leaves) (old_leaves first (tree_leaves tree)) in
    omega (arith, whole, own, leaves, old_ids_of_leaves first d.leaves, with_one first d tree, old_ids_of_nodes first tree)

none_old : (first : ℕ) (tree : List DirectoryNode) → length (old_directories first tree) ≡ 0 → HasNewDirectories first tree
none_old first [] none = λ k d within. absurd (omega arith)
none_old first (d ∷ tree) none =
    let counted = with_one first d tree in
    elim (cases_lt d.id first) [
      | inl below ↦
          let one : length (filter (is_old first) (d.id ∷ [])) ≡ 1 = rw (lt-ltb d.id first below) refl in
          absurd (omega (arith, none, counted, one))
      | inr up ↦
          let one : length (filter (is_old first) (d.id ∷ [])) ≡ 0 = rw (le-ltb d.id first up) refl in
          All-cons (λ (x : DirectoryNode). first ≤ x.id) d tree up (none_old first tree (omega (arith, none, counted, one)))
    ]

pub built_directories : (build : Build) (tree : List DirectoryNode) (next : ℕ) → IsBuilt build tree next
    → HasNewDirectories build.first tree
built_directories build tree next built =
    let ids = ap length built.old ∙ length-map build.kept (λ (l : LeafNode). l.id) in
    let leaves = ap length built.kept in
    none_old build.first tree (omega (arith, ids, leaves, old_ids_of_nodes build.first tree))

pub later_directories : (first later : ℕ) (tree : List DirectoryNode) → first ≤ later → HasNewDirectories later tree
    → HasNewDirectories first tree
later_directories first later tree le all =
    All-weaker (λ (d : DirectoryNode). later ≤ d.id) (λ (d : DirectoryNode). first ≤ d.id) (λ d above. omega (arith, above)) tree all
