-- Trees that a file of segments keeps as roots.
-- This project's own choice.
use Rattle.std.specs.Prelude.{◌≡◌, ℕ, List, [], ◌∷◌, ◌++◌, All, IsTrue}
use Rattle.log_model.specs.Payload.{written_format}
use Rattle.log_model.specs.Merges.{is_storable_dated}
use Rattle.log_model.specs.Kept.{KeptRoot, kept_roots, nodes_of, are_good}
use Rattle.seg_tree.specs.Indexes.{trees_of}
use Rattle.seg_tree.specs.declared.roots.Roots.{Roots}
use Rattle.seg_codec.specs.Trees.{leaves_of_four, roots_of, AreTreesOf, Fits, AreIdsOf, ids_lacking}

-- trees that go as far as c, as a root
abbrev pub root_of : Roots → ℕ → KeptRoot
root_of trees c = record { lists = trees_of trees; c = c }

-- all datoms can be written
abbrev pub HaveStorableDatoms : Roots → Type 0
HaveStorableDatoms trees =
    All (λ leaf. All (λ d. IsTrue (is_storable_dated written_format d)) leaf.datoms)
    (leaves_of_four trees)

-- After these records, one with this payload keeps the trees as one root more.
-- The file then has their nodes.
pub record KeepsRoot (records : List (List ℕ)) (payload : List ℕ) (trees : Roots) (c : ℕ)
    : Type 0 where
  pub roots : kept_roots (records ++ payload ∷ []) ≡ kept_roots records ++ root_of trees c ∷ []
  pub there : AreTreesOf (nodes_of (records ++ payload ∷ [])) (roots_of trees) trees
  pub fits : Fits (nodes_of (records ++ payload ∷ [])) trees

-- Good records go on with this payload, which keeps the trees.
-- Of the nodes before it these were the ids.
pub record IsNextRecord (ids : List ℕ) (records : List (List ℕ)) (payload : List ℕ) (trees : Roots)
    (c : ℕ) : Type 0 where
  pub good : IsTrue (are_good (records ++ payload ∷ []))
  pub keeps : KeepsRoot records payload trees c
  pub ids_are : AreIdsOf (ids ++ ids_lacking ids trees) (nodes_of (records ++ payload ∷ []))
