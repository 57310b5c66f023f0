-- A great number of trees of a file is one of the file's nodes.
use Rattle.std.proofs.Common.{◌≡◌, ◌⊎◌, ◌∙◌, ◌≤◌, ◌<◌, ◌+◌, ◌^◌, inl, inr, ℕ, Bool, true, false, List, [], ◌∷◌, ◌++◌, map, refl, sym, arith}
use Rattle.std.specs.Prelude.{All, Contains, IsTrue, max, nat_eq, nat_le}
use Rattle.std.specs.List.{list_any}
use Rattle.std.proofs.lemmas.Bool.{true≢false, or_left, or_right, or_cases, eqb-true, leb-true, leb-false, le-leb}
use Rattle.std.proofs.lemmas.List.Elements.{All-head, All-tail}
use Rattle.fb_values.specs.declared.indexes.Order.TheVariants.{Eavt, Aevt, Avet, Vaet}
use Rattle.log_model.specs.Nodes.{Leaf, Directory, Nodes, Roots as FileRoots, ids_in, is_among}
use Rattle.log_model.specs.Kept.{has_great_id}
use Rattle.seg_tree.specs.Nodes.{LeafNode, DirectoryNode}
use Rattle.seg_tree.specs.Ids.{leaf_ids, directory_ids, node_ids, next_above}
use Rattle.seg_tree.specs.Indexes.{root_ids}
use Rattle.seg_tree.specs.declared.roots.Roots.{Roots}
use Rattle.seg_tree.proofs.Making.{next_above_append}
use Rattle.seg_codec.specs.Trees.{file_leaf, file_directory, Has, AreTreesOf}
use Rattle.seg_codec.proofs.Among.{among-append, mapped_among}

one_of : (a b most : ℕ) → most < max a b → (most < a) ⊎ (most < b)
one_of a b most above = go (nat_le a most) refl
  where
    go : (small : Bool) → nat_le a most ≡ small → (most < a) ⊎ (most < b)
    go true small = inr (omega (arith, above, leb-true a most small))
    go false great = inl (leb-false a most great)

one_great : (ids : List ℕ) (id : ℕ) → is_among ids id ≡ true → 2 ^ 61 ≤ id → list_any (nat_le (2 ^ 61)) ids ≡ true
one_great [] id is great = absurd (true≢false (sym is))
one_great (x ∷ ids) id is great = elim (or_cases (nat_eq id x) (is_among ids id) is) [
  | inl same ↦ or_left _ _ (le-leb (2 ^ 61) x (omega (arith, great, eqb-true id x same)))
  | inr later ↦ or_right _ _ (one_great ids id later great)
]

module _ (nodes : Nodes) where
  great_leaf : (leaf : LeafNode) → Contains nodes.leaves (file_leaf leaf) → 2 ^ 61 ≤ leaf.id → has_great_id nodes ≡ true
  great_leaf leaf there great =
      one_great (ids_in nodes) leaf.id
      (among-append (map (λ (l : Leaf). l.id) nodes.leaves) (map (λ (d : Directory). d.id) nodes.directories) leaf.id
      ∙ or_left _ _ (mapped_among (λ (l : Leaf). l.id) nodes.leaves (file_leaf leaf) there))
      great

  great_directory : (directory : DirectoryNode) → Contains nodes.directories (file_directory directory) → 2 ^ 61 ≤ directory.id
      → has_great_id nodes ≡ true
  great_directory directory there great =
      one_great (ids_in nodes) directory.id
      (among-append (map (λ (l : Leaf). l.id) nodes.leaves) (map (λ (d : Directory). d.id) nodes.directories) directory.id
      ∙ or_right _ _ (mapped_among (λ (d : Directory). d.id) nodes.directories (file_directory directory) there))
      great

  great_leaves : (leaves : List LeafNode) → All (λ leaf. Contains nodes.leaves (file_leaf leaf)) leaves
      → 2 ^ 61 < next_above (leaf_ids leaves) → has_great_id nodes ≡ true
  great_leaves [] there above = absurd (omega (arith, above))
  great_leaves (leaf ∷ leaves) there above = elim (one_of (leaf.id + 1) (next_above (leaf_ids leaves)) (2 ^ 61) above) [
    | inl first ↦
        great_leaf leaf (All-head (λ (l : LeafNode). Contains nodes.leaves (file_leaf l)) leaf leaves there) (omega (arith, first))
    | inr later ↦ great_leaves leaves (All-tail (λ (l : LeafNode). Contains nodes.leaves (file_leaf l)) leaf leaves there) later
  ]

  great_in : (directory : DirectoryNode) → Has nodes directory → 2 ^ 61 < next_above (directory_ids directory) → has_great_id nodes ≡ true
  great_in directory has above =
      let parts = next_above_append (leaf_ids directory.leaves) (directory.id ∷ []) in
      elim (one_of (next_above (leaf_ids directory.leaves)) (next_above (directory.id ∷ [])) (2 ^ 61) (omega (arith, above, parts))) [
        | inl leaves ↦ great_leaves directory.leaves has.leaves leaves
        | inr own ↦ great_directory directory has.itself (omega (arith, own))
      ]

  great_tree : (tree : List DirectoryNode) → All (Has nodes) tree → 2 ^ 61 < next_above (node_ids tree) → has_great_id nodes ≡ true
  great_tree [] there above = absurd (omega (arith, above))
  great_tree (directory ∷ tree) there above =
      let parts = next_above_append (directory_ids directory) (node_ids tree) in
      elim (one_of (next_above (directory_ids directory)) (next_above (node_ids tree)) (2 ^ 61) (omega (arith, above, parts))) [
        | inl first ↦ great_in directory (All-head (Has nodes) directory tree there) first
        | inr later ↦ great_tree tree (All-tail (Has nodes) directory tree there) later
      ]

  pub great_there : (ids : FileRoots) (trees : Roots) → AreTreesOf nodes ids trees → 2 ^ 61 < next_above (root_ids trees)
      → IsTrue (has_great_id nodes)
  great_there ids trees are above =
      let two = node_ids trees.eavt ++ node_ids trees.aevt in
      let three = two ++ node_ids trees.avet in
      let at_two = next_above_append (node_ids trees.eavt) (node_ids trees.aevt) in
      let at_three = next_above_append two (node_ids trees.avet) in
      let at_four = next_above_append three (node_ids trees.vaet) in
      elim (one_of (next_above three) (next_above (node_ids trees.vaet)) (2 ^ 61) (omega (arith, above, at_four))) [
        | inr fourth ↦ great_tree trees.vaet (are.there Vaet) fourth
        | inl in_three ↦ elim (one_of (next_above two) (next_above (node_ids trees.avet)) (2 ^ 61) (omega (arith, in_three, at_three))) [
          | inr third ↦ great_tree trees.avet (are.there Avet) third
          | inl in_two ↦ elim (one_of (next_above (node_ids trees.eavt)) (next_above (node_ids trees.aevt)) (2 ^ 61)
              (omega (arith, in_two, at_two))) [
                | inl first ↦ great_tree trees.eavt (are.there Eavt) first
                | inr second ↦ great_tree trees.aevt (are.there Aevt) second
              ]
        ]
      ]
