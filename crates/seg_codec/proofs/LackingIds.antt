-- The ids that a file lacks.
use Rattle.std.proofs.Common.{◌≡◌, ◌≤◌, ◌<◌, ◌+◌, ◌^◌, ℕ, Bool, true, false, not, ◌||◌, List, [], ◌∷◌, ◌++◌, length, map, take, get_or}
use Rattle.std.proofs.Common.{refl, sym, ◌∙◌, ap, arith, inl, inr}
use Rattle.std.specs.Prelude.{filter, nat_eq, All}
use Rattle.std.proofs.lemmas.Bool.{true≢false, or_cases, false_from_ne_true, eqb-true}
use Rattle.std.proofs.lemmas.List.{map-append}
use Rattle.log_model.specs.Nodes.{Leaf, Directory, Nodes, ids_in, is_among}
use Rattle.log_model.specs.Kept.{with_nodes}
use Rattle.seg_tree.specs.Nodes.{LeafNode, DirectoryNode, tree_leaves}
use Rattle.seg_tree.specs.Ids.{leaf_ids, node_ids, count_of, next_above, AreDistinct}
use Rattle.seg_tree.specs.Indexes.{root_ids}
use Rattle.seg_tree.specs.declared.roots.Roots.{Roots as SegRoots}
use Rattle.seg_tree.proofs.Making.{seen_more}
use Rattle.seg_codec.specs.Trees.{directory_ids, leaves_of_four, directories_of_four, merge_over, merge_of, ids_lacking, AreIdsOf}
use Rattle.seg_codec.proofs.Among.{All-made, among, among_mapped, among-append, mapped_among, AreOnce, once_join}
use Rattle.seg_codec.proofs.Counted.{among_counted, among_uncounted, once_counted, count_both}
use Rattle.seg_codec.proofs.InNodes.{file_leaf_ids, file_directory_ids}
use Rattle.seg_codec.proofs.Kept.{leaves_with, directories_with, same_ids}
use Rattle.seg_codec.proofs.Over.{kept_member, kept_once, four_leaves, four_ids}

module _ (ids : List ℕ) (trees : SegRoots) where
  abbrev is_lacking : ℕ → Bool
  is_lacking id = not (is_among ids id)

  abbrev leaves_lacking : List LeafNode
  leaves_lacking = filter (λ (l : LeafNode). not (is_among ids l.id)) (leaves_of_four trees)

  abbrev directories_lacking : List DirectoryNode
  directories_lacking = filter (λ (d : DirectoryNode). not (is_among ids d.id)) (directories_of_four trees)

  is_out : (b : Bool) → not b ≡ true → b ≡ false
  is_out false is = refl
  is_out true is = absurd (true≢false (sym is))

  leaf_of : (id : ℕ) → is_among (leaf_ids leaves_lacking) id ≡ true
      → (is_among (leaf_ids (leaves_of_four trees)) id ≡ true) × (is_among ids id ≡ false)
  leaf_of id is =
      let found = among_mapped (λ (l : LeafNode). l.id) leaves_lacking id is in
      let kept = kept_member (λ (l : LeafNode). not (is_among ids l.id)) (leaves_of_four trees) found.0 found.1 in (
        ap (is_among (leaf_ids (leaves_of_four trees))) (sym found.2)
            ∙ mapped_among (λ (l : LeafNode). l.id) (leaves_of_four trees) found.0 kept.0,
        ap (is_among ids) (sym found.2) ∙ is_out (is_among ids found.0.id) kept.1,
      )

  directory_of : (id : ℕ) → is_among (directory_ids directories_lacking) id ≡ true
      → (is_among (directory_ids (directories_of_four trees)) id ≡ true) × (is_among ids id ≡ false)
  directory_of id is =
      let found = among_mapped (λ (d : DirectoryNode). d.id) directories_lacking id is in
      let kept = kept_member (λ (d : DirectoryNode). not (is_among ids d.id)) (directories_of_four trees) found.0 found.1 in (
        ap (is_among (directory_ids (directories_of_four trees))) (sym found.2)
            ∙ mapped_among (λ (d : DirectoryNode). d.id) (directories_of_four trees) found.0 kept.0,
        ap (is_among ids) (sym found.2) ∙ is_out (is_among ids found.0.id) kept.1,
      )

  either : (id : ℕ) → is_among (ids_lacking ids trees) id ≡ true
      → (is_among (leaf_ids leaves_lacking) id || is_among (directory_ids directories_lacking) id) ≡ true
  either id is = sym (among-append (leaf_ids leaves_lacking) (directory_ids directories_lacking) id) ∙ is

  module _ (distinct : AreDistinct (root_ids trees)) where
    few : (id : ℕ) → count_of id (leaf_ids (leaves_of_four trees)) + count_of id (directory_ids (directories_of_four trees)) ≤ 1
    few id =
        let whole : count_of id (root_ids trees) ≤ 1 = distinct id in
        let same : count_of id (root_ids trees) ≡ count_of id (node_ids (directories_of_four trees)) = ap (count_of id) (four_ids trees) in
        let leaves : count_of id (leaf_ids (leaves_of_four trees))
        ≡ count_of id (leaf_ids (tree_leaves (directories_of_four trees))) = ap (λ l. count_of id (leaf_ids l)) (four_leaves trees) in
        omega (arith, whole, same, leaves, count_both id (directories_of_four trees))

    -- behind the ids that are there, those that are lacking stand once
    pub once_with : AreOnce ids → AreOnce (ids ++ ids_lacking ids trees)
    once_with once =
        once_join ids (ids_lacking ids trees) once
        (once_join (leaf_ids leaves_lacking) (directory_ids directories_lacking)
        (kept_once (λ (l : LeafNode). not (is_among ids l.id)) (λ l. l.id) (leaves_of_four trees)
        (once_counted _ (λ id. omega (arith, few id))))
        (kept_once (λ (d : DirectoryNode). not (is_among ids d.id)) (λ d. d.id) (directories_of_four trees)
        (once_counted _ (λ id. omega (arith, few id))))
        (λ id is. false_from_ne_true _ (λ too. absurd (omega (
          arith,
          few id,
          among_counted id _ (leaf_of id is).0,
          among_counted id _
              (directory_of id too).0,
        )))))
        (λ id is. false_from_ne_true _ (λ too. elim (or_cases _ _ (either id too)) [
          | inl leaf ↦ true≢false (sym is ∙ (leaf_of id leaf).1)
          | inr directory ↦ true≢false (sym is ∙ (directory_of id directory).1)
        ]))

  below_next : (xs : List ℕ) (id : ℕ) → is_among xs id ≡ true → id < next_above xs
  below_next [] id is = absurd (true≢false (sym is))
  below_next (x ∷ xs) id is = elim (or_cases (nat_eq id x) (is_among xs id) is) [
    | inl same ↦ omega (arith, eqb-true id x same)
    | inr later ↦ omega (arith, below_next xs id later)
  ]

  among_roots : (id : ℕ) → is_among (ids_lacking ids trees) id ≡ true → is_among (root_ids trees) id ≡ true
  among_roots id is = go (is_among (root_ids trees) id) refl
    where
      counted : 1 ≤ count_of id (root_ids trees)
      counted =
          let same : count_of id (root_ids trees)
          ≡ count_of id (node_ids (directories_of_four trees)) = ap (count_of id) (four_ids trees) in
          let leaves : count_of id (leaf_ids (leaves_of_four trees))
          ≡ count_of id (leaf_ids (tree_leaves (directories_of_four trees))) = ap (λ l. count_of id (leaf_ids l)) (four_leaves trees) in
          elim (or_cases _ _ (either id is)) [
            | inl leaf ↦ omega (arith, same, leaves, count_both id (directories_of_four trees), among_counted id _ (leaf_of id leaf).0)
            | inr directory ↦ omega (
              arith,
              same,
              leaves,
              count_both id (directories_of_four trees),
              among_counted id _ (directory_of id
                  directory).0,
            )
          ]

      none : (xs : List ℕ) → is_among xs id ≡ false → count_of id xs ≡ 0
      none xs out = among_uncounted id xs out

      go : (b : Bool) → is_among (root_ids trees) id ≡ b → is_among (root_ids trees) id ≡ true
      go true had = had
      go false out = absurd (omega (arith, counted, none (root_ids trees) out))

  pub small_with : next_above (root_ids trees) ≤ 2 ^ 62 → All (λ id. id < 2 ^ 62) (ids_lacking ids trees)
  small_with most = All-made (λ id. id < 2 ^ 62) (ids_lacking ids trees)
      (λ id member. omega (arith, most, below_next (root_ids trees) id (among_roots id (among (ids_lacking ids trees) id member))))

-- ---- the ids behind a record

four_ways : (a b l d : Bool) → ((a || b) || (l || d)) ≡ ((a || l) || (b || d))
four_ways true b l d = refl
four_ways false true true d = refl
four_ways false true false d = refl
four_ways false false l d = refl

pub ids_behind : (nodes : Nodes) (ids : List ℕ) (trees : SegRoots) (c : ℕ) → AreIdsOf ids nodes
    → AreIdsOf (ids ++ ids_lacking ids trees) (with_nodes nodes (merge_of nodes trees c))
ids_behind nodes ids trees c are id =
    let lp = map (λ (l : Leaf). l.id) nodes.leaves in
    let dp = map (λ (d : Directory). d.id) nodes.directories in
    let ll = leaf_ids (filter (λ (l : LeafNode). not (is_among ids l.id)) (leaves_of_four trees)) in
    let dl = directory_ids (filter (λ (d : DirectoryNode). not (is_among ids d.id)) (directories_of_four trees)) in
    let after = with_nodes nodes (merge_over ids trees c) in
    let leaves : map (λ (l : Leaf). l.id) after.leaves ≡ lp ++ ll =
    ap (map (λ (l : Leaf). l.id)) (leaves_with nodes (merge_over ids trees c))
    ∙ map-append (λ (l : Leaf). l.id) nodes.leaves (merge_over ids trees c).leaves
    ∙ ap (λ l. lp ++ l) (file_leaf_ids (filter (λ (l : LeafNode). not (is_among ids l.id)) (leaves_of_four trees))) in
    let directories : map (λ (d : Directory). d.id) after.directories ≡ dp ++ dl =
    ap (map (λ (d : Directory). d.id)) (directories_with nodes (merge_over ids trees c))
    ∙ map-append (λ (d : Directory). d.id) nodes.directories (merge_over ids trees c).directories
    ∙ ap (λ l. dp ++ l) (file_directory_ids (filter (λ (d : DirectoryNode). not (is_among ids d.id)) (directories_of_four trees))) in
    among-append ids (ll ++ dl) id
    ∙ (λ i. (are id ∙ among-append lp dp id) i || among-append ll dl id i)
    ∙ four_ways (is_among lp id) (is_among dp id) (is_among ll id) (is_among dl id)
    ∙ (λ i. sym (among-append lp ll id) i || sym (among-append dp dl id) i)
    ∙ sym (among-append (lp ++ ll) (dp ++ dl) id)
    ∙ (λ i. is_among (sym leaves i ++ sym directories i) id)
    ∙ ap (λ m. is_among (ids_in (with_nodes nodes m)) id) (same_ids nodes ids trees c are)

-- ---- ids in a row

pub directory_ids_more : {X : Type 0} (now : X → DirectoryNode) (items : List X) (i : ℕ) (x : X) → i < length items → x ≡ get_or items i x
    → directory_ids (map now (take (i + 1) items)) ≡ directory_ids (map now (take i items)) ++ (now x).id ∷ []
directory_ids_more now items i x below is =
    ap directory_ids (seen_more now items i x below is) ∙ map-append (λ (d : DirectoryNode). d.id) (map now (take i items)) (now x ∷ [])
