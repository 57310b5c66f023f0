-- Numbers for new nodes, which are above those of a store's ids.
use Rattle.std.proofs.Common.{◌≡◌, ◌⊎◌, ◌≤◌, ◌<◌, ◌^◌, ℕ, Bool, true, false, not, ◌||◌, List, [], ◌∷◌, ◌++◌, map, refl, sym, ◌∙◌, ap, arith}
use Rattle.std.proofs.Common.{inl, inr}
use Rattle.std.specs.Prelude.{filter, nat_eq, nat_le, cond}
use Rattle.std.specs.List.{list_any}
use Rattle.std.proofs.lemmas.Bool.{true≢false, or_left, or_right, or_cases, eqb-true, eq-eqb, leb-true, leb-false, le-leb}
use Rattle.log_model.specs.Nodes.{is_among}
use Rattle.seg_tree.specs.Nodes.{LeafNode, DirectoryNode, tree_leaves}
use Rattle.seg_tree.specs.Ids.{leaf_ids, node_ids, count_of, next_above}
use Rattle.seg_tree.specs.Indexes.{root_ids}
use Rattle.seg_tree.specs.declared.roots.Roots.{Roots}
use Rattle.seg_tree.proofs.Making.{next_above_append}
use Rattle.seg_codec.specs.Trees.{directory_ids, leaves_of_four, directories_of_four, ids_lacking}
use Rattle.seg_codec.proofs.Among.{among-append}
use Rattle.seg_codec.proofs.Counted.{among_counted, among_uncounted, count_both}
use Rattle.seg_codec.proofs.Over.{four_leaves, four_ids}
use Rattle.seg_store.proofs.Next.{least, some, among_below}

-- an id that is not among others stays where those are taken out
stays_among : {A : Type 0} (others : List ℕ) (f : A → ℕ) (xs : List A) (id : ℕ) → is_among others id ≡ false
    → is_among (map f xs) id ≡ true → is_among (map f (filter (λ x. not (is_among others (f x))) xs)) id ≡ true
stays_among {A = A} others f [] id out is = absurd (true≢false (sym is))
stays_among {A = A} others f (x ∷ xs) id out is =
    go (is_among others (f x)) refl (or_cases (nat_eq id (f x)) (is_among (map f xs) id) is) (stays_among others f xs id out)
  where
    rest : List A
    rest = filter (λ x. not (is_among others (f x))) xs

    go : (b : Bool) → is_among others (f x) ≡ b → (nat_eq id (f x) ≡ true) ⊎ (is_among (map f xs) id ≡ true)
        → (is_among (map f xs) id ≡ true → is_among (map f rest) id ≡ true)
        → is_among (map f (cond (not b) (x ∷ rest) rest)) id ≡ true
    go true within (inl same) later = absurd (true≢false (sym within ∙ ap (is_among others) (sym (eqb-true id (f x) same)) ∙ out))
    go true within (inr there) later = later there
    go false without (inl same) later = or_left _ _ same
    go false without (inr there) later = or_right _ _ (later there)

module _ (ids : List ℕ) (trees : Roots) where
  -- the id of a node is that of a leaf or of a directory
  node_of : (id : ℕ) → is_among (root_ids trees) id ≡ true
      → (is_among (leaf_ids (leaves_of_four trees)) id ≡ true) ⊎ (is_among (directory_ids (directories_of_four trees)) id ≡ true)
  node_of id is =
      go (is_among (leaf_ids (leaves_of_four trees)) id) refl (is_among (directory_ids (directories_of_four trees)) id) refl
    where
      same : count_of id (root_ids trees) ≡ count_of id (node_ids (directories_of_four trees))
      same = ap (count_of id) (four_ids trees)

      leaves : count_of id (leaf_ids (leaves_of_four trees)) ≡ count_of id (leaf_ids (tree_leaves (directories_of_four trees)))
      leaves = ap (λ l. count_of id (leaf_ids l)) (four_leaves trees)

      go : (l : Bool) → is_among (leaf_ids (leaves_of_four trees)) id ≡ l
          → (d : Bool) → is_among (directory_ids (directories_of_four trees)) id ≡ d
          → (is_among (leaf_ids (leaves_of_four trees)) id ≡ true) ⊎ (is_among (directory_ids (directories_of_four trees)) id ≡ true)
      go true leaf d directory = inl leaf
      go false leaf true directory = inr directory
      go false leaf false directory = absurd (omega (
        arith,
        same,
        leaves,
        count_both id (directories_of_four trees),
        among_counted id (root_ids trees) is,
        among_uncounted id (leaf_ids (leaves_of_four trees)) leaf,
        among_uncounted id (directory_ids (directories_of_four trees)) directory,
      ))

  abbrev lacking_leaves : List ℕ
  lacking_leaves = leaf_ids (filter (λ (l : LeafNode). not (is_among ids l.id)) (leaves_of_four trees))

  abbrev lacking_directories : List ℕ
  lacking_directories = directory_ids (filter (λ (d : DirectoryNode). not (is_among ids d.id)) (directories_of_four trees))

  -- each node is there already, or is one of those that are lacking
  there_or_lacking : (id : ℕ) → is_among (root_ids trees) id ≡ true → is_among (ids ++ ids_lacking ids trees) id ≡ true
  there_or_lacking id is = among-append ids (ids_lacking ids trees) id ∙ go (is_among ids id) refl
    where
      lacking : is_among ids id ≡ false → (is_among (leaf_ids (leaves_of_four trees)) id ≡ true)
          ⊎ (is_among (directory_ids (directories_of_four trees)) id ≡ true) → is_among (ids_lacking ids trees) id ≡ true
      lacking out (inl leaf) =
          among-append lacking_leaves lacking_directories id
          ∙ or_left (is_among lacking_leaves id) (is_among lacking_directories id)
          (stays_among ids (λ (l : LeafNode). l.id) (leaves_of_four trees) id out leaf)
      lacking out (inr directory) =
          among-append lacking_leaves lacking_directories id
          ∙ or_right (is_among lacking_leaves id) (is_among lacking_directories id)
          (stays_among ids (λ (d : DirectoryNode). d.id) (directories_of_four trees) id out directory)

      go : (b : Bool) → is_among ids id ≡ b → (is_among ids id || is_among (ids_lacking ids trees) id) ≡ true
      go true within = or_left (is_among ids id) (is_among (ids_lacking ids trees) id) within
      go false out = or_right (is_among ids id) (is_among (ids_lacking ids trees) id) (lacking out (node_of id is))

  -- no node of the trees has a greater number than those that are there once the lacking ones are
  pub below_with : next_above (root_ids trees) ≤ next_above (ids ++ ids_lacking ids trees)
  below_with = least (root_ids trees) (next_above (ids ++ ids_lacking ids trees)) (some (ids ++ ids_lacking ids trees))
      (λ id is. among_below (ids ++ ids_lacking ids trees) id (there_or_lacking id is))

-- with more ids the next number is no less
pub no_less : (ids more : List ℕ) → next_above ids ≤ next_above (ids ++ more)
no_less ids more = omega (arith, next_above_append ids more)

-- ---- great numbers

-- one of the ids is great where the next number is
great_among : (ids : List ℕ) → 2 ^ 61 < next_above ids → (id : ℕ) × (is_among ids id ≡ true) × (2 ^ 61 ≤ id)
great_among [] above = absurd (omega (arith, above))
great_among (x ∷ ids) above = go (nat_le (2 ^ 61) x) refl (great_among ids)
  where
    go : (b : Bool) → nat_le (2 ^ 61) x ≡ b → (2 ^ 61 < next_above ids → (id : ℕ) × (is_among ids id ≡ true) × (2 ^ 61 ≤ id))
        → (id : ℕ) × (is_among (x ∷ ids) id ≡ true) × (2 ^ 61 ≤ id)
    go true great later = (x, or_left _ _ (eq-eqb x x refl), leb-true (2 ^ 61) x great)
    go false small later =
        let rest = later (omega (arith, above, leb-false (2 ^ 61) x small)) in (rest.0, or_right _ _ rest.1, rest.2)

has_great : (ids : List ℕ) (id : ℕ) → is_among ids id ≡ true → 2 ^ 61 ≤ id → list_any (nat_le (2 ^ 61)) ids ≡ true
has_great [] id is great = absurd (true≢false (sym is))
has_great (x ∷ ids) id is great = elim (or_cases (nat_eq id x) (is_among ids id) is) [
  | inl same ↦ or_left _ _ (le-leb (2 ^ 61) x (omega (arith, great, eqb-true id x same)))
  | inr later ↦ or_right _ _ (has_great ids id later great)
]

-- so others that have the same ids have a great one
pub great_too : (ids others : List ℕ) → ((id : ℕ) → is_among ids id ≡ is_among others id) → 2 ^ 61 < next_above ids
    → list_any (nat_le (2 ^ 61)) others ≡ true
great_too ids others same above =
    let one = great_among ids above in has_great others one.0 (sym (same one.0) ∙ one.1) one.2
