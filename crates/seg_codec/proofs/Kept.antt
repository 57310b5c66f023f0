-- Trees that stand in the nodes of a file.
use Rattle.std.proofs.Common.{◌≡◌, ℕ, Bool, true, false, cond, not, List, [], ◌∷◌, ◌++◌, length, map, refl, sym, ◌∙◌, ap, subst, arith, inl}
use Rattle.std.proofs.Common.{inr, ◌⊎◌, append_assoc}
use Rattle.std.specs.Prelude.{filter, flat_map, fold, Contains, All}
use Rattle.std.proofs.lemmas.Bool.{true≢false}
use Rattle.std.proofs.lemmas.List.{append-nil}
use Rattle.std.proofs.lemmas.List.Elements.{All-contains, All-weaker, All-head, All-tail, filter_agree, Contains-append_left}
use Rattle.std.proofs.lemmas.List.Elements.{Contains-append_right}
use Rattle.fb_values.specs.declared.indexes.Order.{Order}
use Rattle.fb_values.specs.declared.indexes.Order.TheVariants.{Eavt, Aevt, Avet, Vaet}
use Rattle.log_model.specs.Nodes.{Leaf, Directory, Nodes, Roots, MergeRecord, ids_in, is_among, with_leaf, with_directory, ids_below}
use Rattle.log_model.specs.Kept.{with_nodes, kept_root, leaf_datoms as file_leaf_datoms, directory_datoms as file_directory_datoms}
use Rattle.log_model.specs.Kept.{tree_datoms as file_tree_datoms}
use Rattle.seg_tree.specs.Nodes.{LeafNode, DirectoryNode, leaf_datoms, tree_datoms, tree_leaves}
use Rattle.seg_tree.specs.Ids.{leaf_ids}
use Rattle.seg_tree.specs.Indexes.{tree_in, trees_of}
use Rattle.seg_tree.specs.declared.roots.Roots.{Roots as SegRoots}
use Rattle.seg_codec.specs.Trees.{file_leaf, file_directory, Has, root_in, directory_ids, AreTreesOf, leaves_of_four, directories_of_four}
use Rattle.seg_codec.specs.Trees.{roots_of, Fits, merge_over, merge_of, AreIdsOf}
use Rattle.seg_codec.proofs.Among.{member_here, member_there, member_cases, no_member, All-made, first_of_four, second_of_four}
use Rattle.seg_codec.proofs.Among.{third_of_four, fourth_of_four, among_member, AreOnce, once_front, once_back, one_of_id, found_by_id}

-- ---- the nodes behind a record

pub with_leaves : (nodes : Nodes) (leaves : List Leaf)
    → fold with_leaf nodes leaves ≡ record { leaves = nodes.leaves ++ leaves; directories = nodes.directories }
with_leaves nodes [] = ap (λ l. record { leaves = l; directories = nodes.directories }) (sym (append-nil nodes.leaves))
with_leaves nodes (leaf ∷ leaves) =
    with_leaves (with_leaf nodes leaf) leaves
    ∙ ap (λ l. record { leaves = l; directories = nodes.directories }) (append_assoc nodes.leaves (leaf ∷ []) leaves)

pub with_directories : (nodes : Nodes) (directories : List Directory)
    → fold with_directory nodes directories ≡ record { leaves = nodes.leaves; directories = nodes.directories ++ directories }
with_directories nodes [] = ap (λ l. record { leaves = nodes.leaves; directories = l }) (sym (append-nil nodes.directories))
with_directories nodes (directory ∷ directories) =
    with_directories (with_directory nodes directory) directories
    ∙ ap (λ l. record { leaves = nodes.leaves; directories = l }) (append_assoc nodes.directories (directory ∷ []) directories)

pub with_record : (nodes : Nodes) (merge : MergeRecord)
    → with_nodes nodes merge ≡ record { leaves = nodes.leaves ++ merge.leaves; directories = nodes.directories ++ merge.directories }
with_record nodes merge = with_directories (fold with_leaf nodes merge.leaves) merge.directories
    ∙ ap (λ (n : Nodes). record { leaves = n.leaves; directories = n.directories ++ merge.directories }) (with_leaves nodes merge.leaves)

pub leaves_with : (nodes : Nodes) (merge : MergeRecord) → (with_nodes nodes merge).leaves ≡ nodes.leaves ++ merge.leaves
leaves_with nodes merge = ap (λ (n : Nodes). n.leaves) (with_record nodes merge)

pub directories_with : (nodes : Nodes) (merge : MergeRecord) → (with_nodes nodes merge).directories ≡ nodes.directories ++ merge.directories
directories_with nodes merge = ap (λ (n : Nodes). n.directories) (with_record nodes merge)

-- ---- trees over later nodes

has_later : (nodes : Nodes) (merge : MergeRecord) (d : DirectoryNode) → Has nodes d → Has (with_nodes nodes merge) d
has_later nodes merge d has = record {
  itself = subst (λ l. Contains l (file_directory d)) (sym (directories_with nodes merge))
      (Contains-append_left nodes.directories merge.directories (file_directory d) has.itself);
  leaves = All-weaker (λ leaf. Contains nodes.leaves (file_leaf leaf)) (λ leaf. Contains (with_nodes nodes merge).leaves (file_leaf leaf))
      (λ leaf member. subst (λ l. Contains l (file_leaf leaf)) (sym (leaves_with nodes merge))
      (Contains-append_left nodes.leaves merge.leaves (file_leaf leaf) member)) d.leaves has.leaves;
}

pub trees_later : (nodes : Nodes) (merge : MergeRecord) (ids : Roots) (trees : SegRoots) → AreTreesOf nodes ids trees
    → AreTreesOf (with_nodes nodes merge) ids trees
trees_later nodes merge ids trees are = record {
  named = are.named;
  there = λ order. All-weaker (Has nodes) (Has (with_nodes nodes merge)) (has_later nodes merge) (tree_in trees order) (are.there order);
}

-- ---- what the file keeps of them

module _ (nodes : Nodes) (once : AreOnce (ids_in nodes)) where
  abbrev ids_of_leaves : List ℕ
  ids_of_leaves = map (λ (leaf : Leaf). leaf.id) nodes.leaves

  abbrev ids_of_directories : List ℕ
  ids_of_directories = map (λ (directory : Directory). directory.id) nodes.directories

  leaves_once : AreOnce ids_of_leaves
  leaves_once = once_front ids_of_leaves ids_of_directories once

  directories_once : AreOnce ids_of_directories
  directories_once = once_back ids_of_leaves ids_of_directories once

  same_leaf : (leaf : LeafNode) → Contains nodes.leaves (file_leaf leaf) → file_leaf_datoms nodes leaf.id ≡ leaf.datoms
  same_leaf leaf has =
      ap (flat_map (λ (l : Leaf). l.datoms)) (found_by_id (λ (l : Leaf). l.id) nodes.leaves (file_leaf leaf) leaves_once has)
      ∙ append-nil leaf.datoms

  same_leaves : (leaves : List LeafNode) → All (λ leaf. Contains nodes.leaves (file_leaf leaf)) leaves
      → flat_map (file_leaf_datoms nodes) (leaf_ids leaves) ≡ leaf_datoms leaves
  same_leaves [] has = refl
  same_leaves (leaf ∷ leaves) has =
      (λ i. same_leaf leaf (All-head (λ l. Contains nodes.leaves (file_leaf l)) leaf leaves has) i
      ++ same_leaves leaves (All-tail (λ l. Contains nodes.leaves (file_leaf l)) leaf leaves has) i)

  pub below_is : (d : DirectoryNode) → Contains nodes.directories (file_directory d) → ids_below nodes d.id ≡ d.id ∷ leaf_ids d.leaves
  below_is d has =
      ap (λ l. d.id ∷ flat_map (λ (directory : Directory). directory.leaves) l)
      (found_by_id (λ (directory : Directory). directory.id) nodes.directories (file_directory d) directories_once has)
      ∙ ap (λ l. d.id ∷ l) (append-nil (leaf_ids d.leaves))

  same_directory : (d : DirectoryNode) → Has nodes d → file_directory_datoms nodes d.id ≡ leaf_datoms d.leaves
  same_directory d has =
      ap (λ l. flat_map (file_leaf_datoms nodes) (flat_map (λ (directory : Directory). directory.leaves) l))
      (found_by_id (λ (directory : Directory). directory.id) nodes.directories (file_directory d) directories_once has.itself)
      ∙ ap (flat_map (file_leaf_datoms nodes)) (append-nil (leaf_ids d.leaves))
      ∙ same_leaves d.leaves has.leaves

  same_tree : (tree : List DirectoryNode) → All (Has nodes) tree → file_tree_datoms nodes (directory_ids tree) ≡ tree_datoms tree
  same_tree [] has = refl
  same_tree (d ∷ tree) has = (λ i. same_directory d (All-head (Has nodes) d tree has) i ++ same_tree tree (All-tail
      (Has nodes) d tree has) i)

  pub kept_lists : (merge : MergeRecord) (trees : SegRoots) → AreTreesOf nodes merge.roots trees
      → (kept_root nodes merge).lists ≡ trees_of trees
  kept_lists merge trees are =
      let eavt = ap (file_tree_datoms nodes) (sym (are.named Eavt)) ∙ same_tree trees.eavt (are.there Eavt) in
      let aevt = ap (file_tree_datoms nodes) (sym (are.named Aevt)) ∙ same_tree trees.aevt (are.there Aevt) in
      let avet = ap (file_tree_datoms nodes) (sym (are.named Avet)) ∙ same_tree trees.avet (are.there Avet) in
      let vaet = ap (file_tree_datoms nodes) (sym (are.named Vaet)) ∙ same_tree trees.vaet (are.there Vaet) in
      λ i. record { eavt = eavt i; aevt = aevt i; avet = avet i; vaet = vaet i }

  -- ---- one tree of the same ids

  one_leaf : (leaf other : LeafNode) → Contains nodes.leaves (file_leaf leaf) → Contains nodes.leaves (file_leaf other)
      → leaf.id ≡ other.id → leaf ≡ other
  one_leaf leaf other has has_too same =
      let files = one_of_id (λ (l : Leaf). l.id) nodes.leaves (file_leaf leaf) (file_leaf other) leaves_once has has_too same in
      ap (λ (l : Leaf). record { id = l.id; datoms = l.datoms }) files

  one_list : (leaves others : List LeafNode) → All (λ l. Contains nodes.leaves (file_leaf l)) leaves
      → All (λ l. Contains nodes.leaves (file_leaf l)) others → leaf_ids leaves ≡ leaf_ids others → leaves ≡ others
  one_list [] [] has has_too same = refl
  one_list [] (y ∷ others) has has_too same = absurd (omega (arith, ap length same))
  one_list (x ∷ leaves) [] has has_too same = absurd (omega (arith, ap length same))
  one_list (x ∷ leaves) (y ∷ others) has has_too same =
      let first = one_leaf x y (All-head (λ l. Contains nodes.leaves (file_leaf l)) x leaves has)
      (All-head (λ l. Contains nodes.leaves (file_leaf l)) y others has_too)
      (head_of x.id y.id (leaf_ids leaves) (leaf_ids others) same) in
      let rest = one_list leaves others (All-tail (λ l. Contains nodes.leaves (file_leaf l)) x leaves has)
      (All-tail (λ l. Contains nodes.leaves (file_leaf l)) y others has_too)
      (tail_of x.id y.id (leaf_ids leaves) (leaf_ids others) same) in
      λ i. first i ∷ rest i
    where
      head_of : (a b : ℕ) (xs ys : List ℕ) → (a ∷ xs) ≡ (b ∷ ys) → a ≡ b
      head_of a b xs ys is = cc

      tail_of : (a b : ℕ) (xs ys : List ℕ) → (a ∷ xs) ≡ (b ∷ ys) → xs ≡ ys
      tail_of a b xs ys is = cc

  one_directory : (d other : DirectoryNode) → Has nodes d → Has nodes other → d.id ≡ other.id → d ≡ other
  one_directory d other has has_too same =
      let files = one_of_id (λ (x : Directory). x.id) nodes.directories (file_directory d)
      (file_directory other) directories_once has.itself has_too.itself same in
      let leaves = one_list d.leaves other.leaves has.leaves has_too.leaves (ap (λ (x : Directory). x.leaves) files) in
      λ i. record { id = same i; leaves = leaves i }

  pub one_tree : (tree other : List DirectoryNode) → All (Has nodes) tree → All (Has nodes) other
      → directory_ids tree ≡ directory_ids other → tree ≡ other
  one_tree [] [] has has_too same = refl
  one_tree [] (y ∷ other) has has_too same = absurd (omega (arith, ap length same))
  one_tree (x ∷ tree) [] has has_too same = absurd (omega (arith, ap length same))
  one_tree (x ∷ tree) (y ∷ other) has has_too same =
      let first = one_directory x y (All-head (Has nodes) x tree has) (All-head (Has nodes) y other has_too)
      (head_of x.id y.id (directory_ids tree) (directory_ids other) same) in
      let rest = one_tree tree other (All-tail (Has nodes) x tree has) (All-tail (Has nodes) y other has_too)
      (tail_of x.id y.id (directory_ids tree) (directory_ids other) same) in
      λ i. first i ∷ rest i
    where
      head_of : (a b : ℕ) (xs ys : List ℕ) → (a ∷ xs) ≡ (b ∷ ys) → a ≡ b
      head_of a b xs ys is = cc

      tail_of : (a b : ℕ) (xs ys : List ℕ) → (a ∷ xs) ≡ (b ∷ ys) → xs ≡ ys
      tail_of a b xs ys is = cc

-- ---- what a record adds

module _ {A B : Type 0} (p : A → Bool) (f : A → B) where
  kept_or_not : (xs : List A) (x : A) → Contains xs x → (p x ≡ false) ⊎ Contains (map f (filter p xs)) (f x)
  kept_or_not [] x member = absurd (no_member x member)
  kept_or_not (y ∷ xs) x member = go (p y) refl (kept_or_not xs x) (member_cases y x xs member)
    where
      go : (b : Bool) → p y ≡ b → (Contains xs x → (p x ≡ false) ⊎ Contains (map f (filter p xs)) (f x)) → (y ≡ x) ⊎ Contains xs x
          → (p x ≡ false) ⊎ Contains (map f (cond b (y ∷ filter p xs) (filter p xs))) (f x)
      go true is next (inl same) = inr (subst (λ z. Contains (f y ∷ map f (filter p xs)) (f z)) same (member_here (f y) (map f
          (filter p xs))))
      go true is next (inr later) = elim
          (next later) [ inl out ↦ inl out | inr in_it ↦ inr (member_there (f y) (f x) (map f (filter p xs)) in_it) ]
      go false is next (inl same) = inl (ap p (sym same) ∙ is)
      go false is next (inr later) = next later

module _ (nodes : Nodes) (trees : SegRoots) (c : ℕ) (fits : Fits nodes trees) where
  abbrev after : Nodes
  after = with_nodes nodes (merge_of nodes trees c)

  not_not : (b : Bool) → not b ≡ false → b ≡ true
  not_not true is = refl
  not_not false is = absurd (true≢false is)

  pub leaf_there : (leaf : LeafNode) → Contains (leaves_of_four trees) leaf
      → Contains (with_nodes nodes (merge_of nodes trees c)).leaves (file_leaf leaf)
  leaf_there leaf member =
      subst (λ l. Contains l (file_leaf leaf)) (sym (leaves_with nodes (merge_of nodes trees c)))
      (elim (kept_or_not (λ (l : LeafNode). not (is_among (ids_in nodes) l.id)) file_leaf (leaves_of_four trees) leaf member) [
        | inl known ↦ Contains-append_left nodes.leaves (merge_of nodes trees c).leaves (file_leaf leaf)
            (All-contains (λ (l : LeafNode). Contains (ids_in nodes) l.id → Contains nodes.leaves (file_leaf l))
            (leaves_of_four trees) leaf fits.leaves member
            (among_member (ids_in nodes) leaf.id (not_not (is_among (ids_in nodes) leaf.id) known)))
        | inr new ↦ Contains-append_right nodes.leaves (merge_of nodes trees c).leaves (file_leaf leaf) new
      ])

  pub directory_there : (d : DirectoryNode) → Contains (directories_of_four trees) d
      → Contains (with_nodes nodes (merge_of nodes trees c)).directories (file_directory d)
  directory_there d member =
      subst (λ l. Contains l (file_directory d)) (sym (directories_with nodes (merge_of nodes trees c)))
      (elim (kept_or_not (λ (x : DirectoryNode). not (is_among (ids_in nodes) x.id)) file_directory (directories_of_four trees) d member) [
        | inl known ↦ Contains-append_left nodes.directories (merge_of nodes trees c).directories (file_directory d)
            (All-contains (λ (x : DirectoryNode). Contains (ids_in nodes) x.id → Contains nodes.directories (file_directory x))
            (directories_of_four trees) d fits.directories member
            (among_member (ids_in nodes) d.id (not_not (is_among (ids_in nodes) d.id) known)))
        | inr new ↦ Contains-append_right nodes.directories (merge_of nodes trees c).directories (file_directory d) new
      ])

  pub has_each : (tree : List DirectoryNode) → ((d : DirectoryNode) → Contains tree d → Contains (directories_of_four trees) d)
      → ((leaf : LeafNode) → Contains (tree_leaves tree) leaf → Contains (leaves_of_four trees) leaf)
      → All (Has (with_nodes nodes (merge_of nodes trees c))) tree
  has_each tree within leaves_within = All-made (Has after) tree (λ d member. record {
    itself = directory_there d (within d member);
    leaves = All-made (λ leaf. Contains after.leaves (file_leaf leaf)) d.leaves
        (λ leaf inside. leaf_there leaf (leaves_within leaf (leaf_in_tree tree d leaf member inside)));
  })
    where
      leaf_in_tree : (ds : List DirectoryNode) (d : DirectoryNode) (leaf : LeafNode) → Contains ds d → Contains d.leaves leaf
          → Contains (tree_leaves ds) leaf
      leaf_in_tree [] d leaf member inside = absurd (no_member d member)
      leaf_in_tree (x ∷ ds) d leaf member inside =
          elim (member_cases x d ds member) [
            | inl same ↦ Contains-append_left x.leaves (tree_leaves ds) leaf
                (subst (λ (y : DirectoryNode). Contains y.leaves leaf) (sym same) inside)
            | inr later ↦ Contains-append_right x.leaves (tree_leaves ds) leaf (leaf_in_tree ds d leaf later inside)
          ]

pub trees_there : (nodes : Nodes) (trees : SegRoots) (c : ℕ) → Fits nodes trees
    → AreTreesOf (with_nodes nodes (merge_of nodes trees c)) (merge_of nodes trees c).roots trees
trees_there nodes trees c fits = record {
  named = λ order. named_of order;
  there = λ order. there_of order;
}
  where
    named_of : (order : Order) → directory_ids (tree_in trees order) ≡ root_in (roots_of trees) order
    named_of Eavt = refl
    named_of Aevt = refl
    named_of Avet = refl
    named_of Vaet = refl

    there_of : (order : Order) → All (Has (with_nodes nodes (merge_of nodes trees c))) (tree_in trees order)
    there_of Eavt = has_each nodes trees c fits trees.eavt
        (λ d. first_of_four trees.eavt trees.aevt trees.avet trees.vaet d)
        (λ leaf. first_of_four (tree_leaves trees.eavt) (tree_leaves trees.aevt) (tree_leaves trees.avet) (tree_leaves trees.vaet) leaf)
    there_of Aevt = has_each nodes trees c fits trees.aevt
        (λ d. second_of_four trees.eavt trees.aevt trees.avet trees.vaet d)
        (λ leaf. second_of_four (tree_leaves trees.eavt) (tree_leaves trees.aevt) (tree_leaves trees.avet) (tree_leaves trees.vaet) leaf)
    there_of Avet = has_each nodes trees c fits trees.avet
        (λ d. third_of_four trees.eavt trees.aevt trees.avet trees.vaet d)
        (λ leaf. third_of_four (tree_leaves trees.eavt) (tree_leaves trees.aevt) (tree_leaves trees.avet) (tree_leaves trees.vaet) leaf)
    there_of Vaet = has_each nodes trees c fits trees.vaet
        (λ d. fourth_of_four trees.eavt trees.aevt trees.avet trees.vaet d)
        (λ leaf. fourth_of_four (tree_leaves trees.eavt) (tree_leaves trees.aevt) (tree_leaves trees.avet) (tree_leaves trees.vaet) leaf)

-- ---- the ids alone decide

pub same_ids : (nodes : Nodes) (ids : List ℕ) (trees : SegRoots) (c : ℕ) → AreIdsOf ids nodes
    → merge_over ids trees c ≡ merge_of nodes trees c
same_ids nodes ids trees c are =
    let leaves = filter_agree (λ (l : LeafNode). not (is_among ids l.id)) (λ (l : LeafNode). not (is_among (ids_in nodes) l.id))
    (λ l. ap not (are l.id)) (leaves_of_four trees) in
    let directories = filter_agree (λ (d : DirectoryNode). not (is_among ids d.id))
    (λ (d : DirectoryNode). not (is_among (ids_in nodes) d.id)) (λ d. ap not (are d.id)) (directories_of_four trees) in
    λ i. record { c = c; leaves = map file_leaf (leaves i); directories = map file_directory (directories i); roots = roots_of trees }
