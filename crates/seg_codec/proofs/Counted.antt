-- How often ids stand in trees.
use Rattle.std.proofs.Common.{◌≡◌, ◌≤◌, ◌+◌, ℕ, Bool, true, false, ◌||◌, List, [], ◌∷◌, ◌++◌, length, refl, sym, ◌∙◌, ap, subst, arith, inl}
use Rattle.std.proofs.Common.{inr, append_assoc, length-append}
use Rattle.std.specs.Prelude.{filter, nat_eq, Contains, ◌==◌}
use Rattle.std.proofs.lemmas.Bool.{true≢false, cases_eq, eq-eqb, ne_eqb, eqb-false, or_parts}
use Rattle.std.proofs.lemmas.List.{map-append}
use Rattle.std.proofs.lemmas.List.Elements.{filter-append}
use Rattle.log_model.specs.Nodes.{is_among}
use Rattle.seg_tree.specs.Nodes.{LeafNode, DirectoryNode, tree_leaves}
use Rattle.seg_tree.specs.Ids.{leaf_ids, directory_ids as ids_of_directory, node_ids, count_of}
use Rattle.seg_codec.specs.Trees.{directory_ids}
use Rattle.seg_codec.proofs.Among.{AreOnce, once_none, once_cons, once_head, once_tail, member_cases, no_member}

pub count-append : (id : ℕ) (xs ys : List ℕ) → count_of id (xs ++ ys) ≡ count_of id xs + count_of id ys
count-append id xs ys = ap length (filter-append (λ x. x == id) xs ys) ∙ length-append (filter (λ x. x == id) xs) (filter (λ x. x == id) ys)

count_same : (id : ℕ) (xs : List ℕ) → count_of id (id ∷ xs) ≡ count_of id xs + 1
count_same id xs = rw (eq-eqb id id refl) (omega arith)

count_other : (id x : ℕ) (xs : List ℕ) → (x ≡ id → ⊥) → count_of id (x ∷ xs) ≡ count_of id xs
count_other id x xs apart = rw (ne_eqb x id apart) refl

count_least : (id x : ℕ) (xs : List ℕ) → count_of id xs ≤ count_of id (x ∷ xs)
count_least id x xs = elim (cases_eq x id) [
  | inl same ↦ subst (λ y. count_of id xs ≤ count_of id (y ∷ xs)) (sym same) (omega (arith, count_same id xs))
  | inr apart ↦ omega (arith, count_other id x xs apart)
]

pub among_counted : (id : ℕ) (xs : List ℕ) → is_among xs id ≡ true → 1 ≤ count_of id xs
among_counted id [] is = absurd (true≢false (sym is))
among_counted id (x ∷ xs) is = elim (cases_eq x id) [
  | inl same ↦ subst (λ y. 1 ≤ count_of id (y ∷ xs)) (sym same) (omega (arith, count_same id xs))
  | inr apart ↦ omega (arith, count_other id x xs apart, among_counted id xs (later apart is))
]
  where
    later : (x ≡ id → ⊥) → (nat_eq id x || is_among xs id) ≡ true → is_among xs id ≡ true
    later apart is = sym (ap (λ b. b || is_among xs id) (ne_eqb id x (λ same. apart (sym same)))) ∙ is

pub uncounted_among : (id : ℕ) (xs : List ℕ) → count_of id xs ≡ 0 → is_among xs id ≡ false
uncounted_among id xs none = go (is_among xs id) refl
  where
    go : (b : Bool) → is_among xs id ≡ b → is_among xs id ≡ false
    go true is = absurd (omega (arith, among_counted id xs is, none))
    go false is = is

pub once_counted : (xs : List ℕ) → ((id : ℕ) → count_of id xs ≤ 1) → AreOnce xs
once_counted [] each = once_none
once_counted (x ∷ xs) each =
    once_cons x xs (uncounted_among x xs (omega (arith, each x, count_same x xs)))
    (once_counted xs (λ id. omega (arith, each id, count_least id x xs)))

pub among_uncounted : (id : ℕ) (xs : List ℕ) → is_among xs id ≡ false → count_of id xs ≡ 0
among_uncounted id [] none = refl
among_uncounted id (x ∷ xs) none =
    let parts = or_parts (nat_eq id x) (is_among xs id) none in
    count_other id x xs (λ same. eqb-false id x parts.0 (sym same)) ∙ among_uncounted id xs parts.1

pub counted_once : (xs : List ℕ) → AreOnce xs → (id : ℕ) → count_of id xs ≤ 1
counted_once [] once id = omega arith
counted_once (x ∷ xs) once id = elim (cases_eq x id) [
  | inl same ↦ subst (λ y. count_of id (y ∷ xs) ≤ 1) (sym same)
      (omega (arith, count_same id xs, among_uncounted id xs (ap (is_among xs) (sym same) ∙ once_head x xs once)))
  | inr apart ↦ omega (arith, count_other id x xs apart, counted_once xs (once_tail x xs once) id)
]

-- ---- ids of trees

-- a directory's id in front of those of its leaves
abbrev pub ids_below_all : List DirectoryNode → List ℕ
ids_below_all [] = []
ids_below_all (d ∷ ds) = (d.id ∷ leaf_ids d.leaves) ++ ids_below_all ds

pub below-append : (ds es : List DirectoryNode) → ids_below_all (ds ++ es) ≡ ids_below_all ds ++ ids_below_all es
below-append [] es = refl
below-append (d ∷ ds) es = ap (λ l. (d.id ∷ leaf_ids d.leaves) ++ l) (below-append ds es)
    ∙ sym (append_assoc (d.id ∷ leaf_ids d.leaves) (ids_below_all ds) (ids_below_all es))

pub node_ids-append : (ds es : List DirectoryNode) → node_ids (ds ++ es) ≡ node_ids ds ++ node_ids es
node_ids-append [] es = refl
node_ids-append (d ∷ ds) es = ap (λ l. ids_of_directory d ++ l) (node_ids-append ds es)
    ∙ sym (append_assoc (ids_of_directory d) (node_ids ds) (node_ids es))

pub tree_leaves-append : (ds es : List DirectoryNode) → tree_leaves (ds ++ es) ≡ tree_leaves ds ++ tree_leaves es
tree_leaves-append [] es = refl
tree_leaves-append (d ∷ ds) es = ap (λ l. d.leaves ++ l) (tree_leaves-append ds es)
    ∙ sym (append_assoc d.leaves (tree_leaves ds) (tree_leaves es))

-- the directory's id is counted wherever it stands
count_moved : (id x : ℕ) (xs : List ℕ) → count_of id (xs ++ x ∷ []) ≡ count_of id (x ∷ xs)
count_moved id x xs =
    count-append id xs (x ∷ []) ∙ elim (cases_eq x id) [
      | inl same ↦ subst (λ y. count_of id xs + count_of id (y ∷ []) ≡ count_of id (y ∷ xs)) (sym same)
          (omega (arith, count_same id xs, count_same id []))
      | inr apart ↦ omega (arith, count_other id x xs apart, count_other id x [] apart)
    ]

pub count_below : (id : ℕ) (ds : List DirectoryNode) → count_of id (ids_below_all ds) ≡ count_of id (node_ids ds)
count_below id [] = refl
count_below id (d ∷ ds) =
    count-append id (d.id ∷ leaf_ids d.leaves) (ids_below_all ds)
    ∙ (λ i. sym (count_moved id d.id (leaf_ids d.leaves)) i + count_below id ds i)
    ∙ sym (count-append id (ids_of_directory d) (node_ids ds))

leaf_ids-append : (xs ys : List LeafNode) → leaf_ids (xs ++ ys) ≡ leaf_ids xs ++ leaf_ids ys
leaf_ids-append xs ys = map-append (λ (leaf : LeafNode). leaf.id) xs ys

-- leaves and directories
pub count_both : (id : ℕ) (ds : List DirectoryNode)
    → count_of id (node_ids ds) ≡ count_of id (leaf_ids (tree_leaves ds)) + count_of id (directory_ids ds)
count_both id [] = refl
count_both id (d ∷ ds) =
    let front = count-append id (ids_of_directory d) (node_ids ds) in
    let own = count-append id (leaf_ids d.leaves) (d.id ∷ []) in
    let leaves = ap (count_of id) (leaf_ids-append d.leaves (tree_leaves ds))
    ∙ count-append id (leaf_ids d.leaves) (leaf_ids (tree_leaves ds)) in
    let directories = count-append id (d.id ∷ []) (directory_ids ds) in
    omega (arith, front, own, leaves, directories, count_both id ds)

-- the leaves of one directory
pub count_listed : (id : ℕ) (ds : List DirectoryNode) (d : DirectoryNode) → Contains ds d
    → count_of id (leaf_ids d.leaves) ≤ count_of id (leaf_ids (tree_leaves ds))
count_listed id [] d member = absurd (no_member d member)
count_listed id (x ∷ ds) d member =
    let leaves = ap (count_of id) (leaf_ids-append x.leaves (tree_leaves ds))
    ∙ count-append id (leaf_ids x.leaves) (leaf_ids (tree_leaves ds)) in
    elim (member_cases x d ds member) [
      | inl same ↦ let is : count_of id (leaf_ids x.leaves)
          ≡ count_of id (leaf_ids d.leaves) = ap (λ (y : DirectoryNode). count_of id (leaf_ids y.leaves)) same in omega (arith, leaves, is)
      | inr later ↦ omega (arith, leaves, count_listed id ds d later)
    ]
