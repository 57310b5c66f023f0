-- No two nodes of the merged trees have one id.
use Rattle.std.proofs.Common.{◌≡◌, ℕ, suc, ◌+◌, ◌<◌, ◌≤◌, ◌⊎◌, Bool, true, false, cond, List, [], ◌∷◌, ◌++◌, length, refl, sym, ap, ◌∙◌}
use Rattle.std.proofs.Common.{inl, inr, arith, length-append}
use Rattle.std.specs.Prelude.{filter, ◌==◌}
use Rattle.std.proofs.lemmas.Bool.{cases_lt, cases_eq, lt-ltb, le-leb, eq-eqb, ne_eqb}
use Rattle.std.proofs.lemmas.List.{map-append}
use Rattle.std.proofs.lemmas.List.Elements.{filter-append}
use Rattle.fb_values.specs.declared.indexes.Order.{Order}
use Rattle.fb_values.specs.declared.indexes.Order.TheVariants.{Eavt, Aevt, Avet, Vaet}
use Rattle.seg_tree.specs.Nodes.{LeafNode, DirectoryNode, tree_leaves}
use Rattle.seg_tree.specs.Ids.{leaf_ids, directory_ids, node_ids, ids_of_four, is_new, is_old, IsInRow, count_of, AreDistinct}
use Rattle.seg_tree.specs.Indexes.{tree_in}
use Rattle.seg_tree.specs.declared.roots.Roots.{Roots}
use Rattle.seg_tree.proofs.Rows.{count_range}
use Rattle.seg_merge.specs.Plans.{RepeatsNone}
use Rattle.seg_merge.specs.Four.{plan_in, kept_ids}
use Rattle.seg_merge.specs.declared.merge.Plans.{Plans}

count-append : (id : ℕ) (xs ys : List ℕ) → count_of id (xs ++ ys) ≡ count_of id xs + count_of id ys
count-append id xs ys = ap length (filter-append (λ x. x == id) xs ys) ∙ length-append (filter (λ x. x == id) xs) (filter (λ x. x == id) ys)

-- a filter that lets the id through leaves its count
count_filter : (p : ℕ → Bool) (id : ℕ) (ids : List ℕ) → p id ≡ true → count_of id (filter p ids) ≡ count_of id ids
count_filter p id [] lets = refl
count_filter p id (x ∷ ids) lets =
    let rest = count_filter p id ids lets in
    elim (cases_eq x id) [
      | inl same ↦ let here : p x ≡ true = ap p same ∙ lets in rw (here, eq-eqb x id same) (ap suc rest)
      | inr apart ↦ let none = ne_eqb x id apart in
          elim (p x) as (λ b. count_of id (cond b (x ∷ filter p ids) (filter p ids)) ≡ count_of id (x ∷ ids)) [
            | true ↦ rw none rest
            | false ↦ rw none rest
          ]
    ]

count_leaves : (id : ℕ) (tree : List DirectoryNode) → count_of id (leaf_ids (tree_leaves tree)) ≤ count_of id (node_ids tree)
count_leaves id [] = omega arith
count_leaves id (d ∷ tree) =
    let here = count-append id (leaf_ids d.leaves) (d.id ∷ []) in
    let whole = count-append id (directory_ids d) (node_ids tree) in
    let leaves =
    ap (count_of id) (map-append (λ (leaf : LeafNode). leaf.id) d.leaves (tree_leaves tree))
    ∙ count-append id (leaf_ids d.leaves) (leaf_ids (tree_leaves tree)) in
    omega (arith, here, whole, leaves, count_leaves id tree)

count_four : (id : ℕ) (es bs vs rs : List ℕ)
    → count_of id (((es ++ bs) ++ vs) ++ rs) ≡ ((count_of id es + count_of id bs) + count_of id vs) + count_of id rs
count_four id es bs vs rs =
    let one = count-append id es bs in
    let two = count-append id (es ++ bs) vs in
    let three = count-append id ((es ++ bs) ++ vs) rs in
    omega (arith, one, two, three)

-- what a plan keeps it has from the older tree, and each leaf once
pub kept_distinct : (roots : Roots) (plans : Plans)
    → ((order : Order) → RepeatsNone (tree_leaves (tree_in roots order)) (plan_in plans order).kept) → AreDistinct (kept_ids plans)
kept_distinct roots plans none id =
    let new = count_four id (leaf_ids plans.eavt.kept) (leaf_ids plans.aevt.kept) (leaf_ids plans.avet.kept) (leaf_ids plans.vaet.kept) in
    let old = count_four id (node_ids roots.eavt) (node_ids roots.aevt) (node_ids roots.avet) (node_ids roots.vaet) in
    omega (
      arith,
      new,
      old,
      roots.distinct id,
      none Eavt id,
      none Aevt id,
      none Avet id,
      none Vaet id,
      count_leaves id roots.eavt,
      count_leaves id roots.aevt,
      count_leaves id roots.avet,
      count_leaves id roots.vaet,
    )

-- below the first new id an id stands as often as among the kept leaves
count_old : (id first : ℕ) (ids : List ℕ) (kept : List LeafNode) → id < first → filter (is_old first) ids ≡ leaf_ids kept
    → count_of id ids ≡ count_of id (leaf_ids kept)
count_old id first ids kept less old = sym (count_filter (is_old first) id ids (lt-ltb id first less)) ∙ ap (count_of id) old

-- the new ids stand in a row, and the older ones are those of kept leaves
pub four_distinct : (first second third fourth : ℕ) (es bs vs rs : List DirectoryNode) (ek bk vk rk : List LeafNode) → first ≤ second
    → second ≤ third → third ≤ fourth
    → filter (is_old first) (node_ids es) ≡ leaf_ids ek → filter (is_old second) (node_ids bs) ≡ leaf_ids bk
    → filter (is_old third) (node_ids vs) ≡ leaf_ids vk → filter (is_old fourth) (node_ids rs) ≡ leaf_ids rk
    → IsInRow first (ids_of_four es bs vs rs) → AreDistinct (((leaf_ids ek ++ leaf_ids bk) ++ leaf_ids vk) ++ leaf_ids rk)
    → AreDistinct (ids_of_four es bs vs rs)
four_distinct first second third fourth es bs vs rs ek bk vk rk a b c eo bo vo ro row once id =
    elim (cases_lt id first) [
      | inl less ↦
          let nodes = count_four id (node_ids es) (node_ids bs) (node_ids vs) (node_ids rs) in
          let kept = count_four id (leaf_ids ek) (leaf_ids bk) (leaf_ids vk) (leaf_ids rk) in
          omega (
            arith,
            nodes,
            kept,
            once id,
            count_old id first (node_ids es) ek less eo,
            count_old id second (node_ids bs) bk (omega arith) bo,
            count_old id third (node_ids vs) vk (omega arith) vo,
            count_old id fourth (node_ids rs) rk (omega arith) ro,
          )
      | inr up ↦
          let ids = ids_of_four es bs vs rs in
          let same = sym (count_filter (is_new first) id ids (le-leb first id up)) ∙ ap (count_of id) row in
          omega (arith, same, count_range id first (length (filter (is_new first) ids)))
    ]

-- ---- one leaf more

pub repeats_none : RepeatsNone [] []
repeats_none id = omega arith

pub repeats_more : (old kept new : List LeafNode) (leaf : LeafNode) → (new ≡ kept) ⊎ (new ≡ kept ++ leaf ∷ []) → RepeatsNone old kept
    → RepeatsNone (old ++ leaf ∷ []) new
repeats_more old kept new leaf same none id =
    let whole = ap (count_of id) (map-append (λ (l : LeafNode). l.id) old (leaf ∷ [])) ∙ count-append id (leaf_ids old) (leaf.id ∷ []) in
    elim same [
      | inl e ↦ let is = ap (λ (ls : List LeafNode). count_of id (leaf_ids ls)) e in omega (arith, whole, is, none id)
      | inr e ↦
          let is =
          ap (λ (ls : List LeafNode). count_of id (leaf_ids ls)) e
          ∙ ap (count_of id) (map-append (λ (l : LeafNode). l.id) kept (leaf ∷ []))
          ∙ count-append id (leaf_ids kept) (leaf.id ∷ []) in
          omega (arith, whole, is, none id)
    ]
