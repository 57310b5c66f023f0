-- The ids of four trees that are numbered one behind the other and keep older leaves.
use Rattle.std.proofs.Common.{◌≡◌, ◌∙◌, ℕ, zero, suc, ◌+◌, ◌-◌, ◌<◌, ◌≤◌, ◌⊎◌, inl, inr, Bool, true, false, cond, List, [], ◌∷◌, ◌++◌}
use Rattle.std.proofs.Common.{length, refl, sym, ap, arith, length-append}
use Rattle.std.specs.Prelude.{Contains, filter, ◌==◌}
use Rattle.std.specs.List.{range_with_len}
use Rattle.std.proofs.lemmas.Bool.{cases_lt, cases_eq, lt-ltb, le-leb, eq-eqb, ne_eqb}
use Rattle.std.proofs.lemmas.List.{map-append}
use Rattle.std.proofs.lemmas.List.Elements.{filter-append, Contains-append_cases}
use Rattle.live_index.proofs.Members.{contains-cons, contains_none}
use Rattle.seg_tree.specs.Nodes.{LeafNode, DirectoryNode, tree_leaves}
use Rattle.seg_tree.specs.Ids.{leaf_ids, directory_ids, node_ids, ids_of_four, next_above, is_new, is_old, count_of, AreDistinct}
use Rattle.seg_tree.specs.Built.{Build, IsBuilt}
use Rattle.seg_tree.specs.Indexes.{root_ids}
use Rattle.seg_tree.specs.declared.roots.Roots.{Roots}
use Rattle.seg_tree.proofs.Making.{next_above_append}
use Rattle.seg_tree.proofs.Rows.{count_range}
use Rattle.fact_trees.specs.Trees.{IsOfFacts}

-- ---- how often an id stands there

count-append : (id : ℕ) (xs ys : List ℕ) → count_of id (xs ++ ys) ≡ count_of id xs + count_of id ys
count-append id xs ys = ap length (filter-append (λ x. x == id) xs ys) ∙ length-append (filter (λ x. x == id) xs) (filter (λ x. x == id) ys)

-- a filter that lets the id through leaves its count
count-filter : (p : ℕ → Bool) (id : ℕ) (ids : List ℕ) → p id ≡ true → count_of id (filter p ids) ≡ count_of id ids
count-filter p id [] lets = refl
count-filter p id (x ∷ ids) lets =
    let rest = count-filter p id ids lets in
    elim (cases_eq x id) [
      | inl same ↦ let here : p x ≡ true = ap p same ∙ lets in rw (here, eq-eqb x id same) (ap suc rest)
      | inr apart ↦ let none = ne_eqb x id apart in
          elim (p x) as (λ b. count_of id (cond b (x ∷ filter p ids) (filter p ids)) ≡ count_of id (x ∷ ids)) [
            | true ↦ rw none rest
            | false ↦ rw none rest
          ]
    ]

count_leaves : (id : ℕ) (tree : List DirectoryNode) → count_of id (leaf_ids (tree_leaves tree)) ≤ count_of id (node_ids tree)
count_leaves id [] = omega arith
count_leaves id (d ∷ tree) =
    let here = count-append id (leaf_ids d.leaves) (d.id ∷ []) in
    let whole = count-append id (directory_ids d) (node_ids tree) in
    let leaves =
    ap (count_of id) (map-append (λ (leaf : LeafNode). leaf.id) d.leaves (tree_leaves tree))
    ∙ count-append id (leaf_ids d.leaves) (leaf_ids (tree_leaves tree)) in
    omega (arith, here, whole, leaves, count_leaves id tree)

count_four : (id : ℕ) (es bs vs rs : List ℕ)
    → count_of id (((es ++ bs) ++ vs) ++ rs) ≡ ((count_of id es + count_of id bs) + count_of id vs) + count_of id rs
count_four id es bs vs rs =
    let one = count-append id es bs in
    let two = count-append id (es ++ bs) vs in
    let three = count-append id ((es ++ bs) ++ vs) rs in
    omega (arith, one, two, three)

-- a number behind a row is not in it
count_behind : (id a n : ℕ) → a + n ≤ id → count_of id (range_with_len a n) ≡ 0
count_behind id a zero past = refl
count_behind id a (suc n) past = rw (ne_eqb a id (λ e. omega (arith, e, past))) (count_behind id (a + 1) n (omega arith))

-- an id that is not below the next one is not there
count_above : (ids : List ℕ) (id : ℕ) → next_above ids ≤ id → count_of id ids ≡ 0
count_above [] id above = refl
count_above (n ∷ ids) id above = rw (ne_eqb n id (λ e. omega (arith, e, above))) (count_above ids id (omega arith))

-- ---- leaves that were kept

-- no id stands more often among the kept leaves than among the older ones
abbrev pub RepeatsNone : List LeafNode → List LeafNode → Type 0
RepeatsNone old kept = (id : ℕ) → count_of id (leaf_ids kept) ≤ count_of id (leaf_ids old)

pub repeats_none : RepeatsNone [] []
repeats_none id = omega arith

pub repeats_more : (old kept : List LeafNode) (leaf : LeafNode) (b : Bool) → RepeatsNone old kept
    → RepeatsNone (old ++ leaf ∷ []) (cond b (kept ++ leaf ∷ []) kept)
repeats_more old kept leaf true none id =
    let whole = ap (count_of id) (map-append (λ (l : LeafNode). l.id) old (leaf ∷ [])) ∙ count-append id (leaf_ids old) (leaf.id ∷ []) in
    let is = ap (count_of id) (map-append (λ (l : LeafNode). l.id) kept (leaf ∷ [])) ∙ count-append id (leaf_ids kept) (leaf.id ∷ []) in
    omega (arith, whole, is, none id)
repeats_more old kept leaf false none id =
    let whole = ap (count_of id) (map-append (λ (l : LeafNode). l.id) old (leaf ∷ [])) ∙ count-append id (leaf_ids old) (leaf.id ∷ []) in
    omega (arith, whole, none id)

-- below the first new id an id stands as often as among the kept leaves
pub older_ids : (older tree : List DirectoryNode) (build : Build) (next : ℕ) → IsBuilt build tree next
    → RepeatsNone (tree_leaves older) build.kept → (id : ℕ) → id < build.first
    → count_of id (node_ids tree) ≤ count_of id (node_ids older)
older_ids older tree build next built none id less =
    let same = sym (count-filter (is_old build.first) id (node_ids tree) (lt-ltb id build.first less)) ∙ ap (count_of id) built.old in
    omega (arith, same, none id, count_leaves id older)

leaf_below : (leaves : List LeafNode) (leaf : LeafNode) (more : List ℕ) → Contains leaves leaf
    → leaf.id < next_above (leaf_ids leaves ++ more)
leaf_below [] leaf more there = absurd (contains_none leaf there)
leaf_below (l ∷ leaves) leaf more there =
    elim (contains-cons l leaves leaf there) [
      | inl same ↦ let e : l.id ≡ leaf.id = ap (λ (x : LeafNode). x.id) same in omega (arith, e)
      | inr behind ↦ omega (arith, leaf_below leaves leaf more behind)
    ]

pub tree_leaf_below : (tree : List DirectoryNode) (leaf : LeafNode) → Contains (tree_leaves tree) leaf
    → leaf.id < next_above (node_ids tree)
tree_leaf_below [] leaf there = absurd (contains_none leaf there)
tree_leaf_below (d ∷ tree) leaf there =
    let e = next_above_append (directory_ids d) (node_ids tree) in
    elim (Contains-append_cases d.leaves (tree_leaves tree) leaf there) [
      | inl l ↦ omega (arith, e, leaf_below d.leaves leaf (d.id ∷ []) l)
      | inr r ↦ omega (arith, e, tree_leaf_below tree leaf r)
    ]

-- ---- four trees

-- an id that no older node has is at most once in a tree, and only among the tree's new ones
count_new : (older tree : List DirectoryNode) (first next id : ℕ) → IsOfFacts older first tree next → next_above (node_ids older) ≤ id
    → (count_of id (node_ids tree) ≡ 0) ⊎ ((first ≤ id) × (id < next) × (count_of id (node_ids tree) ≤ 1))
count_new older tree first next id facts above =
    elim (cases_lt id first) [
      | inl less ↦ inl (omega (arith, facts.old id less, count_above (node_ids older) id above))
      | inr up ↦
          let same = sym (count-filter (is_new first) id (node_ids tree) (le-leb first id up)) ∙ ap (count_of id) facts.new in
          elim (cases_lt id next) [
            | inl less ↦ inr (up, less, omega (arith, same, count_range id first (next - first)))
            | inr behind ↦ inl (same ∙ count_behind id first (next - first) (omega (arith, facts.behind)))
          ]
    ]

pub four_distinct : (first second third fourth next : ℕ) (es bs vs rs eavt aevt avet vaet : List DirectoryNode)
    → IsOfFacts es first eavt second → IsOfFacts bs second aevt third → IsOfFacts vs third avet fourth → IsOfFacts rs fourth vaet next
    → next_above (ids_of_four es bs vs rs) ≤ first → AreDistinct (ids_of_four es bs vs rs) → AreDistinct (ids_of_four eavt aevt avet vaet)
four_distinct first second third fourth next es bs vs rs eavt aevt avet vaet e b v r above distinct id =
    let new = count_four id (node_ids eavt) (node_ids aevt) (node_ids avet) (node_ids vaet) in
    let old = count_four id (node_ids es) (node_ids bs) (node_ids vs) (node_ids rs) in
    elim (cases_lt id first) [
      | inl less ↦
          let below_b : id < second = omega (arith, e.behind) in
          let below_v : id < third = omega (arith, b.behind) in
          let below_r : id < fourth = omega (arith, v.behind) in
          omega (arith, new, old, distinct id, e.old id less, b.old id below_b, v.old id below_v, r.old id below_r)
      | inr up ↦
          let one = next_above_append (node_ids es) (node_ids bs) in
          let two = next_above_append (node_ids es ++ node_ids bs) (node_ids vs) in
          let three = next_above_append ((node_ids es ++ node_ids bs) ++ node_ids vs) (node_ids rs) in
          let in_e = count_new es eavt first second id e (omega (arith, one, two, three)) in
          let in_b = count_new bs aevt second third id b (omega (arith, one, two, three)) in
          let in_v = count_new vs avet third fourth id v (omega (arith, one, two, three)) in
          let in_r = count_new rs vaet fourth next id r (omega (arith, one, two, three)) in
          omega (arith, new, in_e, in_b, in_v, in_r)
    ]

-- the number that is above the ids of four trees is above those of each
pub record AreBelow (roots : Roots) : Type 0 where
  pub eavt : next_above (node_ids roots.eavt) ≤ next_above (root_ids roots)
  pub aevt : next_above (node_ids roots.aevt) ≤ next_above (root_ids roots)
  pub avet : next_above (node_ids roots.avet) ≤ next_above (root_ids roots)
  pub vaet : next_above (node_ids roots.vaet) ≤ next_above (root_ids roots)

pub all_below : (roots : Roots) → AreBelow roots
all_below roots =
    let es = node_ids roots.eavt in
    let bs = node_ids roots.aevt in
    let vs = node_ids roots.avet in
    let rs = node_ids roots.vaet in
    let one = next_above_append es bs in
    let two = next_above_append (es ++ bs) vs in
    let three = next_above_append ((es ++ bs) ++ vs) rs in
    record {
      eavt = omega (arith, one, two, three);
      aevt = omega (arith, one, two, three);
      avet = omega (arith, one, two, three);
      vaet = omega (arith, one, two, three);
    }
