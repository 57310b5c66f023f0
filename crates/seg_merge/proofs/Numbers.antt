-- The ids of trees that are numbered one behind the other.
use Rattle.std.proofs.Common.{◌≡◌, ℕ, zero, suc, ◌-◌, ◌<◌, ◌≤◌, List, [], ◌∷◌, ◌++◌, length, refl, sym, ap, ◌∙◌, subst, arith, inl, inr}
use Rattle.std.specs.Prelude.{Contains, filter}
use Rattle.std.specs.List.{All, range_with_len}
use Rattle.std.proofs.lemmas.Bool.{cases_lt, lt-ltb, le-ltb, le-leb, lt-leb}
use Rattle.std.proofs.lemmas.List.Elements.{All-head, All-tail, filter-append, Contains-append_cases}
use Rattle.std.proofs.lemmas.List.FromFn.{length-range_with_len}
use Rattle.live_index.proofs.Members.{contains-cons, contains_none}
use Rattle.seg_tree.specs.Nodes.{LeafNode, DirectoryNode, tree_leaves}
use Rattle.seg_tree.specs.Ids.{leaf_ids, directory_ids, node_ids, next_above, is_new, is_old, AreNumbered, IsInRow, old_leaves}
use Rattle.seg_tree.proofs.Making.{next_above_append}
use Rattle.seg_tree.proofs.Rows.{ranges_join}

-- what is below a later number is below the first one already
pub old_leaves-later : (first later : ℕ) (leaves : List LeafNode) → first ≤ later
    → All (λ (leaf : LeafNode). leaf.id < first) (old_leaves later leaves) → old_leaves first leaves ≡ old_leaves later leaves
old_leaves-later first later [] le all = refl
old_leaves-later first later (leaf ∷ leaves) le all =
    elim (cases_lt leaf.id later) [
      | inl below ↦
          let e = lt-ltb leaf.id later below in
          let here : All (λ (l : LeafNode). l.id < first) (leaf ∷ old_leaves later leaves) = rw e at all in
          let less = All-head (λ (l : LeafNode). l.id < first) leaf (old_leaves later leaves) here in
          let rest =
          old_leaves-later first later leaves le (All-tail (λ (l : LeafNode). l.id < first) leaf (old_leaves later leaves) here) in
          rw (e, lt-ltb leaf.id first less) (ap (λ ls. leaf ∷ ls) rest)
      | inr up ↦
          let e = le-ltb leaf.id later up in
          let up_first : first ≤ leaf.id = omega arith in
          rw (e, le-ltb leaf.id first up_first) (old_leaves-later first later leaves le (rw e at all))
    ]

new_ids-later : (first later : ℕ) (ids : List ℕ) → first ≤ later → All (λ (id : ℕ). id < first) (filter (is_old later) ids)
    → filter (is_new first) ids ≡ filter (is_new later) ids
new_ids-later first later [] le all = refl
new_ids-later first later (id ∷ ids) le all =
    elim (cases_lt id later) [
      | inl below ↦
          let e = lt-ltb id later below in
          let here : All (λ (n : ℕ). n < first) (id ∷ filter (is_old later) ids) = rw e at all in
          let less = All-head (λ (n : ℕ). n < first) id (filter (is_old later) ids) here in
          let rest = new_ids-later first later ids le (All-tail (λ (n : ℕ). n < first) id (filter (is_old later) ids) here) in
          rw (lt-leb first id less, lt-leb later id below) rest
      | inr up ↦
          let e = le-ltb id later up in
          let up_first : first ≤ id = omega arith in
          let rest = new_ids-later first later ids le (rw e at all) in
          rw (le-leb first id up_first, le-leb later id up) (ap (λ ns. id ∷ ns) rest)
    ]

all_ids : (first : ℕ) (leaves : List LeafNode) → All (λ (leaf : LeafNode). leaf.id < first) leaves
    → All (λ (id : ℕ). id < first) (leaf_ids leaves)
all_ids first [] all = λ k d within. absurd (omega arith)
all_ids first (leaf ∷ leaves) all =
    ids_cons first leaf leaves (All-head (λ (l : LeafNode). l.id < first) leaf leaves all)
    (all_ids first leaves (All-tail (λ (l : LeafNode). l.id < first) leaf leaves all))
  where
    ids_cons : (first : ℕ) (leaf : LeafNode) (leaves : List LeafNode) → leaf.id < first → All (λ (id : ℕ). id < first) (leaf_ids leaves)
        → All (λ (id : ℕ). id < first) (leaf.id ∷ leaf_ids leaves)
    ids_cons first leaf leaves less all zero d within = less
    ids_cons first leaf leaves less all (suc k) d within = all k d (omega arith)

-- the new ids of a tree that is numbered from a later number on
pub numbered_later : (first later next : ℕ) (ids : List ℕ) (kept : List LeafNode) → first ≤ later
    → filter (is_old later) ids ≡ leaf_ids kept → All (λ (leaf : LeafNode). leaf.id < first) kept → AreNumbered later next ids
    → filter (is_new first) ids ≡ range_with_len later (next - later)
numbered_later first later next ids kept le old all numbered =
    new_ids-later first later ids le (subst (All (λ (id : ℕ). id < first)) (sym old) (all_ids first kept all)) ∙ numbered

pub in_row_of : (first next : ℕ) (ids : List ℕ) → filter (is_new first) ids ≡ range_with_len first (next - first) → IsInRow first ids
in_row_of first next ids is = is ∙ ap (range_with_len first) (sym (ap length is ∙ length-range_with_len first (next - first)))

-- four lists of ids, each numbered from where the one before ends
pub four_in_row : (first second third fourth next : ℕ) (es bs vs rs : List ℕ) → first ≤ second → second ≤ third → third ≤ fourth
    → fourth ≤ next
    → filter (is_new first) es ≡ range_with_len first (second - first) → filter (is_new first) bs ≡ range_with_len second (third - second)
    → filter (is_new first) vs ≡ range_with_len third (fourth - third) → filter (is_new first) rs ≡ range_with_len fourth (next - fourth)
    → IsInRow first (((es ++ bs) ++ vs) ++ rs)
four_in_row first second third fourth next es bs vs rs a b c d ees eas evs ers =
    in_row_of first next (((es ++ bs) ++ vs) ++ rs)
    (filter-append (is_new first) ((es ++ bs) ++ vs) rs
    ∙ ap (λ ns. ns ++ filter (is_new first) rs) (filter-append (is_new first) (es ++ bs) vs
    ∙ ap (λ ns. ns ++ filter (is_new first) vs) (filter-append (is_new first) es bs ∙ ap (λ ns. ns ++ filter (is_new first) bs) ees
    ∙ ap (λ ns. range_with_len first (second - first) ++ ns) eas ∙ ranges_join first second third a b)
    ∙ ap (λ ns. range_with_len first (third - first) ++ ns) evs ∙ ranges_join first third fourth (omega arith) c)
    ∙ ap (λ ns. range_with_len first (fourth - first) ++ ns) ers
    ∙ ranges_join first fourth next (omega arith) d)

-- ---- ids are below the next one

below_next : (ids : List ℕ) (id : ℕ) → Contains ids id → id < next_above ids
below_next [] id there = absurd (contains_none id there)
below_next (n ∷ ids) id there =
    elim (contains-cons n ids id there) [
      | inl same ↦ omega (arith, same)
      | inr behind ↦ omega (arith, below_next ids id behind)
    ]

leaf_below : (leaves : List LeafNode) (leaf : LeafNode) (more : List ℕ) → Contains leaves leaf
    → leaf.id < next_above (leaf_ids leaves ++ more)
leaf_below [] leaf more there = absurd (contains_none leaf there)
leaf_below (l ∷ leaves) leaf more there =
    elim (contains-cons l leaves leaf there) [
      | inl same ↦ let e : l.id ≡ leaf.id = ap (λ (x : LeafNode). x.id) same in omega (arith, e)
      | inr behind ↦ omega (arith, leaf_below leaves leaf more behind)
    ]

pub tree_leaf_below : (tree : List DirectoryNode) (leaf : LeafNode) → Contains (tree_leaves tree) leaf
    → leaf.id < next_above (node_ids tree)
tree_leaf_below [] leaf there = absurd (contains_none leaf there)
tree_leaf_below (d ∷ tree) leaf there =
    let e = next_above_append (directory_ids d) (node_ids tree) in
    elim (Contains-append_cases d.leaves (tree_leaves tree) leaf there) [
      | inl l ↦ omega (arith, e, leaf_below d.leaves leaf (d.id ∷ []) l)
      | inr r ↦ omega (arith, e, tree_leaf_below tree leaf r)
    ]
