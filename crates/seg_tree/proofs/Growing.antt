-- A tree in the making, after one leaf or one directory more.
use Rattle.std.proofs.Common.{◌≡◌, ℕ, zero, suc, ◌+◌, ◌-◌, ◌<◌, ◌≤◌, ◌^◌, Bool, true, false, cond, List, [], ◌∷◌, ◌++◌, length, refl, sym}
use Rattle.std.proofs.Common.{ap, ◌∙◌, arith, append_assoc, append-nil, inl, inr}
use Rattle.std.specs.Prelude.{filter}
use Rattle.std.specs.List.{range_with_len}
use Rattle.std.proofs.lemmas.List.FromFn.{length-range_with_len}
use Rattle.std.proofs.lemmas.Bool.{cases_lt, lt-ltb, le-ltb, le-leb, lt-leb}
use Rattle.std.proofs.lemmas.List.{map-append}
use Rattle.std.proofs.lemmas.List.Elements.{filter-append}
use Rattle.fb_values.specs.declared.facts.Datom.{Datom}
use Rattle.seg_tree.specs.Nodes.{LeafNode, DirectoryNode, leaf_datoms, tree_leaves}
use Rattle.seg_tree.specs.Ids.{leaf_ids, node_ids, is_new, is_old, AreNumbered, old_leaves}
use Rattle.seg_tree.specs.Built.{leaves_in, ids_in, build_of, IsGrowing, IsBuilt}
use Rattle.seg_tree.proofs.Making.{node_ids-push, tree_leaves-push, leaf_datoms-append, tree_datoms-leaves}

range-push : (a n : ℕ) → range_with_len a n ++ (a + n) ∷ [] ≡ range_with_len a (suc n)
range-push a zero = ap (λ k. k ∷ []) (omega arith)
range-push a (suc n) =
    ap (λ k. a ∷ (range_with_len (a + 1) n ++ k ∷ [])) (omega arith) ∙ ap (λ ks. a ∷ ks) (range-push (a + 1) n)

ids_leaf : (ds : List DirectoryNode) (ls : List LeafNode) (leaf : LeafNode) → ids_in ds (ls ++ leaf ∷ []) ≡ ids_in ds ls ++ leaf.id ∷ []
ids_leaf ds ls leaf =
    ap (λ ids. node_ids ds ++ ids) (map-append (λ (l : LeafNode). l.id) ls (leaf ∷ []))
    ∙ sym (append_assoc (node_ids ds) (leaf_ids ls) (leaf.id ∷ []))

leaves_leaf : (ds : List DirectoryNode) (ls : List LeafNode) (leaf : LeafNode)
    → leaves_in ds (ls ++ leaf ∷ []) ≡ leaves_in ds ls ++ leaf ∷ []
leaves_leaf ds ls leaf = sym (append_assoc (tree_leaves ds) ls (leaf ∷ []))

ids_directory : (ds : List DirectoryNode) (ls : List LeafNode) (id : ℕ)
    → ids_in (ds ++ record { id = id; leaves = ls } ∷ []) [] ≡ ids_in ds ls ++ id ∷ []
ids_directory ds ls id =
    append-nil (node_ids (ds ++ record { id = id; leaves = ls } ∷ []))
    ∙ node_ids-push ds (record { id = id; leaves = ls })
    ∙ sym (append_assoc (node_ids ds) (leaf_ids ls) (id ∷ []))

leaves_directory : (ds : List DirectoryNode) (ls : List LeafNode) (id : ℕ)
    → leaves_in (ds ++ record { id = id; leaves = ls } ∷ []) [] ≡ leaves_in ds ls
leaves_directory ds ls id =
    append-nil (tree_leaves (ds ++ record { id = id; leaves = ls } ∷ [])) ∙ tree_leaves-push ds (record { id = id; leaves = ls })

-- one element more
filter-push : {X : Type 0} (p : X → Bool) (xs : List X) (x : X) (b : Bool) → p x ≡ b
    → filter p (xs ++ x ∷ []) ≡ filter p xs ++ cond b (x ∷ []) []
filter-push p xs x b is = filter-append p xs (x ∷ []) ∙ ap (λ q. filter p xs ++ cond q (x ∷ []) []) is

old_id : (first id : ℕ) → id < first → is_old first id ≡ true
old_id first id below = lt-ltb id first below

not_old : (first id : ℕ) → first ≤ id → is_old first id ≡ false
not_old first id up = le-ltb id first up

new_id : (first id : ℕ) → first ≤ id → is_new first id ≡ true
new_id first id up = le-leb first id up

not_new : (first id : ℕ) → id < first → is_new first id ≡ false
not_new first id below = lt-leb first id below

numbered_more : (first next : ℕ) (ids : List ℕ) → first ≤ next → AreNumbered first next ids
    → AreNumbered first (next + 1) (ids ++ next ∷ [])
numbered_more first next ids behind numbered =
    let e : next + 1 - first ≡ suc (next - first) = omega arith in
    let at : first + (next - first) ≡ next = omega arith in
    filter-push (is_new first) ids next true (new_id first next behind)
    ∙ ap (λ (ns : List ℕ). ns ++ next ∷ []) numbered
    ∙ ap (λ k. range_with_len first (next - first) ++ k ∷ []) (sym at)
    ∙ range-push first (next - first)
    ∙ ap (range_with_len first) (sym e)

old_more : (first next : ℕ) (ids olds : List ℕ) → first ≤ next → filter (is_old first) ids ≡ olds
    → filter (is_old first) (ids ++ next ∷ []) ≡ olds
old_more first next ids olds behind old =
    filter-push (is_old first) ids next false (not_old first next behind) ∙ append-nil (filter (is_old first) ids) ∙ old

-- an older leaf
pub growing_kept : (first next : ℕ) (ds : List DirectoryNode) (ls : List LeafNode) (leaf : LeafNode) → leaf.id < first
    → IsGrowing first next ds ls → IsGrowing first next ds (ls ++ leaf ∷ [])
growing_kept first next ds ls leaf below g = record {
  behind = g.behind;
  small = g.small;
  new =
      ap (filter (is_new first)) (ids_leaf ds ls leaf)
      ∙ filter-push (is_new first) (ids_in ds ls) leaf.id false (not_new first leaf.id below)
      ∙ append-nil (filter (is_new first) (ids_in ds ls))
      ∙ g.new;
  old =
      ap (filter (is_old first)) (ids_leaf ds ls leaf)
      ∙ filter-push (is_old first) (ids_in ds ls) leaf.id true (old_id first leaf.id below)
      ∙ ap (λ ids. ids ++ leaf.id ∷ []) g.old
      ∙ sym (map-append (λ (l : LeafNode). l.id) (old_leaves first (leaves_in ds ls)) (leaf ∷ []))
      ∙ ap leaf_ids (sym (old_kept first ds ls leaf below));
}
  where
    old_kept : (first : ℕ) (ds : List DirectoryNode) (ls : List LeafNode) (leaf : LeafNode) → leaf.id < first
        → old_leaves first (leaves_in ds (ls ++ leaf ∷ [])) ≡ old_leaves first (leaves_in ds ls) ++ leaf ∷ []
    old_kept first ds ls leaf below =
        ap (old_leaves first) (leaves_leaf ds ls leaf)
        ∙ filter-push (λ (l : LeafNode). is_old first l.id) (leaves_in ds ls) leaf true (old_id first leaf.id below)

datoms_leaf : (ds : List DirectoryNode) (ls : List LeafNode) (leaf : LeafNode)
    → leaf_datoms (leaves_in ds (ls ++ leaf ∷ [])) ≡ leaf_datoms (leaves_in ds ls) ++ leaf.datoms
datoms_leaf ds ls leaf =
    ap leaf_datoms (leaves_leaf ds ls leaf)
    ∙ leaf_datoms-append (leaves_in ds ls) (leaf ∷ [])
    ∙ ap (λ more. leaf_datoms (leaves_in ds ls) ++ more) (append-nil leaf.datoms)

pub build_kept : (first : ℕ) (ds : List DirectoryNode) (ls : List LeafNode) (leaf : LeafNode) → leaf.id < first
    → build_of first ds (ls ++ leaf ∷ [])
    ≡ record (build_of first ds ls) {
      datoms = leaf_datoms (leaves_in ds ls) ++ leaf.datoms;
      kept = old_leaves first (leaves_in ds ls) ++ leaf ∷ [];
    }
build_kept first ds ls leaf below = λ i. record {
  first = first;
  datoms = datoms_leaf ds ls leaf i;
  kept = kept i;
}
  where
    kept : old_leaves first (leaves_in ds (ls ++ leaf ∷ [])) ≡ old_leaves first (leaves_in ds ls) ++ leaf ∷ []
    kept =
        ap (old_leaves first) (leaves_leaf ds ls leaf)
        ∙ filter-push (λ (l : LeafNode). is_old first l.id) (leaves_in ds ls) leaf true (old_id first leaf.id below)

-- a new leaf
old_same : (first next : ℕ) (ds : List DirectoryNode) (ls : List LeafNode) (datoms : List Datom) → first ≤ next
    → old_leaves first (leaves_in ds (ls ++ record { id = next; datoms = datoms } ∷ [])) ≡ old_leaves first (leaves_in ds ls)
old_same first next ds ls datoms behind =
    ap (old_leaves first) (leaves_leaf ds ls (record { id = next; datoms = datoms }))
    ∙ filter-push (λ (l : LeafNode). is_old first l.id) (leaves_in ds ls) (record { id = next; datoms = datoms }) false
    (not_old first next behind)
    ∙ append-nil (old_leaves first (leaves_in ds ls))

pub growing_new : (first next : ℕ) (ds : List DirectoryNode) (ls : List LeafNode) (datoms : List Datom) → next < 2 ^ 62
    → IsGrowing first next ds ls → IsGrowing first (next + 1) ds (ls ++ record { id = next; datoms = datoms } ∷ [])
growing_new first next ds ls datoms small g =
    let leaf : LeafNode = record { id = next; datoms = datoms } in
    record {
      behind = omega (arith, g.behind);
      small = omega arith;
      new = ap (filter (is_new first)) (ids_leaf ds ls leaf) ∙ numbered_more first next (ids_in ds ls) g.behind g.new;
      old =
          ap (filter (is_old first)) (ids_leaf ds ls leaf)
          ∙ old_more first next (ids_in ds ls) (leaf_ids (old_leaves first (leaves_in ds ls))) g.behind g.old
          ∙ ap leaf_ids (sym (old_same first next ds ls datoms g.behind));
    }

pub build_new : (first next : ℕ) (ds : List DirectoryNode) (ls : List LeafNode) (datoms : List Datom) → first ≤ next
    → build_of first ds (ls ++ record { id = next; datoms = datoms } ∷ [])
    ≡ record (build_of first ds ls) { datoms = leaf_datoms (leaves_in ds ls) ++ datoms }
build_new first next ds ls datoms behind = λ i. record {
  first = first;
  datoms = datoms_leaf ds ls (record { id = next; datoms = datoms }) i;
  kept = old_same first next ds ls datoms behind i;
}

-- a directory
pub growing_closed : (first next : ℕ) (ds : List DirectoryNode) (ls : List LeafNode) → next < 2 ^ 62 → IsGrowing first next ds ls
    → IsGrowing first (next + 1) (ds ++ record { id = next; leaves = ls } ∷ []) []
growing_closed first next ds ls small g = record {
  behind = omega (arith, g.behind);
  small = omega arith;
  new = ap (filter (is_new first)) (ids_directory ds ls next) ∙ numbered_more first next (ids_in ds ls) g.behind g.new;
  old =
      ap (filter (is_old first)) (ids_directory ds ls next)
      ∙ old_more first next (ids_in ds ls) (leaf_ids (old_leaves first (leaves_in ds ls))) g.behind g.old
      ∙ ap (λ leaves. leaf_ids (old_leaves first leaves)) (sym (leaves_directory ds ls next));
}

pub build_closed : (first next : ℕ) (ds : List DirectoryNode) (ls : List LeafNode)
    → build_of first (ds ++ record { id = next; leaves = ls } ∷ []) [] ≡ build_of first ds ls
build_closed first next ds ls = λ i. record {
  first = first;
  datoms = leaf_datoms (leaves_directory ds ls next i);
  kept = old_leaves first (leaves_directory ds ls next i);
}

-- the end
pub is_built : (first next : ℕ) (ds : List DirectoryNode) → IsGrowing first next ds [] → IsBuilt (build_of first ds []) ds next
is_built first next ds g = record {
  datoms = tree_datoms-leaves ds ∙ ap leaf_datoms (sym (append-nil (tree_leaves ds)));
  behind = g.behind;
  small = g.small;
  new = ap (filter (is_new first)) (sym (append-nil (node_ids ds))) ∙ g.new;
  kept = ap (old_leaves first) (sym (append-nil (tree_leaves ds)));
  old = ap (filter (is_old first)) (sym (append-nil (node_ids ds))) ∙ g.old;
}

pub all_new : (first : ℕ) (ids : List ℕ) → filter (is_old first) ids ≡ [] → filter (is_new first) ids ≡ ids
all_new first [] none = refl
all_new first (id ∷ ids) none =
    elim (cases_lt id first) [
      | inl below ↦ let some : id ∷ filter (is_old first) ids ≡ [] = rw (old_id first id below) at none in absurd (cc)
      | inr up ↦
          let rest : filter (is_old first) ids ≡ [] = rw (not_old first id up) at none in
          rw (new_id first id up) (ap (λ more. id ∷ more) (all_new first ids rest))
    ]

-- without an older leaf all ids are new
pub in_row : (first next : ℕ) (datoms : List Datom) (tree : List DirectoryNode)
    → IsBuilt (record { first = first; datoms = datoms; kept = [] }) tree next
    → node_ids tree ≡ range_with_len first (length (node_ids tree))
in_row first next datoms tree built =
    let is = sym (all_new first (node_ids tree) built.old) ∙ built.new in
    is ∙ ap (range_with_len first) (sym (ap length is ∙ length-range_with_len first (next - first)))
