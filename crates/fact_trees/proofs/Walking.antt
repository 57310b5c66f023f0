-- The walk over the leaves of a tree.
use Rattle.std.proofs.Common.{◌≡◌, ◌∙◌, ℕ, zero, suc, ◌+◌, ◌<◌, ◌≤◌, List, [], ◌∷◌, ◌++◌, length, take, drop, get_or, map, refl, sym, ap}
use Rattle.std.proofs.Common.{subst, arith, append_assoc, append-nil, Option, Some}
use Rattle.std.specs.Prelude.{Contains}
use Rattle.std.specs.List.{slice_get}
use Rattle.std.specs.Option.{option_map}
use Rattle.std.proofs.lemmas.Option.{slice_get-map, slice_get-get_or}
use Rattle.seg_tree.specs.Chunks.{BeginsWith}
use Rattle.std.proofs.lemmas.List.{take_all}
use Rattle.fb_values.specs.declared.facts.Datom.{Datom}
use Rattle.fb_values.specs.declared.indexes.Order.{Order}
use Rattle.fb_values.specs.Rising.{IsRising}
use Rattle.fb_model.specs.Facts.{standing}
use Rattle.fb_search.proofs.Ends.{rising-append_right}
use Rattle.live_index.proofs.Members.{contains_head, contains_tail}
use Rattle.seg_tree.specs.Nodes.{LeafNode, DirectoryNode, leaf_datoms, tree_datoms, tree_leaves}
use Rattle.seg_tree.specs.Ids.{node_ids, next_above, AreNumbered}
use Rattle.seg_tree.specs.Built.{Build, IsBuilt}
use Rattle.seg_tree.proofs.Making.{tree_datoms-leaves}
use Rattle.fact_trees.specs.Facts.{facts_before, with_leaf, all_stand}
use Rattle.fact_trees.specs.Trees.{IsOfFacts}
use Rattle.fact_trees.proofs.Neighbours.{standing-append}
use Rattle.fact_trees.proofs.Ids.{RepeatsNone, repeats_none, repeats_more, older_ids, tree_leaf_below}

-- what stands of the leaves up to a place is in the tree in the making, and it keeps some of them
pub record IsMade (first : ℕ) (leaves : List LeafNode) (place : ℕ) (build : Build) : Type 0 where
  pub first_is : build.first ≡ first
  pub facts : build.datoms ++ standing (leaf_datoms (drop place leaves)) ≡ standing (leaf_datoms leaves)
  pub once : RepeatsNone (take place leaves) build.kept

pub made_none : (first : ℕ) (leaves : List LeafNode) → IsMade first leaves 0 (record { first = first; datoms = []; kept = [] })
made_none first leaves = record { first_is = refl; facts = refl; once = repeats_none }

-- ---- a leaf more

drop_at : (leaves : List LeafNode) (k : ℕ) (leaf : LeafNode) → slice_get leaves k ≡ Some leaf → drop k leaves ≡ leaf ∷ drop (k + 1) leaves
drop_at [] k leaf read = absurd (cc)
drop_at (l ∷ leaves) zero leaf read = let same : l ≡ leaf = cc in ap (λ x. x ∷ leaves) same
drop_at (l ∷ leaves) (suc k) leaf read = let one : suc k + 1 ≡ suc (k + 1) = omega arith in rw one (drop_at leaves k leaf read)

take_at : (leaves : List LeafNode) (k : ℕ) (leaf : LeafNode) → slice_get leaves k ≡ Some leaf
    → take (k + 1) leaves ≡ take k leaves ++ leaf ∷ []
take_at [] k leaf read = absurd (cc)
take_at (l ∷ leaves) zero leaf read = let same : l ≡ leaf = cc in ap (λ x. x ∷ []) same
take_at (l ∷ leaves) (suc k) leaf read =
    let one : suc k + 1 ≡ suc (k + 1) = omega arith in
    rw one (ap (λ ls. l ∷ ls) (take_at leaves k leaf read))

drop_past : (leaves : List LeafNode) (k : ℕ) → length leaves ≤ k → drop k leaves ≡ []
drop_past [] zero past = refl
drop_past [] (suc k) past = refl
drop_past (l ∷ leaves) zero past = absurd (omega arith)
drop_past (l ∷ leaves) (suc k) past = drop_past leaves k (omega arith)

rising-drop : (order : Order) (leaves : List LeafNode) (k : ℕ) → IsRising order (leaf_datoms leaves)
    → IsRising order (leaf_datoms (drop k leaves))
rising-drop order leaves zero rising = rising
rising-drop order [] (suc k) rising = tt
rising-drop order (l ∷ leaves) (suc k) rising = rising-drop order leaves k (rising-append_right order l.datoms (leaf_datoms leaves) rising)

pub made_next : (order : Order) (first : ℕ) (leaves : List LeafNode) (place : ℕ) (build new : Build) (leaf : LeafNode) (next : Option Datom)
    → IsRising order (leaf_datoms leaves) → slice_get leaves place ≡ Some leaf
    → next ≡ slice_get (leaf_datoms (drop (place + 1) leaves)) 0 → new ≡ with_leaf build leaf next → IsMade first leaves place build
    → IsMade first leaves (place + 1) new
made_next order first leaves place build new leaf next rising read next_is is made =
    let behind = leaf_datoms (drop (place + 1) leaves) in
    let at = drop_at leaves place leaf read in
    let here : IsRising order (leaf.datoms ++ behind) =
    subst (λ (ls : List LeafNode). IsRising order (leaf_datoms ls)) at (rising-drop order leaves place rising) in
    let split : standing (leaf_datoms (drop place leaves)) ≡ facts_before leaf.datoms next ++ standing behind =
    ap (λ (ls : List LeafNode). standing (leaf_datoms ls)) at ∙ standing-append order leaf.datoms behind here
    ∙ ap (λ (o : Option Datom). facts_before leaf.datoms o ++ standing behind) (sym next_is) in
    subst (IsMade first leaves (place + 1)) (sym is) (record {
      first_is = made.first_is;
      facts = append_assoc build.datoms (facts_before leaf.datoms next) (standing behind)
          ∙ ap (λ (ds : List Datom). build.datoms ++ ds) (sym split) ∙ made.facts;
      once = subst (λ (ls : List LeafNode). RepeatsNone ls (with_leaf build leaf next).kept) (sym (take_at leaves place leaf read))
          (repeats_more (take place leaves) build.kept leaf (all_stand leaf.datoms next) made.once);
    })

contains_at : (leaves : List LeafNode) (k : ℕ) (leaf : LeafNode) → slice_get leaves k ≡ Some leaf → Contains leaves leaf
contains_at [] k leaf read = absurd (cc)
contains_at (l ∷ leaves) zero leaf read = let same : l ≡ leaf = cc in contains_head l leaves leaf same
contains_at (l ∷ leaves) (suc k) leaf read = contains_tail l leaves leaf (contains_at leaves k leaf read)

-- the leaf is older than the tree in the making
pub older_leaf : (tree : List DirectoryNode) (first : ℕ) (leaves : List LeafNode) (place : ℕ) (build : Build) (leaf : LeafNode)
    → leaves ≡ tree_leaves tree → next_above (node_ids tree) ≤ first → slice_get leaves place ≡ Some leaf
    → IsMade first leaves place build → leaf.id < build.first
older_leaf tree first leaves place build leaf is fresh read made =
    let below = tree_leaf_below tree leaf (subst (λ (ls : List LeafNode). Contains ls leaf) is (contains_at leaves place leaf read)) in
    omega (arith, below, made.first_is)

-- ---- all of them

pub leaves_rise : (order : Order) (tree : List DirectoryNode) (leaves : List LeafNode) → leaves ≡ tree_leaves tree
    → IsRising order (tree_datoms tree) → IsRising order (leaf_datoms leaves)
leaves_rise order tree leaves is rising =
    subst (λ (ls : List LeafNode). IsRising order (leaf_datoms ls)) (sym is) (subst (IsRising order) (tree_datoms-leaves tree) rising)

pub made_whole : (older : List DirectoryNode) (first : ℕ) (leaves : List LeafNode) (place : ℕ) (build : Build)
    (tree : List DirectoryNode) (next : ℕ) → leaves ≡ tree_leaves older → length leaves ≤ place
    → IsMade first leaves place build → IsBuilt build tree next → IsOfFacts older first tree next
made_whole older first leaves place build tree next is past made built =
    let none : standing (leaf_datoms (drop place leaves)) ≡ [] =
    ap (λ (ls : List LeafNode). standing (leaf_datoms ls)) (drop_past leaves place past) in
    let once : RepeatsNone (tree_leaves older) build.kept =
    subst (λ (ls : List LeafNode). RepeatsNone ls build.kept) (take_all place leaves past ∙ is) made.once in
    record {
      datoms = built.datoms ∙ sym (append-nil build.datoms) ∙ ap (λ (ds : List Datom). build.datoms ++ ds) (sym none) ∙ made.facts
          ∙ ap (λ (ls : List LeafNode). standing (leaf_datoms ls)) is ∙ ap standing (sym (tree_datoms-leaves older));
      behind = omega (arith, built.behind, made.first_is);
      small = built.small;
      new = subst (λ (n : ℕ). AreNumbered n next (node_ids tree)) made.first_is built.new;
      old = λ id less. older_ids older tree build next built once id (omega (arith, less, made.first_is));
    }

begins : (ds rest : List Datom) (d : Datom) → BeginsWith ds d → Some d ≡ slice_get (ds ++ rest) 0
begins [] rest d first = absurd first
begins (x ∷ ds) rest d first = ap (λ y. Some y) (sym first)

pub first_at : (leaves : List LeafNode) (k : ℕ) (leaf : LeafNode) (d : Datom) → slice_get leaves k ≡ Some leaf → BeginsWith leaf.datoms d
    → Some d ≡ slice_get (leaf_datoms (drop k leaves)) 0
first_at leaves k leaf d read first =
    begins leaf.datoms (leaf_datoms (drop (k + 1) leaves)) d first
    ∙ ap (λ (ls : List LeafNode). slice_get (leaf_datoms ls) 0) (sym (drop_at leaves k leaf read))

pub read_at : {X Y : Type 0} (now : X → Y) (xs : List X) (k : ℕ) (x : X) → k < length xs → x ≡ get_or xs k x
    → slice_get (map now xs) k ≡ Some (now x)
read_at now xs k x within is =
    slice_get-map now xs k ∙ ap (option_map now) (slice_get-get_or xs k x within) ∙ ap (λ y. Some (now y)) (sym is)
