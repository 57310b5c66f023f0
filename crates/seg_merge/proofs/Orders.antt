-- The plan and the tree of one order, and those of all four.
use Rattle.std.proofs.Common.{◌≡◌, ℕ, ◌-◌, ◌<◌, ◌≤◌, List, ◌++◌, max, sym, ap, ◌∙◌, subst, inl, inr, arith}
use Rattle.std.specs.Prelude.{Contains, IsTrue, filter}
use Rattle.std.specs.List.{All, range_with_len}
use Rattle.std.proofs.lemmas.List.Elements.{All-weaker, Contains-append_left, Contains-append_right, Contains-append_cases}
use Rattle.fb_values.specs.declared.facts.Datom.{Datom}
use Rattle.fb_values.specs.declared.indexes.Order.{Order}
use Rattle.fb_values.specs.declared.indexes.Order.TheVariants.{Eavt, Aevt, Avet, Vaet}
use Rattle.fb_covers.specs.Coverage.{Coverage, StaysIn}
use Rattle.fb_values.specs.Rising.{IsRising}
use Rattle.live_index.specs.Growth.{HasNoTwins, is_held}
use Rattle.live_index.proofs.Members.{from_filter, into_filter}
use Rattle.seg_tree.specs.Nodes.{LeafNode, DirectoryNode, leaf_datoms, tree_datoms, tree_leaves}
use Rattle.seg_tree.specs.Ids.{leaf_ids, node_ids, ids_of_four, next_above, is_new, old_leaves, AreDistinct, IsInRow}
use Rattle.seg_tree.specs.Built.{Build, IsBuilt}
use Rattle.seg_tree.specs.Indexes.{tree_in, root_ids}
use Rattle.seg_tree.specs.declared.roots.Roots.{Roots}
use Rattle.seg_tree.proofs.Making.{tree_datoms-leaves, next_above_append}
use Rattle.seg_merge.specs.Merged.{AreHeld, is_due, due_of, KeepsLeaves}
use Rattle.seg_merge.specs.Plans.{Planned, IsUnion, RepeatsNone}
use Rattle.seg_merge.specs.Merges.{IsPlan}
use Rattle.seg_merge.proofs.Before.{rising-filter}
use Rattle.seg_merge.proofs.Planning.{single_part}
use Rattle.seg_merge.proofs.Numbers.{old_leaves-later, numbered_later, four_in_row, tree_leaf_below}
use Rattle.seg_merge.proofs.Distinct.{four_distinct}

-- ---- one order

pub leaves_rise : (order : Order) (tree : List DirectoryNode) (ls : List LeafNode) → ls ≡ tree_leaves tree
    → IsRising order (tree_datoms tree) → IsRising order (leaf_datoms ls)
leaves_rise order tree ls is rising =
    subst (λ (xs : List LeafNode). IsRising order (leaf_datoms xs)) (sym is) (subst (IsRising order) (tree_datoms-leaves tree) rising)

-- where the index still holds what it held, all of the leaves' datoms are held
pub leaves_held : (order : Order) (held coverage : Coverage) (tree : List DirectoryNode) (ls : List LeafNode) → ls ≡ tree_leaves tree
    → StaysIn order held coverage → AreHeld held order (tree_datoms tree) → AreHeld coverage order (leaf_datoms ls)
leaves_held order held coverage tree ls is stays all =
    subst (AreHeld coverage order) (tree_datoms-leaves tree ∙ ap leaf_datoms (sym is))
    (All-weaker (λ d. IsTrue (is_held held order d)) (λ d. IsTrue (is_held coverage order d)) (λ d. stays d.a) (tree_datoms tree) all)

pub due_rises : (order : Order) (coverage : Coverage) (c : ℕ) (live due : List Datom) → due ≡ due_of coverage c order live
    → IsRising order live → IsRising order due
due_rises order coverage c live due is rising = subst (IsRising order) (sym is) (rising-filter order (is_due coverage c order) live rising)

pub due_single : (order : Order) (coverage : Coverage) (c : ℕ) (tree : List DirectoryNode) (ls : List LeafNode) (live due : List Datom)
    → ls ≡ tree_leaves tree → due ≡ due_of coverage c order live → HasNoTwins (tree_datoms tree ++ live)
    → HasNoTwins (leaf_datoms ls ++ due)
due_single order coverage c tree ls live due ls_is due_is single =
    single_part (tree_datoms tree ++ live) (leaf_datoms ls ++ due) single
    (λ x there. elim (Contains-append_cases (leaf_datoms ls) due x there) [
      | inl a ↦
          Contains-append_left (tree_datoms tree) live x
          (subst (λ (ds : List Datom). Contains ds x) (ap leaf_datoms ls_is ∙ sym (tree_datoms-leaves tree)) a)
      | inr b ↦
          Contains-append_right (tree_datoms tree) live x
          (from_filter (is_due coverage c order) live x (subst (λ (ds : List Datom). Contains ds x) due_is b)).0
    ])

pub plan_is : (order : Order) (coverage : Coverage) (c : ℕ) (tree : List DirectoryNode) (ls : List LeafNode) (live due : List Datom)
    (plan : Planned)
    → ls ≡ tree_leaves tree → due ≡ due_of coverage c order live
    → IsUnion order coverage (leaf_datoms ls) due plan.datoms → All (Contains ls) plan.kept → RepeatsNone ls plan.kept
    → KeepsLeaves order coverage ls due plan.kept → IsPlan order coverage c tree live plan
plan_is order coverage c tree ls live due plan ls_is due_is union older once stays =
    let e : leaf_datoms ls ≡ tree_datoms tree = ap leaf_datoms ls_is ∙ sym (tree_datoms-leaves tree) in
    record {
      merged = record {
        rising = union.rising;
        members = λ d. (
          λ there. elim ((union.members d).0 there) [
            | inl a ↦ inl (subst (λ (ds : List Datom). Contains ds d) e a.0, a.1)
            | inr b ↦ inr (from_filter (is_due coverage c order) live d (subst (λ (ds : List Datom). Contains ds d) due_is b))
          ],
          λ given. elim given [
            | inl a ↦ (union.members d).1 (inl (subst (λ (ds : List Datom). Contains ds d) (sym e) a.0, a.1))
            | inr b ↦
                (union.members d).1
                (inr (subst (λ (ds : List Datom). Contains ds d) (sym due_is) (into_filter (is_due coverage c order) live d b.0 b.1)))
          ],
        );
      };
      older = subst (λ (xs : List LeafNode). All (Contains xs) plan.kept) ls_is older;
      once = subst (λ (xs : List LeafNode). RepeatsNone xs plan.kept) ls_is once;
      stays =
          subst (λ (ds : List Datom). KeepsLeaves order coverage (tree_leaves tree) ds plan.kept) due_is
          (subst (λ (xs : List LeafNode). KeepsLeaves order coverage xs due plan.kept) ls_is stays);
    }

-- the tree of a plan whose ids begin at a later number
pub kept_first : (first later next : ℕ) (plan : Planned) (tree : List DirectoryNode)
    → first ≤ later → All (λ (leaf : LeafNode). leaf.id < first) plan.kept
    → IsBuilt (record { first = later; datoms = plan.datoms; kept = plan.kept }) tree next → old_leaves first (tree_leaves tree) ≡ plan.kept
kept_first first later next plan tree le all built =
    old_leaves-later first later (tree_leaves tree) le (subst (All (λ (leaf : LeafNode). leaf.id < first)) (sym built.kept) all)
    ∙ built.kept

pub ids_first : (first later next : ℕ) (plan : Planned) (tree : List DirectoryNode)
    → first ≤ later → All (λ (leaf : LeafNode). leaf.id < first) plan.kept
    → IsBuilt (record { first = later; datoms = plan.datoms; kept = plan.kept }) tree next
    → filter (is_new first) (node_ids tree) ≡ range_with_len later (next - later)
ids_first first later next plan tree le all built = numbered_later first later next (node_ids tree) plan.kept le built.old all built.new

pub older_than : (first later : ℕ) (leaves : List LeafNode) → first ≤ later → All (λ (leaf : LeafNode). leaf.id < first) leaves
    → All (λ (leaf : LeafNode). leaf.id < later) leaves
older_than first later leaves le all =
    All-weaker (λ (leaf : LeafNode). leaf.id < first) (λ (leaf : LeafNode). leaf.id < later) (λ leaf less. omega (arith, less)) leaves all

-- ---- all four

pub in_each_order : (Q : Order → Type 0) → Q Eavt → Q Aevt → Q Avet → Q Vaet → (order : Order) → Q order
in_each_order Q e a v r Eavt = e
in_each_order Q e a v r Aevt = a
in_each_order Q e a v r Avet = v
in_each_order Q e a v r Vaet = r

abbrev pub build_at : ℕ → Planned → Build
build_at first plan = record { first = first; datoms = plan.datoms; kept = plan.kept }

-- four trees that were built one behind the other
pub record FourBuilt (first second third fourth next : ℕ) (e b v r : Planned) (es bs vs rs : List DirectoryNode) : Type 0 where
  pub eavt : IsBuilt (build_at first e) es second
  pub aevt : IsBuilt (build_at second b) bs third
  pub avet : IsBuilt (build_at third v) vs fourth
  pub vaet : IsBuilt (build_at fourth r) rs next
  pub b_older : All (λ (leaf : LeafNode). leaf.id < first) b.kept
  pub v_older : All (λ (leaf : LeafNode). leaf.id < first) v.kept
  pub r_older : All (λ (leaf : LeafNode). leaf.id < first) r.kept

pub built_in_row : (first second third fourth next : ℕ) (e b v r : Planned) (es bs vs rs : List DirectoryNode)
    → FourBuilt first second third fourth next e b v r es bs vs rs → IsInRow first (ids_of_four es bs vs rs)
built_in_row first second third fourth next e b v r es bs vs rs f =
    let two : first ≤ third = omega (arith, f.eavt.behind, f.aevt.behind) in
    let three : first ≤ fourth = omega (arith, two, f.avet.behind) in
    four_in_row first second third fourth next (node_ids es) (node_ids bs) (node_ids vs)
    (node_ids rs) f.eavt.behind f.aevt.behind f.avet.behind f.vaet.behind f.eavt.new
    (ids_first first second third b bs f.eavt.behind f.b_older f.aevt)
    (ids_first first third fourth v vs two f.v_older f.avet)
    (ids_first first fourth next r rs three f.r_older f.vaet)

pub built_distinct : (first second third fourth next : ℕ) (e b v r : Planned) (es bs vs rs : List DirectoryNode)
    → FourBuilt first second third fourth next e b v r es bs vs rs
    → AreDistinct (((leaf_ids e.kept ++ leaf_ids b.kept) ++ leaf_ids v.kept) ++ leaf_ids r.kept) → AreDistinct (ids_of_four es bs vs rs)
built_distinct first second third fourth next e b v r es bs vs rs f once =
    four_distinct first second third fourth es bs vs rs e.kept b.kept v.kept r.kept f.eavt.behind f.aevt.behind f.avet.behind f.eavt.old
    f.aevt.old f.avet.old f.vaet.old
    (built_in_row first second third fourth next e b v r es bs vs rs f) once

next_in_order : (roots : Roots) (order : Order) → next_above (node_ids (tree_in roots order)) ≤ next_above (root_ids roots)
next_in_order roots order =
    let es = node_ids roots.eavt in
    let bs = node_ids roots.aevt in
    let vs = node_ids roots.avet in
    let rs = node_ids roots.vaet in
    let one = next_above_append es bs in
    let two = next_above_append (es ++ bs) vs in
    let three = next_above_append ((es ++ bs) ++ vs) rs in
    at order one two three
  where
    at : (order : Order)
        → next_above (node_ids roots.eavt ++ node_ids roots.aevt)
        ≡ max (next_above (node_ids roots.eavt)) (next_above (node_ids roots.aevt))
        → next_above ((node_ids roots.eavt ++ node_ids roots.aevt) ++ node_ids roots.avet)
        ≡ max (next_above (node_ids roots.eavt ++ node_ids roots.aevt)) (next_above (node_ids roots.avet))
        → next_above (root_ids roots)
        ≡ max (next_above ((node_ids roots.eavt ++ node_ids roots.aevt) ++ node_ids roots.avet)) (next_above (node_ids roots.vaet))
        → next_above (node_ids (tree_in roots order)) ≤ next_above (root_ids roots)
    at Eavt one two three = omega (arith, one, two, three)
    at Aevt one two three = omega (arith, one, two, three)
    at Avet one two three = omega (arith, one, two, three)
    at Vaet one two three = omega (arith, one, two, three)

pub kept_are_older : (roots : Roots) (first : ℕ) (order : Order) (kept : List LeafNode) → next_above (root_ids roots) ≤ first
    → All (Contains (tree_leaves (tree_in roots order))) kept → All (λ (leaf : LeafNode). leaf.id < first) kept
kept_are_older roots first order kept fresh older =
    All-weaker (Contains (tree_leaves (tree_in roots order))) (λ (leaf : LeafNode). leaf.id < first)
    (λ leaf there. omega (arith, tree_leaf_below (tree_in roots order) leaf there, next_in_order roots order, fresh)) kept older
