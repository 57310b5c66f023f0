-- What stands of rising datoms is told by neighbours, leaf by leaf.
use Rattle.std.proofs.Common.{◌≡◌, ◌∙◌, Bool, true, false, cond, List, [], ◌∷◌, ◌++◌, refl, ap, arith, Option}
use Rattle.std.specs.List.{slice_get}
use Rattle.std.proofs.lemmas.Bool.{and_parts}
use Rattle.fb_values.specs.declared.facts.Datom.{Datom}
use Rattle.fb_values.specs.declared.indexes.Order.{Order}
use Rattle.fb_values.specs.Rising.{IsRising}
use Rattle.fb_model.specs.Facts.{standing}
use Rattle.live_index.specs.Splits.{stands_at}
use Rattle.live_index.proofs.Sorting.{standing-step}
use Rattle.seg_tree.specs.Nodes.{LeafNode}
use Rattle.seg_tree.specs.Built.{Build}
use Rattle.fact_trees.specs.Facts.{first_or, facts_before, all_stand, with_leaf}

-- ---- all of them

pub facts-all : (ds : List Datom) (next : Option Datom) → all_stand ds next ≡ true → facts_before ds next ≡ ds
facts-all [] next all = refl
facts-all (d ∷ ds) next all =
    let parts = and_parts (stands_at d (first_or ds next)) (all_stand ds next) all in
    rw parts.0 (ap (λ (l : List Datom). d ∷ l) (facts-all ds next parts.1))

-- ---- leaf by leaf

first-append : (ds rest : List Datom) → slice_get (ds ++ rest) 0 ≡ first_or ds (slice_get rest 0)
first-append [] rest = refl
first-append (d ∷ ds) rest = refl

cons_if : (b : Bool) (d : Datom) (xs ys : List Datom) → cond b (d ∷ (xs ++ ys)) (xs ++ ys) ≡ cond b (d ∷ xs) xs ++ ys
cons_if true d xs ys = refl
cons_if false d xs ys = refl

pub standing-append : (order : Order) (ds rest : List Datom) → IsRising order (ds ++ rest)
    → standing (ds ++ rest) ≡ facts_before ds (slice_get rest 0) ++ standing rest
standing-append order [] rest rising = refl
standing-append order (d ∷ ds) rest rising =
    let more = standing-append order ds rest rising.1 in
    let here = standing-step order (d ∷ (ds ++ rest)) 0 d rising (omega arith) in
    here
    ∙ ap (λ (o : Option Datom). cond (stands_at d o) (d ∷ standing (ds ++ rest)) (standing (ds ++ rest))) (first-append ds rest)
    ∙ ap (λ (l : List Datom). cond (stands_at d (first_or ds (slice_get rest 0))) (d ∷ l) l) more
    ∙ cons_if (stands_at d (first_or ds (slice_get rest 0))) d (facts_before ds (slice_get rest 0)) (standing rest)

-- a leaf of which all stands goes in whole
pub with_leaf-all : (build : Build) (leaf : LeafNode) (next : Option Datom) → all_stand leaf.datoms next ≡ true
    → record build { datoms = build.datoms ++ leaf.datoms; kept = build.kept ++ leaf ∷ [] } ≡ with_leaf build leaf next
with_leaf-all build leaf next all = rw (facts-all leaf.datoms next all, all) refl
