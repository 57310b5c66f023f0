use Rattle.std.proofs.Common.{◌≡◌, ℕ, ◌<◌, ◌≤◌, length, take, drop, true, false, sym, ◌∙◌, subst, Option, Some}
use Rattle.std.specs.Prelude.{Contains}
use Rattle.fb_search.specs.Places.{probe_of}
use Rattle.fb_search.proofs.Below.{place_of-le-length}
use Rattle.seg_tree.specs.Nodes.{LeafNode}
use Rattle.seg_merge.specs.Merged.{goes_before_leaf}
use Rattle.seg_merge.proofs.Ranges.{begins_some, goes_front, goes_behind}
use Rattle.seg_merge.proofs.order.before_leaf.Goals as goal

pub returns-in-Some-clause-within : goal.returns-in-Some-clause-within
returns-in-Some-clause-within c =
    let ds = c.args.datoms.now in
    subst (λ (n : ℕ). n ≤ length ds) (sym c.place_of_datom.ensures) (place_of-le-length (probe_of c.args.order c.first.result.now) ds)

pub returns-in-Some-clause-some : goal.returns-in-Some-clause-some
returns-in-Some-clause-some c = λ leaf read.
    let same : c.in-Some.leaf.now ≡ leaf = some_same c.in-Some.leaf.now leaf (c.in-Some.ensures ∙ read) in
    subst (λ (l : LeafNode). 0 < length l.datoms) same (begins_some c.in-Some.leaf.now.datoms c.first.result.now c.first.ensures)
  where
    some_same : (a b : LeafNode) → Some a ≡ Some b → a ≡ b
    some_same a b e = cc

pub returns-in-Some-clause-front : goal.returns-in-Some-clause-front
returns-in-Some-clause-front c =
    let order = c.args.order in
    let ds = c.args.datoms.now in
    let first = c.first.result.now in
    let leaf = c.in-Some.leaf.now in
    λ d there. subst (λ (o : Option LeafNode). goes_before_leaf order o d ≡ true) c.in-Some.ensures
    (goes_front order leaf first ds d c.first.ensures (subst (λ (m : ℕ). Contains (take m ds) d) c.place_of_datom.ensures there))

pub returns-in-Some-clause-back : goal.returns-in-Some-clause-back
returns-in-Some-clause-back c =
    let order = c.args.order in
    let ds = c.args.datoms.now in
    let first = c.first.result.now in
    let leaf = c.in-Some.leaf.now in
    λ d there. subst (λ (o : Option LeafNode). goes_before_leaf order o d ≡ false) c.in-Some.ensures (goes_behind order leaf first ds d
    c.first.ensures c.requires (subst (λ (m : ℕ). Contains (drop m ds) d) c.place_of_datom.ensures there))
