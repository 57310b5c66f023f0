use Rattle.std.proofs.Common.{◌≡◌, ◌∙◌, ◌+◌, ◌<◌, ◌≤◌, List, map, length, drop, ap, arith}
use Rattle.std.specs.List.{slice_get}
use Rattle.std.specs.Option.{option_copied}
use Rattle.std.specs.Arc.{arc_value}
use Rattle.std.specs.declared.sync.Arc.{Arc}
use Rattle.std.specs.declared.alloc.Global.{Global}
use Rattle.std.proofs.lemmas.List.{length-map}
use Rattle.std.proofs.lemmas.Result.{IfOk-weaker}
use Rattle.seg_tree.specs.Nodes.{leaf_datoms}
use Rattle.seg_tree.specs.Built.{IsBuilt}
use Rattle.seg_tree.specs.declared.nodes.Leaf.{Leaf}
use Rattle.fact_trees.specs.Trees.{IsOfFacts}
use Rattle.fact_trees.proofs.Walking.{made_next, made_whole, older_leaf, leaves_rise, read_at}
use Rattle.fact_trees.proofs.facts.tree_of_facts.Goals as goal

pub with_leaf-requires : goal.with_leaf-requires
with_leaf-requires c =
    let items = c.in_ok-leaves.leaves.items in
    let within : c.loop-place.place < length items = omega arith in
    let read = read_at arc_value items c.loop-place.place c.index.result.now within c.index.ensures in
    older_leaf c.args.all.now c.args.first (map arc_value items) c.loop-place.place c.loop-place.facts (arc_value c.index.result.now)
    c.in_ok-leaves.ensures c.requires.fresh read c.loop-place.invariant

pub loop-place-preserved : goal.loop-place-preserved
loop-place-preserved c =
    let order = c.requires.rising.0 in
    let items = c.in_ok-leaves.leaves.items in
    let leaves = map arc_value items in
    let place = c.loop-place.place in
    let within : place < length items = omega arith in
    let read = read_at arc_value items place c.index.result.now within c.index.ensures in
    let rising = leaves_rise order c.args.all.now leaves c.in_ok-leaves.ensures c.requires.rising.1 in
    let next : option_copied c.first_from.result ≡ slice_get (leaf_datoms (drop (place + 1) leaves)) 0 =
    c.first_from.ensures
    ∙ ap (λ (xs : List (Arc Leaf Global)). slice_get (leaf_datoms (drop (place + 1) (map arc_value xs))) 0) c.deref.ensures.value in
    let facts = c.loop-place.facts in
    made_next order c.args.first leaves place facts c.in_ok-facts.facts (arc_value c.index.result.now) (option_copied c.first_from.result)
    rising read next c.in_ok-facts.ensures c.loop-place.invariant

pub returns : goal.returns
returns c =
    let items = c.in_ok-leaves.leaves.items in
    let leaves = map arc_value items in
    let place = c.loop-place.place in
    let past : length leaves ≤ place = omega (arith, length-map items arc_value) in
    let all = c.args.all.now in
    let first = c.args.first in
    let facts = c.loop-place.facts in
    IfOk-weaker c.finish.result (λ built. IsBuilt facts built.0 built.1) (λ built. IsOfFacts all first built.0 built.1)
    (λ built is. made_whole all first leaves place facts built.0 built.1 c.in_ok-leaves.ensures past c.loop-place.invariant is)
    c.finish.ensures
