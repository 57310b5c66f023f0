use Rattle.std.proofs.Common.{inl, inr, get_or}
use Rattle.std.specs.Prelude.{nat_le}
use Rattle.std.proofs.lemmas.Bool.{and_parts}
use Rattle.std.proofs.lemmas.Result.{IfOk-weaker}
use Rattle.std.proofs.lemmas.List.Elements.{Contains-get_or}
use Rattle.live_index.specs.Growth.{is_held}
use Rattle.seg_tree.specs.Nodes.{tree_datoms}
use Rattle.seg_tree.specs.Indexes.{tree_in}
use Rattle.seg_merge.proofs.Samples.{may_merge, merged_rising}
use Rattle.bench.specs.Rising.{LiveRises, TreesAreHeld, TreesRise}
use Rattle.bench.proofs.segments.trees.merged.Goals as goal

pub merge4-requires-clause-mergeable : goal.merge4-requires-clause-mergeable
unfolding LiveRises TreesRise
merge4-requires-clause-mergeable g c lifetimes within order = may_merge order _ _ (c.requires.roots order) (c.requires.live order)

pub merge4-requires-clause-held : goal.merge4-requires-clause-held
unfolding TreesAreHeld
merge4-requires-clause-held g c lifetimes within = c.requires.held

pub returns-clause-rise : goal.returns-clause-rise
unfolding LiveRises TreesRise
returns-clause-rise g c =
    IfOk-weaker c.merge4.result _ _
    (λ new m order. merged_rising order c.args.covers.now c.args.c _ _ _ (c.requires.roots order) (c.requires.live order) (m order))
    c.merge4.ensures.merged

pub returns-clause-held : goal.returns-clause-held
unfolding TreesAreHeld
returns-clause-held g c =
    IfOk-weaker c.merge4.result _ _
    (λ new m order i d within.
    let ds = tree_datoms (tree_in new order) in
    elim (((m order).members (get_or ds i d)).0 (Contains-get_or ds i d within)) [
      | inl older ↦ older.1
      | inr newer ↦ (and_parts (nat_le (get_or ds i d).t c.args.c) (is_held c.args.covers.now order (get_or ds i d)) newer.1).1
    ])
    c.merge4.ensures.merged
