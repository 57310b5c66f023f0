use Rattle.std.proofs.Common.{ℕ, subst, sym}
use Rattle.fb_model.specs.History.{basis}
use Rattle.fb_schema.specs.Tables.{HasCoverage}
use Rattle.fb_values.specs.Lists.{Lists, list_in}
use Rattle.seg_tree.specs.Indexes.{tree_in, trees_of}
use Rattle.seg_tree.specs.Nodes.{tree_datoms}
use Rattle.fb_covers.specs.Coverage.{Coverage}
use Rattle.seg_merge.specs.Merged.{AreHeld, IsMergeable}
use Rattle.seg_merge.specs.Standing.{CanMerge}
use Rattle.view_model.specs.Stands.{RootStands}
use Rattle.fb_merge.proofs.Merges.{can_merge, mergeable, are_held}
use Rattle.fb_merge.proofs.trees.with_live.Goals as goal

pub merge4-requires-clause-mergeable : goal.merge4-requires-clause-mergeable
merge4-requires-clause-mergeable g c lifetimes within order =
    let k = c.args.beside.now in let base = c.args.base.now in
    let coverage = c.covers.result.now in
    let has : HasCoverage coverage k.schema = subst (HasCoverage coverage) c.schema.ensures.schema c.covers.ensures in
    let can = can_merge k (trees_of base) coverage c.live.ensures.stands c.requires.base has in
    let own = c.what_stands_may_be_merged.ensures k.entries k.covered (basis k.entries) coverage (trees_of base) k.live can order in
    subst (λ (live : Lists). IsMergeable order (tree_datoms (tree_in base order)) (list_in live order)) (sym c.live.ensures.live)
    (mergeable base k.live order own)

pub merge4-requires-clause-held : goal.merge4-requires-clause-held
merge4-requires-clause-held g c lifetimes within order =
    let base = c.args.base.now in
    subst (λ (held : Coverage). AreHeld held order (tree_datoms (tree_in base order))) (sym c.held.ensures.held)
    (are_held c.args.beside.now base c.held.ensures.stands c.requires.base order)

pub returns-clause-stand : goal.returns-clause-stand
returns-clause-stand g c =
    let k = c.args.beside.now in let base = c.args.base.now in
    let coverage = c.covers.result.now in
    let has : HasCoverage coverage k.schema = subst (HasCoverage coverage) c.schema.ensures.schema c.covers.ensures in
    let own = can_merge k (trees_of base) coverage c.live.ensures.stands c.requires.base has in
    let with_live = subst (λ (live : Lists). CanMerge k.entries k.covered (basis k.entries) coverage (trees_of base) live)
    (sym c.live.ensures.live) own in
    let can = subst (λ (n : ℕ). CanMerge k.entries k.covered n coverage (trees_of base) c.live.result.now)
    (sym c.basis.ensures.basis) with_live in
    subst (RootStands (trees_of c.in_ok-merged.merged) k.entries) c.basis.ensures.basis
    (c.in_ok-merged.ensures.stand k.entries k.covered can)
