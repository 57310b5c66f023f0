use Rattle.std.proofs.Common.{◌∙◌, [], List, subst, sym}
use Rattle.fb_values.specs.declared.facts.Datom.{Datom}
use Rattle.fb_values.specs.declared.facts.Entry.{Entry}
use Rattle.fb_values.specs.Lists.{list_in}
use Rattle.fb_values.specs.Rising.{IsRising}
use Rattle.live_index.specs.Growth.{HasNoTwins, IsGrown}
use Rattle.seg_tree.specs.Indexes.{trees_of}
use Rattle.seg_tree.specs.declared.roots.Roots.{Roots}
use Rattle.seg_tree.proofs.Indexes.{list_in-trees_of}
use Rattle.fb_view.proofs.Alone.{first_twins, first_is, first_whole}
use Rattle.fb_view.proofs.snapshot.Snapshot.first.Goals as goal

pub trees-requires : goal.trees-requires
trees-requires c =
    subst HasNoTwins (sym c.as_slice.ensures)
    (subst (λ (e : Entry). HasNoTwins e.datoms)
    (sym (first_is c.in_ok-entries.entries c.at-first.result.now c.in_ok-entries.ensures c.at-first.ensures)) first_twins)

pub of-requires : goal.of-requires
of-requires c = λ order. subst (IsRising order) (list_in-trees_of c.in_ok-roots.roots order) (c.in_ok-roots.ensures.grown order).rising

pub invariant_of-of : goal.invariant_of-of
invariant_of-of c =
    let first = c.at-first.result.now in
    let older = c.in_ok-older.older in
    let covers = c.covers-covers.result.now in
    let whole =
    first_whole c.in_ok-entries.entries first c.in_ok-schema.schema older covers c.in_ok-entries.ensures c.at-first.ensures
    c.in_ok-schema.ensures c.covers-covers.ensures
    (c.in_ok-older.ensures.held ∙ c.in_ok-held.ensures) c.in_ok-older.ensures.covered c.in_ok-older.ensures.facts (λ order.
    subst (λ (r : Roots). IsGrown order covers [] [] first.datoms (list_in (trees_of r) order)) (sym c.in_ok-older.ensures.roots)
    (subst (λ (ds : List Datom). IsGrown order covers [] [] ds (list_in (trees_of c.in_ok-roots.roots) order)) c.as_slice.ensures
    (c.in_ok-roots.ensures.grown order))) in
    c.fresh-recent.ensures.stands c.in_ok-entries.entries older whole.0 whole.1
