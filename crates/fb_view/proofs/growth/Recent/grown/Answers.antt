use Rattle.std.proofs.Common.{◌∙◌, ◌++◌, [], List, subst, sym}
use Rattle.std.proofs.lemmas.Result.{IfOk-weaker}
use Rattle.fb_values.specs.declared.facts.Datom.{Datom}
use Rattle.fb_values.specs.declared.indexes.Order.{Order}
use Rattle.fb_values.specs.Lists.{list_in}
use Rattle.live_index.specs.Growth.{HasNoTwins, IsGrown}
use Rattle.live_index.specs.Standing.{IsNext}
use Rattle.fb_view.proofs.Standing.{coverage_of, datoms_rise}
use Rattle.fb_view.proofs.Refilling.{nothing_refills, coverage_stays, lists_held}
use Rattle.fb_view.proofs.growth.Recent.grown.Goals as goal

pub with_entry-requires-clause-held : goal.with_entry-requires-clause-held
with_entry-requires-clause-held c =
    let h = c.requires.follows.0 in
    let follows = c.requires.follows.1 in
    let after = c.requires.schema h follows.stands.schema_is in
    let none = sym c.changes_schema.ensures ∙ c.if-not-changes_schema.true in
    lists_held h c.args.self.now c.args.older.now c.args.entry.now follows c.covers.result.now
    (coverage_stays h c.args.self.now c.args.older.now c.args.entry.now follows c.args.after.now after none c.covers.result.now
    c.covers.ensures)

pub with_entry-requires-clause-follow : goal.with_entry-requires-clause-follow
with_entry-requires-clause-follow c =
    let h = c.requires.follows.0 in
    let follows = c.requires.follows.1 in
    let after = c.requires.schema h follows.stands.schema_is in
    let none = sym c.changes_schema.ensures ∙ c.if-not-changes_schema.true in
    c.next_entries_may_follow.ensures h c.args.older.now.covered c.args.entry.now c.covers.result.now [] c.args.self.now.live
    (nothing_refills h c.args.self.now c.args.older.now c.args.entry.now follows c.args.after.now after none c.covers.result.now
    c.covers.ensures) follows.stands.history.live_stands

pub returns-then-not-changes_schema : goal.returns-then-not-changes_schema
returns-then-not-changes_schema c =
    IfOk-weaker c.with_entry.result _ _
    (λ live stands h follows.
    let after = c.requires.schema h follows.stands.schema_is in
    let none = sym c.changes_schema.ensures ∙ c.if-not-changes_schema.true in
    stands h c.args.older.now.covered (nothing_refills h c.args.self.now c.args.older.now c.args.entry.now follows c.args.after.now after
    none c.covers.result.now c.covers.ensures) follows.stands.history.live_stands)
    c.with_entry.ensures.stands

pub with_entry-requires-clause-order : goal.with_entry-requires-clause-order
with_entry-requires-clause-order c = datoms_rise c.requires.follows.0 c.args.entry.now c.requires.follows.1.next

pub with_schema_entry-requires-clause-order : goal.with_schema_entry-requires-clause-order
with_schema_entry-requires-clause-order c = datoms_rise c.requires.follows.0 c.args.entry.now c.requires.follows.1.next

pub with_schema_entry-requires-clause-held : goal.with_schema_entry-requires-clause-held
with_schema_entry-requires-clause-held c =
    let h = c.requires.follows.0 in
    let follows = c.requires.follows.1 in
    lists_held h c.args.self.now c.args.older.now c.args.entry.now follows c.covers-before.result.now
    (coverage_of c.args.self.now.schema h c.covers-before.result.now follows.stands.schema_is c.covers-before.ensures)

pub with_schema_entry-requires-clause-single : goal.with_schema_entry-requires-clause-single
with_schema_entry-requires-clause-single c =
    let h = c.requires.follows.0 in
    let follows = c.requires.follows.1 in
    let next = c.in_ok-refill.ensures h c.covers-2.result.now follows c.covers-2.ensures in
    subst (λ (ds : List Datom). (order : Order) → HasNoTwins (list_in c.args.self.now.live order ++ ds ++ c.args.entry.now.datoms))
    (sym c.deref.ensures.value)
    (c.next_entries_bring_no_twins.ensures h c.args.older.now.covered c.args.entry.now c.covers-2.result.now c.in_ok-refill.refill.items
    c.args.self.now.live next follows.stands.history.live_stands)

pub with_schema_entry-requires-clause-follow : goal.with_schema_entry-requires-clause-follow
with_schema_entry-requires-clause-follow c = λ filled grown.
    let h = c.requires.follows.0 in
    let follows = c.requires.follows.1 in
    let covered = c.args.older.now.covered in
    let live = c.args.self.now.live in
    let entry = c.args.entry.now in
    let refill = c.in_ok-refill.refill.items in
    let coverage = c.covers-2.result.now in
    let next = c.in_ok-refill.ensures h coverage follows c.covers-2.ensures in
    c.next_entries_may_follow_a_refill.ensures h covered entry coverage refill live filled next follows.stands.history.live_stands
    (subst (λ (ds : List Datom). (order : Order) → IsGrown order coverage (list_in live order) ds [] (list_in filled order))
    c.deref.ensures.value grown)

pub returns : goal.returns
returns c =
    IfOk-weaker c.with_schema_entry.result _ _
    (λ live stands h follows.
    let next = c.in_ok-refill.ensures h c.covers-2.result.now follows c.covers-2.ensures in
    stands h c.args.older.now.covered
    (subst (IsNext h c.args.older.now.covered c.args.entry.now c.covers-2.result.now) (sym c.deref.ensures.value) next)
    follows.stands.history.live_stands)
    c.with_schema_entry.ensures.stands
