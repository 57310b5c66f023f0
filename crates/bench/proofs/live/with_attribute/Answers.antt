use Rattle.std.proofs.Common.{◌+◌, List, ◌++◌, sym, subst}
use Rattle.std.proofs.lemmas.List.{append-nil}
use Rattle.std.proofs.lemmas.Result.{IfOk-weaker}
use Rattle.fb_values.specs.declared.facts.Datom.{Datom}
use Rattle.fb_values.specs.Lists.{list_in}
use Rattle.live_index.specs.Growth.{HasNoTwins}
use Rattle.bench.specs.Entries.{IsEntry, LiveIsBefore}
use Rattle.bench.proofs.Entries.{single, follows, filled_older, grown}
use Rattle.bench.proofs.live.with_attribute.Goals as goal

pub with_schema_entry-requires-clause-held : goal.with_schema_entry-requires-clause-held
unfolding LiveIsBefore
with_schema_entry-requires-clause-held c = λ order. (c.requires order).held

pub with_schema_entry-requires-clause-single : goal.with_schema_entry-requires-clause-single
unfolding LiveIsBefore
with_schema_entry-requires-clause-single c = λ order.
    let b = c.requires order in
    subst (λ (old : List Datom). HasNoTwins (old ++ c.entry_of-entry.result.datoms)) (sym (append-nil (list_in c.args.live.now order)))
    (single order c.args.n (list_in c.args.live.now order) c.entry_of-entry.result.datoms c.ranges.n.fits b.rising b.older
    (subst (IsEntry c.args.n) (sym c.entry_of-entry.ensures) c.in_ok-attribute.ensures))

pub with_schema_entry-requires-clause-follow : goal.with_schema_entry-requires-clause-follow
unfolding LiveIsBefore
with_schema_entry-requires-clause-follow c = λ filled g order.
    follows order c.args.n (list_in filled order) c.entry_of-entry.result.datoms c.ranges.n.fits (g order).rising
    (filled_older order c.args.after.now c.args.n (list_in c.args.live.now order) (list_in filled order) (c.requires order).older (g order))
    (subst (IsEntry c.args.n) (sym c.entry_of-entry.ensures) c.in_ok-attribute.ensures)

pub with_schema_entry-requires-clause-order : goal.with_schema_entry-requires-clause-order
with_schema_entry-requires-clause-order c = (subst (IsEntry c.args.n) (sym c.entry_of-entry.ensures) c.in_ok-attribute.ensures).rising

pub returns : goal.returns
unfolding LiveIsBefore
returns c =
    IfOk-weaker c.with_schema_entry.result _ _
    (λ new g order. grown order c.args.after.now c.args.n (list_in c.args.live.now order) c.entry_of-entry.result.datoms (list_in new order)
    (c.requires order).older (subst (IsEntry c.args.n) (sym c.entry_of-entry.ensures) c.in_ok-attribute.ensures) (g order))
    c.with_schema_entry.ensures.grown
