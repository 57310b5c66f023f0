use Rattle.std.proofs.Common.{◌+◌, sym, subst}
use Rattle.std.proofs.lemmas.Result.{IfOk-weaker}
use Rattle.fb_values.specs.Lists.{list_in}
use Rattle.bench.specs.Entries.{IsEntry, LiveIsBefore}
use Rattle.bench.proofs.Entries.{follows, grown}
use Rattle.bench.proofs.live.with_facts.Goals as goal

pub with_entry-requires-clause-held : goal.with_entry-requires-clause-held
unfolding LiveIsBefore
with_entry-requires-clause-held c = λ order. (c.requires order).held

pub with_entry-requires-clause-follow : goal.with_entry-requires-clause-follow
unfolding LiveIsBefore
with_entry-requires-clause-follow c = λ order.
    let b = c.requires order in
    follows order c.args.n (list_in c.args.live.now order) c.entry_of-entry.result.datoms c.ranges.n.fits b.rising b.older
    (subst (IsEntry c.args.n) (sym c.entry_of-entry.ensures) c.in_ok-facts.ensures)

pub with_entry-requires-clause-order : goal.with_entry-requires-clause-order
with_entry-requires-clause-order c = (subst (IsEntry c.args.n) (sym c.entry_of-entry.ensures) c.in_ok-facts.ensures).rising

pub returns : goal.returns
unfolding LiveIsBefore
returns c =
    IfOk-weaker c.with_entry.result _ _
    (λ new g order.
    grown order c.args.covers.now c.args.n (list_in c.args.live.now order) c.entry_of-entry.result.datoms (list_in new order)
    (c.requires order).older (subst (IsEntry c.args.n) (sym c.entry_of-entry.ensures) c.in_ok-facts.ensures) (g order))
    c.with_entry.ensures.grown
