-- The entry of changes that are a transaction's is the transaction's.
use Rattle.std.proofs.Common.{◌+◌, ap, ◌∙◌, w64}
use Rattle.std.proofs.lemmas.Int.{to_z-of_z}
use Rattle.fb_model.specs.History as history
use Rattle.tx_model.specs.Step as model
use Rattle.tx_step.proofs.deciding.with_entry.Goals as goal

pub returns : goal.returns
returns g c tx db_is changes_are tempids_are =
    let h = g.F.Facts.history c.args.facts.now in
    let entry_is = c.in_ok-entry.ensures h tx db_is (ap (λ t. t + 1) c.basis.ensures) changes_are in
    let read = to_z-of_z w64 c.args.reading c.ranges.reading in
    let instant = to_z-of_z w64 c.next_instant-instant.result (record { sfits = c.next_instant-instant.type_inv }) in
    ap (λ entry. model.accepted entry c.args.tempids.items)
    (entry_is ∙ ap (model.entry_of h tx) (instant ∙ c.next_instant-instant.ensures ∙ ap (history.next_instant h) read))
    ∙ ap (model.accepted (model.entry_of h tx (history.next_instant h c.args.reading))) tempids_are
