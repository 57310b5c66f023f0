-- One entity more.
use Rattle.std.proofs.Common.{rules}
use Rattle.tx_after.specs.After.{after}
use Rattle.fb_tuples.proofs.Renewing.{anew_next}
use Rattle.fb_tuples.proofs.renewed.push_anew.Goals as goal

pub loop-e-preserved : goal.loop-e-preserved
loop-e-preserved c =
    anew_next (after c.args.before.now.entries c.args.changes.now) c.args.attrs.now c.args.entities.now c.loop-e.e-index _ c.args.rows.now.items
    c.loop-e.rows.items c.push_row.new.rows.items c.in_ok-tuple.tuple.items (search rules) (search rules) c.loop-e.invariant c.in_ok-tuple.ensures
    c.in_ok-push_row.ensures
