-- One attribute more, and its list.
use Rattle.std.proofs.Common.{rules}
use Rattle.fb_tuples.proofs.Listed.{lists_next}
use Rattle.fb_tuples.proofs.rows.lists_of.Goals as goal

pub loop-a-preserved : goal.loop-a-preserved
loop-a-preserved g c =
    lists_next _ _ _ c.args.attrs.now c.loop-a.a-index _ c.loop-a.lists.items _ c.in_ok-under.field-0 (search rules) (search rules)
    c.loop-a.invariant c.in_ok-under.ensures c.in_ok-push.ensures.items
