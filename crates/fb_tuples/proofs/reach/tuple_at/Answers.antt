-- One attribute more, and the member of it.
use Rattle.std.proofs.Common.{rules}
use Rattle.fb_db.specs.Seen.{window_of}
use Rattle.fb_tuples.proofs.Reaching.{members_next}
use Rattle.fb_tuples.proofs.reach.tuple_at.Goals as goal

pub loop-a-preserved : goal.loop-a-preserved
loop-a-preserved g c =
    let db = c.args.db.now in
    members_next db.snapshot.entries (window_of db) (g.S.Selector.selects db.filter) c.args.e c.args.attrs.now c.loop-a.a-index _
    c.loop-a.tuple.items _ c.in_ok-member.member (search rules) (search rules) c.loop-a.invariant c.in_ok-member.ensures c.in_ok-push.ensures.items
