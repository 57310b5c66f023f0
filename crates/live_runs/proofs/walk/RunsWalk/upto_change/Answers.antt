use Rattle.std.proofs.Common.{subst}
use Rattle.std.proofs.lemmas.List.{map-append}
use Rattle.fb_values.specs.Rising.{IsRising}
use Rattle.fb_search.proofs.Ends.{rising-append_left}
use Rattle.live_runs.specs.declared.members.Member.{Member}
use Rattle.live_runs.specs.Members.{datom_of, named}
use Rattle.live_runs.specs.Parts.{members_of}
use Rattle.live_runs.proofs.walk.RunsWalk.upto_change.Goals as goal

pub place_among-requires-clause-rising : goal.place_among-requires-clause-rising
place_among-requires-clause-rising c =
    rising-append_left c.args.self.now.order (named c.args.self.now.table.now c.args.self.now.chunk.now)
    (named c.args.self.now.table.now (members_of c.args.self.now.later.now))
    (subst (IsRising c.args.self.now.order)
    (map-append (λ (m : Member). datom_of c.args.self.now.table.now m.number) c.args.self.now.chunk.now
    (members_of c.args.self.now.later.now)) c.requires.left.members.rising)
