use Rattle.std.proofs.Common.{◌≤◌, arith}
use Rattle.merge_worker.proofs.bases.first_new_id.Goals as goal

pub returns-clause-fit : goal.returns-clause-fit
returns-clause-fit g c = λ trees fits made.
    let maxed = c.max.ensures in let next = c.next_id.ensures.next in
    let behind : g.T.RootStore.next c.args.store.now ≤ c.max.result = omega (arith, maxed, next) in
    c.next_id.ensures.fit c.max.result c.args.start.now.roots trees behind fits made
