use Rattle.std.proofs.Common.{sym, subst}
use Rattle.fb_values.specs.Lists.{Lists, list_in}
use Rattle.live_index.specs.Growth.{IsGrown}
use Rattle.live_index.proofs.Growing.{both_ok, grown_same}
use Rattle.live_index.proofs.live.Live.made_anew.Goals as goal

pub returns-then-are_same : goal.returns-then-are_same
returns-then-are_same c =
    let same = c.are_same.ensures c.if-are_same.true in
    both_ok c.share.result _ _ _ (λ live is also order.
    subst (λ (ls : Lists). IsGrown order c.args.after.now (list_in c.args.self.now order) c.args.refill.now c.args.datoms.now (list_in ls order))
    (sym is) (grown_same order c.args.before.now c.args.after.now (list_in c.args.self.now order) c.args.refill.now c.args.datoms.now
    (c.holding.ensures.rising order) (c.requires.held order) (same.stay order) same.none_refill same.none)) c.share.ensures c.share.ensures
