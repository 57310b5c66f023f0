use Rattle.std.proofs.Common.{length, sym, ap, ◌∙◌}
use Rattle.live_index.proofs.FourLists.{list_lacks, list_of}
use Rattle.live_index.proofs.half.Half.len.Goals as goal

pub returns-in-None : goal.returns-in-None
returns-in-None c = ap length (sym (list_lacks c.args.order c.self.inside.table.now c.self.inside.orders c.args.self.now c.in-None.is c.self.view_is))

pub returns-in-Some : goal.returns-in-Some
returns-in-Some c =
    let l =
    list_of c.args.order c.self.inside.table.now c.self.inside.orders c.in-Some.orders c.list.result.now c.args.self.now c.in-Some.is
    c.self.invariant c.self.view_is c.list.ensures in
    c.len.ensures ∙ l.are.count_is ∙ ap length l.is
