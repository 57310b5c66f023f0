use Rattle.std.proofs.Common.{◌∙◌, sym}
use Rattle.live_index.proofs.FourLists.{list_lacks, list_of}
use Rattle.live_index.proofs.half.Half.walk.Goals as goal

pub returns-in-None : goal.returns-in-None
returns-in-None c =
    c.of.ensures ∙ sym (list_lacks c.args.order c.self.inside.table.now c.self.inside.orders c.args.self.now c.in-None.is c.self.view_is)

pub walk-requires : goal.walk-requires
walk-requires c =
    (list_of c.args.order c.self.inside.table.now c.self.inside.orders c.in-Some.orders c.list.result.now c.args.self.now c.in-Some.is
    c.self.invariant c.self.view_is c.list.ensures).are

pub returns-in-Some : goal.returns-in-Some
returns-in-Some c =
    c.of-in-Some.ensures ∙ c.walk.ensures.datoms
    ∙ (list_of c.args.order c.self.inside.table.now c.self.inside.orders c.in-Some.orders c.list.result.now c.args.self.now c.in-Some.is
    c.self.invariant c.self.view_is c.list.ensures).is
