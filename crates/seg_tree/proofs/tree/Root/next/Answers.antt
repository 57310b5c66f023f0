use Rattle.std.proofs.Common.{sym, arith}
use Rattle.seg_tree.proofs.InTrees.{rank_none, rank_end, rank_step}
use Rattle.seg_tree.proofs.tree.Root.next.Goals as goal

pub returns-in-None : goal.returns-in-None
returns-in-None c = omega (arith, rank_none c.args.self.now c.args.place (sym c.in-None.ensures))

pub returns-in-None-next : goal.returns-in-None-next
returns-in-None-next c =
    omega (arith, rank_end c.args.self.now c.args.place c.in-Some.directory.now (sym c.in-Some.ensures) c.in-None-next.ensures.none)

pub returns-in-Some-next : goal.returns-in-Some-next
returns-in-Some-next c =
    rank_step c.args.self.now c.args.place c.settled.result c.in-Some-next.leaf c.in-Some-next.datom c.in-Some.directory.now
    (sym c.in-Some.ensures) c.in-Some-next.ensures.next c.settled.ensures
