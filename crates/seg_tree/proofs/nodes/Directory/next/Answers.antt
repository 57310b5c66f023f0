use Rattle.std.proofs.Common.{◌+◌, ◌≤◌, ◌<◌, sym, arith, length}
use Rattle.std.proofs.lemmas.Option.{slice_get_within}
use Rattle.seg_tree.proofs.InLeaves.{rank_no_leaf, rank_past, rank_step, rank_within, rank_next_leaf, inside_start, firsts_of, few_of}
use Rattle.seg_tree.proofs.nodes.Directory.next.Goals as goal

pub returns-in-None-clause-none : goal.returns-in-None-clause-none
returns-in-None-clause-none c = rank_no_leaf c.args.self.now.leaves c.args.leaf c.args.datom (sym c.in-None.ensures)

pub returns-else-datom-len-clause-none : goal.returns-else-datom-len-clause-none
returns-else-datom-len-clause-none c =
    let past : length c.in-Some.found.now.datoms ≤ c.args.datom = rw (← c.datoms-len.ensures.datoms) c.if-datom-len.false in
    rank_past c.args.self.now.leaves c.args.leaf c.args.datom c.in-Some.found.now (sym c.in-Some.ensures) past

pub returns-then-datom-len-2-clause-next : goal.returns-then-datom-len-2-clause-next
returns-then-datom-len-2-clause-next c =
    let within : c.args.datom + 1 < length c.in-Some.found.now.datoms = rw (← c.datoms-len.ensures.datoms) c.if-datom-len-2.true in
    rank_step c.args.self.now.leaves c.args.leaf c.args.datom c.in-Some.found.now (sym c.in-Some.ensures) within

pub returns-then-datom-len-2-clause-inside : goal.returns-then-datom-len-2-clause-inside
returns-then-datom-len-2-clause-inside c = λ there.
    let within : c.args.datom + 1 < length c.in-Some.found.now.datoms = rw (← c.datoms-len.ensures.datoms) c.if-datom-len-2.true in
    rank_within c.args.self.now.leaves c.args.leaf (c.args.datom + 1) c.in-Some.found.now (sym c.in-Some.ensures) within

pub returns-else-datom-len-2-clause-next : goal.returns-else-datom-len-2-clause-next
returns-else-datom-len-2-clause-next c =
    let within : c.args.datom < length c.in-Some.found.now.datoms = rw (← c.datoms-len.ensures.datoms) c.if-datom-len.true in
    let last : length c.in-Some.found.now.datoms ≤ c.args.datom + 1 = rw (← c.datoms-len.ensures.datoms) c.if-datom-len-2.false in
    rank_next_leaf c.self.inside.firsts.items c.args.self.now.leaves c.args.leaf c.args.datom c.in-Some.found.now
    (firsts_of c.self.inside.firsts.items c.self.view_is c.self.invariant.firsts_are) (sym c.in-Some.ensures) within last

pub returns-else-datom-len-2-clause-inside : goal.returns-else-datom-len-2-clause-inside
returns-else-datom-len-2-clause-inside c =
    inside_start c.self.inside.firsts.items c.args.self.now.leaves (c.args.leaf + 1)
    (firsts_of c.self.inside.firsts.items c.self.view_is c.self.invariant.firsts_are)

pub overflow_add-result-else-datom-len-2 : goal.overflow_add-result-else-datom-len-2
overflow_add-result-else-datom-len-2 c =
    let there = slice_get_within c.args.self.now.leaves c.args.leaf c.in-Some.found.now (sym c.in-Some.ensures) in
    omega (arith, there, few_of c.self.view_is c.self.invariant.few)
