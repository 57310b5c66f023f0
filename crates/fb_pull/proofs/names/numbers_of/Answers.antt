use Rattle.std.proofs.Common.{arith}
use Rattle.fb_db.specs.Seen.{window_of}
use Rattle.fb_pull.proofs.Attributes.{attribute_small, none_found, one_more, all_found, has_next_is}
use Rattle.fb_pull.proofs.names.numbers_of.Goals as goal

pub overflow_add-a : goal.overflow_add-a
overflow_add-a g c =
    let small =
    attribute_small c.args.db.now.snapshot.entries (window_of c.args.db.now) (g.S.Selector.selects c.args.db.now.filter) c.args.e
    c.in-Some.a c.entries.ensures.stands.history.lawful
    (c.lawful_histories_are_small.ensures.t c.args.db.now.snapshot.entries c.entries.ensures.stands.history.lawful)
    (c.lawful_histories_are_small.ensures.users c.args.db.now.snapshot.entries c.entries.ensures.stands.history.lawful)
    (has_next_is c.args.db.now.snapshot.entries (window_of c.args.db.now) (g.S.Selector.selects c.args.db.now.filter) c.args.e
    c.loop-next.list.items c.loop-next.next c.in-Some.a c.loop-next.invariant c.in-Some.is) in
    omega (arith, small)

pub loop-next-preserved : goal.loop-next-preserved
loop-next-preserved g c =
    one_more c.args.db.now.snapshot.entries (window_of c.args.db.now) (g.S.Selector.selects c.args.db.now.filter) c.args.e
    c.loop-next.list.items _ c.loop-next.next _ c.in-Some.a c.loop-next.invariant c.in-Some.is c.in_ok-push.ensures.items
    c.next_attribute-next-in-Some.ensures

pub returns-clause-members : goal.returns-clause-members
returns-clause-members g c =
    all_found c.args.db.now.snapshot.entries (window_of c.args.db.now) (g.S.Selector.selects c.args.db.now.filter) c.args.e
    c.loop-next.list.items c.loop-next.next c.loop-next.invariant c.in_default.is

pub loop-next-init : goal.loop-next-init
loop-next-init g c =
    none_found c.args.db.now.snapshot.entries (window_of c.args.db.now) (g.S.Selector.selects c.args.db.now.filter) c.args.e
    c.new-list.result.items c.next_attribute-next.result c.new-list.ensures.items c.next_attribute-next.ensures
