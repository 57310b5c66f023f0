use Rattle.merge_worker.proofs.Ahead.{base_later, ahead_later}
use Rattle.merge_worker.proofs.working.work.Goals as goal

pub returns-in-Err-clause-kept : goal.returns-in-Err-clause-kept
returns-in-Err-clause-kept g c =
    let t = g.T.RootStore in let inv = c.loop.invariant in let e = c.round.ensures in
    base_later t.goes t.keeps c.args.store.now c.loop.store c.round.new.store inv.goes e.stays c.args.base.now c.loop.base c.round.new.base
    inv.kept e.kept

pub returns-in-Err-clause-ahead_kept : goal.returns-in-Err-clause-ahead_kept
returns-in-Err-clause-ahead_kept g c =
    let t = g.T.RootStore in let inv = c.loop.invariant in let e = c.round.ensures in
    ahead_later t.goes t.keeps c.args.store.now c.loop.store c.round.new.store inv.goes e.stays c.args.ahead.now c.loop.ahead
    c.round.new.ahead inv.ahead_kept e.ahead_kept

pub returns-then-is_out_of_turns-clause-kept : goal.returns-then-is_out_of_turns-clause-kept
returns-then-is_out_of_turns-clause-kept g c =
    let t = g.T.RootStore in let inv = c.loop.invariant in let e = c.round.ensures in
    base_later t.goes t.keeps c.args.store.now c.loop.store c.round.new.store inv.goes e.stays c.args.base.now c.loop.base c.round.new.base
    inv.kept e.kept

pub returns-then-is_out_of_turns-clause-ahead_kept : goal.returns-then-is_out_of_turns-clause-ahead_kept
returns-then-is_out_of_turns-clause-ahead_kept g c =
    let t = g.T.RootStore in let inv = c.loop.invariant in let e = c.round.ensures in
    ahead_later t.goes t.keeps c.args.store.now c.loop.store c.round.new.store inv.goes e.stays c.args.ahead.now c.loop.ahead
    c.round.new.ahead inv.ahead_kept e.ahead_kept

pub returns-then-shut-clause-kept : goal.returns-then-shut-clause-kept
returns-then-shut-clause-kept g c =
    let t = g.T.RootStore in let inv = c.loop.invariant in let e = c.round.ensures in
    base_later t.goes t.keeps c.args.store.now c.loop.store c.round.new.store inv.goes e.stays c.args.base.now c.loop.base c.round.new.base
    inv.kept e.kept

pub returns-then-shut-clause-ahead_kept : goal.returns-then-shut-clause-ahead_kept
returns-then-shut-clause-ahead_kept g c =
    let t = g.T.RootStore in let inv = c.loop.invariant in let e = c.round.ensures in
    ahead_later t.goes t.keeps c.args.store.now c.loop.store c.round.new.store inv.goes e.stays c.args.ahead.now c.loop.ahead
    c.round.new.ahead inv.ahead_kept e.ahead_kept
