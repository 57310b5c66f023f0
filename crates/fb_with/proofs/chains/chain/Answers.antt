use Rattle.std.proofs.Common.{map, sym, arith}
use Rattle.std.proofs.lemmas.Result.{err_from_is_err_and}
use Rattle.fb_with.specs.Outcomes.{report_of}
use Rattle.fb_with.proofs.GoingOn.{goes_on, stops}
use Rattle.fb_with.proofs.chains.chain.Goals as goal

pub returns-in_err-after-2-clause-stop : goal.returns-in_err-after-2-clause-stop
returns-in_err-after-2-clause-stop g c =
    let now = c.loop-asked in
    let p = err_from_is_err_and c.from_residual-in_err-after-2.result c.from_residual-in_err-after-2.ensures.1 in
    rw (p.1, p.2) (stops (g.G.Guard.bars c.args.guard.now) c.args.snapshot.now.entries now.after.entries (map report_of now.reports.items)
    c.args.datas.now now.asked-index c.asked-item.result (omega arith) (sym c.asked-item.is) now.invariant c.in_err-after-2.field-0.0
    c.in_err-after-2.ensures.stop)

pub loop-asked-preserved : goal.loop-asked-preserved
loop-asked-preserved g c =
    let now = c.loop-asked in
    goes_on (g.G.Guard.bars c.args.guard.now) c.args.snapshot.now.entries now.after.entries (map report_of now.reports.items)
    c.args.datas.now now.asked-index c.asked-item.result (omega arith) (sym c.asked-item.is) now.invariant c.in_ok-after-2.after.entries
    (map report_of c.grown.new.reports.items) c.in_ok-after-2.ensures.reached
