use Rattle.std.proofs.Common.{◌≡◌, map, take}
use Rattle.edn_form.specs.View.{forms_of}
use Rattle.with_model.specs.Chain as model
use Rattle.fb_with.specs.Outcomes.{report_of}
use Rattle.fb_with.proofs.chains.chain.Given as goal

abbrev pub invariant-loop-asked : goal.invariant-loop-asked
invariant-loop-asked g l =
    model.chain (g.G.Guard.bars l.guard) l.snapshot.entries (forms_of (take l.asked-index l.datas))
    ≡ model.reaches l.after.entries (map report_of l.reports.items)
