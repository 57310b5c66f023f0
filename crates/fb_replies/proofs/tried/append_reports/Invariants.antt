use Rattle.std.proofs.Common.{map, take}
use Rattle.edn_model.specs.Form.{forms}
use Rattle.edn_model.specs.Canon.{CanonAll}
use Rattle.edn_print.specs.Printed.{Appends}
use Rattle.talk_model.specs.Replies.{receipt}
use Rattle.fb_replies.proofs.tried.append_reports.Given as goal

abbrev pub invariant-loop-index : goal.invariant-loop-index
invariant-loop-index l =
    Appends (CanonAll (forms (map (λ report. receipt report.t report.tempids.items) (take l.index l.reports)))) l.fn.line.items
    l.line.items
