use Rattle.std.proofs.Common.{◌≡◌, List, map, take, sym, subst, arith}
use Rattle.std.proofs.lemmas.List.{take_all}
use Rattle.edn_model.specs.Form.{Form, forms}
use Rattle.edn_model.specs.Canon.{CanonAll}
use Rattle.edn_print.specs.Printed.{Appends}
use Rattle.with_model.specs.Chain.{TxReport}
use Rattle.talk_model.specs.Replies.{receipt}
use Rattle.fb_with.specs.declared.chains.Tried.{Tried}
use Rattle.fb_with.specs.Outcomes.{report_of}
use Rattle.fb_replies.proofs.Growing.{no_member, member_taken, map_twice}
use Rattle.fb_replies.proofs.tried.append_reports.Goals as goal

pub loop-index-init : goal.loop-index-init
loop-index-init c = no_member c.args.line.now.items

pub loop-index-preserved : goal.loop-index-preserved
loop-index-preserved c =
    let x = c.index-reports-index.result in
    member_taken (λ (report : Tried). receipt report.t report.tempids.items) c.args.reports.now c.loop-index.index x _ _ _ _
    (omega arith) (sym c.index-reports-index.is) c.loop-index.invariant c.in_ok-separate.ensures c.in_ok-append_report.ensures

pub returns : goal.returns
returns c =
    let xs = c.args.reports.now in
    let f = λ (report : Tried). receipt report.t report.tempids.items in
    let whole : take c.loop-index.index xs ≡ xs = take_all c.loop-index.index xs (omega arith) in
    let here =
    subst (λ rs. Appends (CanonAll (forms (map f rs))) c.args.line.now.items c.loop-index.line.items) whole c.loop-index.invariant in
    subst (λ (fs : List Form). Appends (CanonAll (forms fs)) c.args.line.now.items c.loop-index.line.items)
    (map_twice (λ (one : TxReport). receipt one.t one.tempids) report_of xs) here
