use Rattle.std.proofs.Common.{◌++◌, ◌∙◌, ap, subst, map}
use Rattle.std.specs.Prelude.{decimal}
use Rattle.std.proofs.lemmas.Result.{on_ok_weaker}
use Rattle.edn_model.specs.Form.{pairs}
use Rattle.edn_model.specs.Canon.{CanonPairs}
use Rattle.edn_print.specs.Printed.{Appends}
use Rattle.talk_model.specs.Replies.{tempid_pair}
use Rattle.fb_replies.proofs.Members.{report_behind}
use Rattle.fb_replies.proofs.tried.append_report.Goals as goal

pub returns : goal.returns
returns c =
    let inside =
    subst (λ ids. Appends (CanonPairs (pairs (map tempid_pair ids))) c.append-2.new.line.items c.append_tempids.new.line.items)
    c.deref.ensures.value c.in_ok-append_tempids.ensures in
    let t = c.in_ok-append_count.ensures ∙ ap (λ n. c.append.new.line.items ++ decimal n) c.from.ensures in
    on_ok_weaker c.append-3.result
    (λ e. report_behind c.args.report.now.t c.args.report.now.tempids.items _ _ _ _ _ _ c.in_ok-append.ensures t c.in_ok-append-2.ensures
    inside e)
    c.append-3.ensures
