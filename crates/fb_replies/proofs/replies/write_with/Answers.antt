use Rattle.std.proofs.Common.{◌++◌, ◌∙◌, ap, map, take}
use Rattle.std.specs.Prelude.{decimal}
use Rattle.std.proofs.lemmas.Result.{on_ok_weaker}
use Rattle.fb_with.specs.Outcomes.{report_of}
use Rattle.fb_replies.proofs.Lines.{with_line}
use Rattle.fb_replies.proofs.replies.write_with.Goals as goal

pub returns : goal.returns
returns c = λ reply says.
    let n = c.in_ok-append_count.ensures ∙ ap (λ n. c.begin.new.line.items ++ decimal n) c.from.ensures in
    let shown =
    c.in_ok-append-3.ensures ∙ ap (λ n. c.append-2.new.line.items ++ take n c.args.shown.now) c.saturating_sub.ensures in
    on_ok_weaker c.append-4.result (λ e. with_line c.args.basis (map report_of c.args.reports.now) reply c.args.shown.now _ _ _ _ _ _ _
    c.in_ok-begin.ensures n c.in_ok-append.ensures c.in_ok-append_reports.ensures c.in_ok-append-2.ensures shown e says)
    c.append-4.ensures
