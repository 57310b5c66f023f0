use Rattle.std.proofs.Common.{◌++◌, ◌∙◌, ap}
use Rattle.std.specs.Prelude.{decimal}
use Rattle.std.proofs.lemmas.Result.{on_ok_weaker}
use Rattle.fb_replies.proofs.Lines.{receipt_line}
use Rattle.fb_replies.proofs.replies.write_receipt.Goals as goal

pub returns : goal.returns
returns c =
    let n = c.in_ok-append_count.ensures ∙ ap (λ n. c.begin.new.line.items ++ decimal n) c.from.ensures in
    on_ok_weaker c.append-2.result (λ e. receipt_line c.args.t c.args.tempids.now _ _ _ _ _ c.in_ok-begin.ensures n c.in_ok-append.ensures
    c.in_ok-append_tempids.ensures e) c.append-2.ensures
