use Rattle.std.proofs.Common.{◌++◌, ◌∙◌, ap, map}
use Rattle.std.specs.Prelude.{decimal}
use Rattle.std.proofs.lemmas.Result.{on_ok_weaker}
use Rattle.fb_tuples.specs.Lent.{model_row}
use Rattle.fb_replies.proofs.Lines.{tuples_line}
use Rattle.fb_replies.proofs.replies.write_tuples.Goals as goal

pub returns : goal.returns
returns c =
    let n = c.in_ok-append_count.ensures ∙ ap (λ n. c.begin.new.line.items ++ decimal n) c.from.ensures in
    on_ok_weaker c.append-2.result (λ e. tuples_line c.args.basis (map model_row c.args.rows.now) _ _ _ _ _ c.in_ok-begin.ensures n
    c.in_ok-append.ensures c.in_ok-append_rows.ensures e) c.append-2.ensures
