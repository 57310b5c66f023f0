use Rattle.std.proofs.Common.{◌++◌, ◌∙◌, ap}
use Rattle.std.specs.Prelude.{decimal}
use Rattle.std.proofs.lemmas.Result.{on_ok_weaker}
use Rattle.fb_replies.proofs.Lines.{basis_line}
use Rattle.fb_replies.proofs.replies.write_basis.Goals as goal

pub returns : goal.returns
returns c =
    let n = c.in_ok-append_count.ensures ∙ ap (λ n. c.begin.new.line.items ++ decimal n) c.from.ensures in
    on_ok_weaker c.append.result (λ e. basis_line c.args.basis _ _ _ c.in_ok-begin.ensures n e) c.append.ensures
