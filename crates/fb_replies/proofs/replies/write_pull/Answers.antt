use Rattle.std.proofs.Common.{◌++◌, ◌∙◌, ap}
use Rattle.std.specs.Prelude.{decimal}
use Rattle.std.proofs.lemmas.Result.{on_ok_weaker}
use Rattle.edn_form.specs.View.{form_of}
use Rattle.fb_replies.proofs.Lines.{pull_line}
use Rattle.fb_replies.proofs.replies.write_pull.Goals as goal

pub returns : goal.returns
returns c =
    let n = c.in_ok-append_count.ensures ∙ ap (λ n. c.begin.new.line.items ++ decimal n) c.from.ensures in
    on_ok_weaker c.append-2.result (λ e. pull_line c.args.basis
    (form_of c.args.tree.now) _ _ _ _ _ c.in_ok-begin.ensures n c.in_ok-append.ensures c.in_ok-print.ensures.text e) c.append-2.ensures
