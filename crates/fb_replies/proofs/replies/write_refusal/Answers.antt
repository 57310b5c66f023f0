use Rattle.std.proofs.Common.{◌++◌, ◌∙◌, ap}
use Rattle.std.proofs.lemmas.Result.{on_ok_weaker}
use Rattle.fb_replies.proofs.Lines.{refusal_line}
use Rattle.fb_replies.proofs.replies.write_refusal.Goals as goal

pub returns : goal.returns
returns c =
    let word = c.in_ok-append.ensures ∙ ap (λ z. c.begin.new.line.items ++ z) c.as_bytes.ensures.value in
    on_ok_weaker c.append_place.result
    (λ e. refusal_line c.args.keyword.now c.args.at c.args.basis _ _ _ c.in_ok-begin.ensures word e) c.append_place.ensures
