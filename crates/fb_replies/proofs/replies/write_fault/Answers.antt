use Rattle.std.proofs.Common.{◌++◌, ◌∙◌, ap}
use Rattle.std.proofs.lemmas.Result.{on_ok_weaker}
use Rattle.fb_replies.specs.Faults.{place_text}
use Rattle.fb_replies.proofs.Lines.{fault_line}
use Rattle.fb_replies.proofs.replies.write_fault.Goals as goal

pub returns : goal.returns
returns c =
    let word = c.in_ok-append.ensures ∙ ap (λ z. c.begin.new.line.items ++ z) (c.as_bytes.ensures.value ∙ c.word.ensures) in
    let at = ap (λ n. c.append.new.line.items ++ place_text n c.args.basis) c.from.ensures in
    on_ok_weaker c.append_place.result
    (λ e. fault_line _ c.args.at c.args.basis _ _ _ c.in_ok-begin.ensures word (e ∙ at)) c.append_place.ensures
