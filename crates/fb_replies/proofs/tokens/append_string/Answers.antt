use Rattle.std.proofs.Common.{refl}
use Rattle.std.proofs.lemmas.Result.{on_ok_weaker}
use Rattle.fb_replies.proofs.Values.{string_behind}
use Rattle.fb_replies.proofs.tokens.append_string.Goals as goal

pub returns : goal.returns
returns c = on_ok_weaker c.print.result (λ a. string_behind _ _ c.args.text.now _ _ refl c.in_ok-copy.ensures a) c.print.ensures.text
