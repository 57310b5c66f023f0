use Rattle.std.proofs.lemmas.Result.{on_ok_weaker}
use Rattle.fb_replies.proofs.Values.{known_attribute, unknown_attribute}
use Rattle.fb_replies.proofs.datoms.append_attribute.Goals as goal

pub returns-in-Some : goal.returns-in-Some
returns-in-Some c =
    on_ok_weaker c.append_keyword.result
    (λ e. known_attribute c.args.schema.now c.args.a _ _ _ _ c.in-Some.ensures c.as_str.ensures e) c.append_keyword.ensures

pub returns-in-None : goal.returns-in-None
returns-in-None c =
    on_ok_weaker c.append_entity.result (λ e. unknown_attribute c.args.schema.now c.args.a _ _ c.in-None.ensures e) c.append_entity.ensures
