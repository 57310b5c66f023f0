use Rattle.std.proofs.Common.{subst, map}
use Rattle.std.proofs.lemmas.Result.{on_ok_weaker}
use Rattle.edn_model.specs.Form.{forms}
use Rattle.edn_model.specs.Canon.{CanonAll}
use Rattle.edn_print.specs.Printed.{Appends}
use Rattle.talk_model.specs.Replies.{member_form}
use Rattle.fb_tuples.specs.Lent.{model_row, tuple_lent}
use Rattle.fb_replies.proofs.Members.{row_behind}
use Rattle.fb_replies.proofs.tuples.append_row.Goals as goal

pub returns : goal.returns
returns c =
    let inside =
    subst (λ members. Appends (CanonAll (forms (map member_form (tuple_lent members)))) c.append.new.line.items
    c.append_members.new.line.items)
    c.deref.ensures.value c.in_ok-append_members.ensures in
    on_ok_weaker c.append-3.result
    (λ e. row_behind (model_row c.args.row.now) _ _ _ _ _ _ c.in_ok-append.ensures inside c.in_ok-append-2.ensures
    c.in_ok-append_entity.ensures e)
    c.append-3.ensures
