use Rattle.std.proofs.Common.{◌++◌, ◌∙◌, ap, subst, map}
use Rattle.std.specs.Prelude.{decimal}
use Rattle.std.proofs.lemmas.Result.{on_ok_weaker}
use Rattle.edn_model.specs.Form.{forms}
use Rattle.edn_model.specs.Canon.{CanonAll}
use Rattle.edn_print.specs.Printed.{Appends}
use Rattle.talk_model.specs.Replies.{datom_form}
use Rattle.fb_replies.proofs.Members.{transaction_behind}
use Rattle.fb_replies.proofs.datoms.append_transaction.Goals as goal

pub returns : goal.returns
returns c =
    let inside =
    subst (λ ds. Appends (CanonAll (forms (map (datom_form c.args.schema.now) ds))) c.append-2.new.line.items c.append_owned.new.line.items)
    c.as_slice.ensures c.in_ok-append_owned.ensures in
    let t = c.in_ok-append_count.ensures ∙ ap (λ n. c.append.new.line.items ++ decimal n) c.from.ensures in
    on_ok_weaker c.append-3.result
    (λ e. transaction_behind c.args.schema.now c.args.entry.now _ _ _ _ _ _ c.in_ok-append.ensures t c.in_ok-append-2.ensures inside e)
    c.append-3.ensures
