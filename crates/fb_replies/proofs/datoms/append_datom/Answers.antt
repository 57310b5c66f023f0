use Rattle.std.proofs.Common.{subst}
use Rattle.std.proofs.lemmas.Result.{on_ok_weaker}
use Rattle.edn_model.specs.Canon.{Canon}
use Rattle.edn_print.specs.Printed.{Appends}
use Rattle.talk_model.specs.Replies.{entity}
use Rattle.fb_replies.proofs.Members.{datom_behind}
use Rattle.fb_replies.proofs.datoms.append_datom.Goals as goal

pub returns : goal.returns
returns c =
    let tx =
    subst (λ e. Appends (Canon (entity e)) c.append-4.new.line.items c.append_entity-2.new.line.items) c.transaction_entity.ensures
    c.in_ok-append_entity-2.ensures in
    on_ok_weaker c.close_datom.result (λ e. datom_behind c.args.schema.now c.args.d.now _ _ _ _ _ _ _ _ _ _
    c.in_ok-append.ensures c.in_ok-append_entity.ensures c.in_ok-append-2.ensures c.in_ok-append_attribute.ensures
    c.in_ok-append-3.ensures c.in_ok-append_value.ensures c.in_ok-append-4.ensures tx e) c.close_datom.ensures
