use Rattle.std.proofs.Common.{sym, subst, OnOk}
use Rattle.edn_model.specs.Canon.{Canon}
use Rattle.edn_values.specs.Values.{form_of_value}
use Rattle.edn_print.specs.Printed.{Appends}
use Rattle.fb_values.specs.declared.facts.Value.{Value}
use Rattle.fb_replies.proofs.datoms.append_value.Goals as goal

pub returns-in-Ref : goal.returns-in-Ref
returns-in-Ref c =
    subst
    (λ (v : Value). OnOk c.append_entity.result (Appends (Canon (form_of_value v)) c.args.line.now.items c.append_entity.new.line.items))
    (sym c.in-Ref.is) c.append_entity.ensures
