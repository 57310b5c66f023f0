use Rattle.std.proofs.Common.{OnOk, ◌∙◌, ap, subst}
use Rattle.edn_model.specs.Form.{Form}
use Rattle.edn_model.specs.Canon.{Canon}
use Rattle.edn_print.specs.Printed.{Appends}
use Rattle.edn_print.specs.Printable.{printable}
use Rattle.fb_replies.proofs.Values.{printable_value}
use Rattle.fb_replies.proofs.datoms.append_printed.Goals as goal

pub returns : goal.returns
returns c =
    subst (λ (f : Form). OnOk c.print.result (Appends (Canon f) c.args.line.now.items c.print.new.out.items))
    (ap printable c.in_ok-form.ensures ∙ printable_value c.args.v.now c.requires) c.print.ensures.text
