use Rattle.std.proofs.Common.{subst}
use Rattle.edn_model.specs.Canon.{Canon}
use Rattle.edn_form.specs.View.{form_of}
use Rattle.edn_print.specs.Printed.{Appends}
use Rattle.edn_print.proofs.Texts.{printable-readable}
use Rattle.edn_print.proofs.form.print.Goals as goal

pub returns-clause-readable : goal.returns-clause-readable
returns-clause-readable c = λ depth h.
    subst (λ f. Appends (Canon f) c.args.out.now.items c.print_form.new.out.items)
    (printable-readable depth (form_of c.args.form.now) h) c.in_default.ensures.ok
