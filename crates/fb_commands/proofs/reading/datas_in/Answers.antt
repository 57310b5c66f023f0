use Rattle.std.proofs.Common.{◌∙◌, ap, sym}
use Rattle.edn_form.specs.View.{form_of, forms_of, members}
use Rattle.edn_form.proofs.Views.{form_of-Vector, items-forms}
use Rattle.talk_model.specs.Commands as model
use Rattle.fb_commands.proofs.reading.datas_in.Goals as goal

pub returns-in-Vector : goal.returns-in-Vector
returns-in-Vector c =
    let i = c.in-Vector.items in
    c.few.ensures ∙ ap (λ xs. model.datas_of (forms_of xs)) c.as_slice.ensures
    ∙ ap model.datas_of (sym (items-forms (forms_of (members i))))
    ∙ ap model.datas_in (sym (form_of-Vector i) ∙ ap form_of (sym c.in-Vector.is))
