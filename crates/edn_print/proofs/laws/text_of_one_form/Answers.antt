use Rattle.std.proofs.Common.{refl}
use Rattle.edn_model.proofs.OnePlace.{same_text}
use Rattle.edn_print.proofs.ReadBack.{text_is}
use Rattle.edn_print.proofs.laws.text_of_one_form.Goals as goal

pub returns-clause-text : goal.returns-clause-text
returns-clause-text c = text_is

pub returns-clause-no_other : goal.returns-clause-no_other
returns-clause-no_other c = λ depth other f g text rest after h e ends t.
    let same = same_text t (text_is depth f text rest h e ends) refl in
    (same.same, same.rest)
