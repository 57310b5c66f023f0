use Rattle.std.proofs.Common.{List, ◌++◌, sym, subst}
use Rattle.edn_model.specs.Form as form
use Rattle.edn_duplicates.specs.FormCodes.{AreSaid}
use Rattle.edn_duplicates.specs.declared.coded.Coded.{Coded}
use Rattle.edn_duplicates.proofs.Sayings.{said_none}
use Rattle.edn_duplicates.proofs.form_codes.FormCodes.new.Goals as goal

pub returns : goal.returns
returns c =
    subst (λ (few : List Coded). AreSaid form.no_forms (few ++ c.new-many.result.keys)) (sym c.new-few.ensures.items)
    (subst (λ (many : List Coded). AreSaid form.no_forms many) (sym c.new-many.ensures.empty) said_none)
