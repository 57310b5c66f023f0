use Rattle.edn_model.proofs.OnePlace.{one_next}
use Rattle.edn_print.proofs.ReadBack.{stands}
use Rattle.edn_print.proofs.laws.reads_as_printed.Goals as goal

pub returns-clause-stands : goal.returns-clause-stands
returns-clause-stands c = stands

pub returns-clause-alone : goal.returns-clause-alone
returns-clause-alone c = λ f g before text rest next h e ends there.
    let same = one_next _ _ g f next _ there (stands f before text rest h e ends) in
    (same.same, same.next)
