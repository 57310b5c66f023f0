-- By the lemmas on views.
use Rattle.std.proofs.Common.{◌∙◌, ap, sym}
use Rattle.fb_model.specs.Facts.{facts}
use Rattle.fb_model.specs.History.{basis}
use Rattle.fb_model.proofs.Times.{upto-basis}
use Rattle.view_model.specs.Window.{whole}
use Rattle.view_model.proofs.Views.{as_of_basis, as_of-upto}
use Rattle.view_model.proofs.laws.as_of_is_the_database_then.Goals as goal

pub returns-clause-basis : goal.returns-clause-basis
returns-clause-basis c = as_of_basis

pub returns-clause-then : goal.returns-clause-then
returns-clause-then c = as_of-upto

pub returns-clause-now : goal.returns-clause-now
returns-clause-now c =
    λ h lawful small. sym (as_of_basis h whole lawful) ∙ as_of-upto h (basis h) lawful small ∙ ap facts (upto-basis h lawful)
