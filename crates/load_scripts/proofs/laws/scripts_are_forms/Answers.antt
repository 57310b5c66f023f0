use Rattle.load_scripts.proofs.Forms.{script_forms, script_length}
use Rattle.load_scripts.proofs.laws.scripts_are_forms.Goals as goal

pub returns-clause-forms : goal.returns-clause-forms
returns-clause-forms c = script_forms

pub returns-clause-short : goal.returns-clause-short
returns-clause-short c = script_length
