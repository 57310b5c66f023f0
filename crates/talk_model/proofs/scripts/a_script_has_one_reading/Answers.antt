use Rattle.talk_model.proofs.OneScript.{one_script, first_forms}
use Rattle.talk_model.proofs.scripts.a_script_has_one_reading.Goals as goal

pub returns-clause-forms : goal.returns-clause-forms
returns-clause-forms c bytes fs gs a b left right = (one_script bytes fs gs a b left right).forms

pub returns-clause-endings : goal.returns-clause-endings
returns-clause-endings c bytes fs gs a b left right = (one_script bytes fs gs a b left right).endings

pub returns-clause-first_forms : goal.returns-clause-first_forms
returns-clause-first_forms c bytes fs gs a begins script = first_forms bytes fs gs a begins script
