use Rattle.live_model.proofs.OneReading.{one_reading, first_forms}
use Rattle.live_model.proofs.readings.a_line_has_one_reading.Goals as goal

pub returns-clause-forms : goal.returns-clause-forms
returns-clause-forms c line fs gs a b left right = (one_reading line fs gs a b left right).forms

pub returns-clause-endings : goal.returns-clause-endings
returns-clause-endings c line fs gs a b left right = (one_reading line fs gs a b left right).endings

pub returns-clause-first_forms : goal.returns-clause-first_forms
returns-clause-first_forms c line fs gs a begins says = first_forms line fs gs a begins says
