-- By the lemma on such entries.
use Rattle.fb_model.proofs.TextEntries.{text_entry-lawful}
use Rattle.fb_model.proofs.lawful.a_text_of_a_new_entity_is_lawful.Goals as goal

pub returns : goal.returns
returns c = λ h reading text lawful small room utf8 short. text_entry-lawful h reading text lawful small room utf8 short
