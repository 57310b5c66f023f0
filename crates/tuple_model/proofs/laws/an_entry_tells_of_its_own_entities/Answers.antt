-- By the lemmas on untouched entities.
use Rattle.tuple_model.proofs.Entries.{tuple_of-untouched, has_one_of-untouched}
use Rattle.tuple_model.proofs.laws.an_entry_tells_of_its_own_entities.Goals as goal

pub returns-clause-tuple : goal.returns-clause-tuple
returns-clause-tuple c = tuple_of-untouched

pub returns-clause-some : goal.returns-clause-some
returns-clause-some c = has_one_of-untouched
