-- By the lemma on triples.
use Rattle.fb_model.proofs.Triples.{holds-facts}
use Rattle.fb_model.proofs.schema.facts_are_what_holds.Goals as goal

pub returns : goal.returns
returns c = holds-facts
