use Rattle.std.proofs.Common.{◌∙◌, ap}
use Rattle.tx_after.specs.After.{after}
use Rattle.tx_after.specs.Said.{says_attribute}
use Rattle.tx_after.proofs.Describing.{says-said}
use Rattle.tx_after.proofs.described.description_after.Goals as goal

pub returns-clause-says_attribute : goal.returns-clause-says_attribute
returns-clause-says_attribute g c =
    c.says_attribute.ensures ∙ ap says_attribute c.in_ok-said.ensures
    ∙ says-said c.args.e (after (g.F.Facts.history c.args.facts.now) c.args.changes.now)
