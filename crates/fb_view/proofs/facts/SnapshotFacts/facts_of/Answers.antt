use Rattle.std.proofs.Common.{◌∙◌}
use Rattle.fb_view.proofs.Answering.{entity_told}
use Rattle.fb_view.proofs.facts.SnapshotFacts.facts_of.Goals as goal

pub returns : goal.returns
returns c = c.of.ensures ∙ c.in_ok-facts_led.ensures.facts ∙ entity_told c.args.self.now c.facts_led.ensures.stands c.args.e
