use Rattle.std.proofs.Common.{◌∙◌}
use Rattle.fb_view.proofs.Answering.{refs_told}
use Rattle.fb_view.proofs.facts.SnapshotFacts.refs_to.Goals as goal

pub returns : goal.returns
returns c = c.of.ensures ∙ c.in_ok-facts_led.ensures.facts ∙ refs_told c.args.self.now c.facts_led.ensures.stands c.args.e
