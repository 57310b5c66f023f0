use Rattle.std.proofs.Common.{◌∙◌, ap}
use Rattle.fb_facts.specs.FactLists.{facts_of}
use Rattle.held_facts.proofs.Telling.{told_facts}
use Rattle.held_facts.proofs.facts.HeldFacts.facts_of.Goals as goal

pub returns : goal.returns
returns c =
    c.of.ensures ∙ c.in_ok-facts_of.ensures ∙ told_facts c.self.inside.entries c.self.inside.kept c.self.invariant.3 c.args.e
    ∙ ap (λ h. facts_of h c.args.e) c.self.view_is
