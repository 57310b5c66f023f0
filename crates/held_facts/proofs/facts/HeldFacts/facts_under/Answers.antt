use Rattle.std.proofs.Common.{◌∙◌, ap}
use Rattle.fb_facts.specs.FactLists.{facts_under}
use Rattle.held_facts.proofs.Telling.{told_under}
use Rattle.held_facts.proofs.facts.HeldFacts.facts_under.Goals as goal

pub returns : goal.returns
returns c =
    c.of.ensures ∙ c.in_ok-facts_under.ensures ∙ told_under c.self.inside.entries c.self.inside.kept c.self.invariant.3 c.args.a
    ∙ ap (λ h. facts_under h c.args.a) c.self.view_is
