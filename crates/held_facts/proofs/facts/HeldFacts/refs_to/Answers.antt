use Rattle.std.proofs.Common.{◌∙◌, ap}
use Rattle.fb_facts.specs.FactLists.{refs_to}
use Rattle.held_facts.proofs.Telling.{told_refs}
use Rattle.held_facts.proofs.facts.HeldFacts.refs_to.Goals as goal

pub returns : goal.returns
returns c =
    c.of.ensures ∙ c.in_ok-refs_to.ensures ∙ told_refs c.self.inside.entries c.self.inside.kept c.self.invariant.3 c.args.e
    ∙ ap (λ h. refs_to h c.args.e) c.self.view_is
