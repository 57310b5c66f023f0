use Rattle.std.proofs.Common.{◌∙◌, ap}
use Rattle.fb_model.specs.Facts.{holder, facts}
use Rattle.held_facts.proofs.Holder.{told_holder}
use Rattle.held_facts.proofs.facts.HeldFacts.holder.Goals as goal

pub returns : goal.returns
returns c =
    c.holder.ensures ∙ told_holder c.self.inside.entries c.self.inside.kept c.self.invariant.3 c.args.a c.args.v.now
    ∙ ap (λ h. holder (facts h) c.args.a c.args.v.now) c.self.view_is
