use Rattle.std.proofs.Common.{◌∙◌, ap, sym}
use Rattle.fb_model.specs.Facts.{holds}
use Rattle.held_facts.proofs.Telling.{told_holds}
use Rattle.held_facts.proofs.NewEntities.{new_holds_nothing}
use Rattle.held_facts.proofs.facts.HeldFacts.holds.Goals as goal

pub returns-then-is_new : goal.returns-then-is_new
returns-then-is_new c =
    sym (new_holds_nothing c.args.self.now c.args.e c.args.a c.args.v.now c.new_users_have_no_facts.ensures.no_fact
    (sym c.is_new.ensures ∙ c.if-is_new.true))

pub returns : goal.returns
returns c =
    c.holds.ensures ∙ told_holds c.self.inside.entries c.self.inside.kept c.self.invariant.3 c.args.e c.args.a c.args.v.now
    ∙ ap (λ h. holds h c.args.e c.args.a c.args.v.now) c.self.view_is
