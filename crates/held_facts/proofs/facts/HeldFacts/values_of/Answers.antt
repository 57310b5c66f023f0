use Rattle.std.proofs.Common.{◌∙◌, ap, sym}
use Rattle.std.proofs.lemmas.Result.{IfOk-weaker}
use Rattle.fb_values.specs.declared.indexes.Order.TheVariants.{Eavt}
use Rattle.fb_model.specs.Schema.{is_about}
use Rattle.fb_facts.specs.FactLists.{values_of}
use Rattle.held_facts.proofs.Telling.{told_values}
use Rattle.held_facts.proofs.NewEntities.{new_has_no_values}
use Rattle.held_facts.proofs.facts.HeldFacts.values_of.Goals as goal

pub returns-then-is_new : goal.returns-then-is_new
returns-then-is_new c =
    let told = c.the_lists_are_the_rising_ones.ensures c.args.self.now Eavt (is_about c.args.e c.args.a) in
    let new = sym c.is_new.ensures ∙ c.if-is_new.true in
    c.new.ensures.items ∙ new_has_no_values c.args.self.now c.args.e c.args.a told c.new_users_have_no_facts.ensures.no_datom new

pub returns : goal.returns
returns c =
    IfOk-weaker c.values_of.result _ _
    (λ values is. is
    ∙ told_values c.self.inside.entries c.self.inside.kept c.self.invariant.3 c.args.e c.args.a
    ∙ ap (λ h. values_of h c.args.e c.args.a) c.self.view_is)
    c.values_of.ensures
