use Rattle.std.proofs.Common.{not, ◌&&◌, ap, sym, ◌∙◌}
use Rattle.fb_values.specs.declared.indexes.Order.TheVariants.{Avet}
use Rattle.fb_model.specs.Schema.{covers}
use Rattle.fb_schema.proofs.schema.is_gained.Goals as goal

pub returns-then-holds : goal.returns-then-holds
returns-then-holds c = λ facts facts_after before after.
    ap not (c.holds-then-holds.ensures ∙ before Avet c.args.a)
    ∙ ap (λ b. b && not (covers facts Avet c.args.a)) (sym (sym (c.holds.ensures ∙ after Avet c.args.a) ∙ c.if-holds.true))

pub returns-else-holds : goal.returns-else-holds
returns-else-holds c = λ facts facts_after before after.
    c.if-holds.false
    ∙ ap (λ b. b && not (covers facts Avet c.args.a)) (sym (sym (c.holds.ensures ∙ after Avet c.args.a) ∙ c.if-holds.false))
