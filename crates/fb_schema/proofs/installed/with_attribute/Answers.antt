use Rattle.std.proofs.Common.{cond, eqb, ap, sym, ◌∙◌}
use Rattle.std.specs.Ordering.{nat_cmp}
use Rattle.shared_map.specs.Entries.{get}
use Rattle.fb_schema.proofs.Results.{IfOk-map}
use Rattle.fb_schema.proofs.Steps.{attribute-put, attribute-removed}
use Rattle.fb_schema.proofs.installed.with_attribute.Goals as goal

pub returns-in-Some : goal.returns-in-Some
returns-in-Some c =
    IfOk-map _ _
    (λ new is k.
    ap (λ m. get nat_cmp m k) is ∙ attribute-put c.args.attributes.now c.args.e c.in-Some.attribute k
    ∙ ap (λ o. cond (eqb c.args.e k) o (get nat_cmp c.args.attributes.now k)) (sym c.in-Some.is))
    c.with.result c.with.ensures

pub returns-in-None : goal.returns-in-None
returns-in-None c =
    IfOk-map _ _
    (λ new is k.
    ap (λ m. get nat_cmp m k) is ∙ attribute-removed c.args.attributes.now c.args.e k c.without.ensures.rising
    ∙ ap (λ o. cond (eqb c.args.e k) o (get nat_cmp c.args.attributes.now k)) (sym c.in-None.is))
    c.without.result c.without.ensures.entries
