-- The schema says of names what the facts say.
use Rattle.std.proofs.Common.{◌∙◌, ℕ, ap, sym, option_map, Some, None}
use Rattle.std.specs.Prelude.{Vec}
use Rattle.std.specs.declared.alloc.Global.{Global}
use Rattle.fb_model.specs.Facts.{facts}
use Rattle.fb_tuple_guard.proofs.Composites.{composite_read}
use Rattle.fb_tuple_guard.proofs.named.composite_named.Goals as goal

pub returns-in-Some : goal.returns-in-Some
returns-in-Some c = λ h stands.
    c.if_composite.ensures h stands
    ∙ composite_read c.args.schema.now (facts h) (λ name. c.schemas_tell_of_attributes.ensures.name c.args.schema.now h name stands)
    c.args.names.now (Some c.in-Some.attrs.items)
    (ap (option_map (λ (list : Vec ℕ Global). list.items)) (sym c.in-Some.is) ∙ c.in_ok-attrs.ensures)

pub returns-in-None : goal.returns-in-None
returns-in-None c = λ h stands.
    composite_read c.args.schema.now (facts h) (λ name. c.schemas_tell_of_attributes.ensures.name c.args.schema.now h name stands)
    c.args.names.now None
    (ap (option_map (λ (list : Vec ℕ Global). list.items)) (sym c.in-None.is) ∙ c.in_ok-attrs.ensures)
