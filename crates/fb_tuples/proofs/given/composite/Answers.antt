-- The schema says of names what the facts say.
use Rattle.std.proofs.Common.{◌∙◌, ℕ, ap, sym, option_map, Some, None}
use Rattle.std.specs.Prelude.{Vec}
use Rattle.std.specs.declared.alloc.Global.{Global}
use Rattle.fb_model.specs.Facts.{facts}
use Rattle.fb_tuples.proofs.Reading.{composite_given}
use Rattle.fb_tuples.proofs.given.composite.Goals as goal

pub returns-in-Some : goal.returns-in-Some
returns-in-Some c = λ h stands.
    c.if_composite.ensures h stands
    ∙ composite_given c.args.schema.now (facts h) (λ name. c.schemas_tell_of_attributes.ensures.name c.args.schema.now h name stands)
    c.args.form.now c.in-Vector.names c.in-Vector.is c.as_slice.result.now c.as_slice.ensures (Some c.in-Some.attrs.items)
    (ap (option_map (λ (list : Vec ℕ Global). list.items)) (sym c.in-Some.is) ∙ c.in_ok-attrs.ensures)

pub returns-in-None : goal.returns-in-None
returns-in-None c = λ h stands.
    composite_given c.args.schema.now (facts h) (λ name. c.schemas_tell_of_attributes.ensures.name c.args.schema.now h name stands)
    c.args.form.now c.in-Vector.names c.in-Vector.is c.as_slice.result.now c.as_slice.ensures None
    (ap (option_map (λ (list : Vec ℕ Global). list.items)) (sym c.in-None.is) ∙ c.in_ok-attrs.ensures)
