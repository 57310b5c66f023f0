-- The schema says of attributes what the facts say.
use Rattle.std.proofs.Common.{◌∙◌, ap, sym, option_map, Option, Some, None}
use Rattle.std.specs.Prelude.{Vec}
use Rattle.std.specs.declared.alloc.Global.{Global}
use Rattle.fb_values.specs.declared.facts.Value.{Value}
use Rattle.fb_model.specs.Facts.{facts}
use Rattle.fb_tuples.proofs.Reading.{bound_given}
use Rattle.fb_tuples.proofs.given.bound.Goals as goal

pub returns-in-Some : goal.returns-in-Some
returns-in-Some c = λ h stands.
    bound_given c.args.schema.now (facts h) (λ e. c.schemas_tell_of_attributes.ensures.attribute c.args.schema.now h e stands) c.args.attrs.now
    c.args.form.now c.in-Vector.members c.in-Vector.is c.as_slice.result.now c.as_slice.ensures (Some c.in-Some.tuple.items)
    (ap (option_map (λ (list : Vec (Option Value) Global). list.items)) (sym c.in-Some.is) ∙ c.in_ok-tuple-in-Vector.ensures)

pub returns-in-None : goal.returns-in-None
returns-in-None c = λ h stands.
    bound_given c.args.schema.now (facts h) (λ e. c.schemas_tell_of_attributes.ensures.attribute c.args.schema.now h e stands) c.args.attrs.now
    c.args.form.now c.in-Vector.members c.in-Vector.is c.as_slice.result.now c.as_slice.ensures None
    (ap (option_map (λ (list : Vec (Option Value) Global). list.items)) (sym c.in-None.is) ∙ c.in_ok-tuple-in-Vector.ensures)
