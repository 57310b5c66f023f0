-- The schema says of attributes what the facts say.
use Rattle.std.proofs.Common.{◌∙◌, rules}
use Rattle.fb_model.specs.Facts.{facts}
use Rattle.fb_tuples.proofs.Reading.{many_enough, bad_place-same}
use Rattle.fb_tuples.proofs.given.bad_place.Goals as goal

pub returns : goal.returns
returns c = λ h stands.
    c.first_unfit.ensures ∙ many_enough c.args.schema.now c.args.attrs.now (search rules) (search rules)
    ∙ bad_place-same c.args.schema.now (facts h) (λ e. c.schemas_tell_of_attributes.ensures.attribute c.args.schema.now h e stands) c.args.attrs.now
