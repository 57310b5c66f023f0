use Rattle.std.proofs.Common.{◌∙◌, ap}
use Rattle.std.specs.Option.{option_map}
use Rattle.fb_run.proofs.summary.id_in.Goals as goal

pub returns-in-Some : goal.returns-in-Some
returns-in-Some c = λ h stands.
    ap (option_map (λ found. found.id))
    (c.in-Some.ensures ∙ c.schemas_tell_of_attributes.ensures.name c.args.schema.now h c.args.name.now stands)

pub returns-in-None : goal.returns-in-None
returns-in-None c = λ h stands.
    ap (option_map (λ found. found.id))
    (c.in-None.ensures ∙ c.schemas_tell_of_attributes.ensures.name c.args.schema.now h c.args.name.now stands)
