-- The schema's coverage is that of the history.
use Rattle.std.proofs.Common.{◌∙◌, ap}
use Rattle.fb_values.specs.declared.indexes.Order.TheVariants.{Avet}
use Rattle.fb_model.specs.Schema.{covers}
use Rattle.fb_tuples.proofs.reach.is_held_by_value.Goals as goal

pub returns : goal.returns
returns g c =
    c.holds.ensures ∙ c.covers.ensures Avet c.args.a ∙ ap (λ s. covers s Avet c.args.a) c.schema.ensures.schema
    ∙ c.schemas_tell_of_attributes.ensures.coverage c.args.db.now.snapshot.schema c.args.db.now.snapshot.entries Avet c.args.a c.schema.ensures.stands.schema_is
