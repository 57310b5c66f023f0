use Rattle.std.proofs.Common.{◌∙◌}
use Rattle.fb_values.specs.declared.indexes.Order.TheVariants.{Avet}
use Rattle.fb_tuple_guard.proofs.holders.is_in_avet.Goals as goal

pub returns : goal.returns
returns c = c.holds.ensures ∙ c.covers.ensures Avet c.args.a
