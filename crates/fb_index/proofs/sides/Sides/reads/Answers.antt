use Rattle.std.proofs.Common.{◌∙◌, not, ap}
use Rattle.std.specs.List.{list_any}
use Rattle.fb_values.specs.declared.indexes.Order.TheVariants.{Eavt}
use Rattle.live_index.specs.Ending.{is_mate}
use Rattle.fb_index.proofs.sides.Sides.reads.Goals as goal

pub returns-in-Held : goal.returns-in-Held
returns-in-Held c = rw c.in-Held.is (ap not (c.has_mate.ensures ∙ ap (list_any (is_mate c.args.d.now)) (c.past.ensures.withdrawn Eavt)))
