use Rattle.fb_values.specs.OrderLaws.{value_cmp_total}
use Rattle.fb_values.proofs.laws.values_are_totally_ordered.Goals as goal

pub returns : goal.returns
returns c = value_cmp_total
