use Rattle.fb_values.specs.OrderLaws.{key_cmp_total}
use Rattle.fb_values.proofs.laws.keys_are_totally_ordered.Goals as goal

pub returns : goal.returns
returns c = key_cmp_total _
