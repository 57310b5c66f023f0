use Rattle.fb_values.specs.OrderLaws.{probe_cmp-Equal, Equal-probe_cmp}
use Rattle.fb_values.proofs.laws.probe_is_equal_to_what_begins_so.Goals as goal

pub returns : goal.returns
returns c = (probe_cmp-Equal _ _, Equal-probe_cmp _ _)
