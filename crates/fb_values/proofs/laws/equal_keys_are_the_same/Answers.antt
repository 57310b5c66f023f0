use Rattle.fb_values.specs.OrderLaws.{key_cmp-Equal}
use Rattle.fb_values.proofs.laws.equal_keys_are_the_same.Goals as goal

pub returns : goal.returns
returns c = key_cmp-Equal _ _ _ c.requires
