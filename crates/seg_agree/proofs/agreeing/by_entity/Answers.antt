use Rattle.std.proofs.Common.{◌∙◌}
use Rattle.fb_model.specs.History.{upto}
use Rattle.seg_agree.proofs.Counting.{every_by_entity, every_by_attribute}
use Rattle.seg_agree.proofs.agreeing.by_entity.Goals as goal

pub is-requires-clause-len : goal.is-requires-clause-len
is-requires-clause-len c = c.requires.len ∙ every_by_entity (upto c.args.entries.now c.args.c)

pub is-requires-then-is-clause-len : goal.is-requires-then-is-clause-len
is-requires-then-is-clause-len c = c.requires.len ∙ every_by_attribute (upto c.args.entries.now c.args.c)
