-- A search finds the entity exactly if it is one of them.
use Rattle.std.proofs.Common.{◌∙◌}
use Rattle.fb_tuples.proofs.Renewing.{named_searched}
use Rattle.fb_tuples.proofs.renewed.is_named.Goals as goal

pub returns : goal.returns
returns c =
    c.is_ok.ensures.value ∙ named_searched c.args.entities.now c.args.e c.binary_search.result c.requires c.binary_search.ensures.position
