use Rattle.fb_covers.proofs.Keys.{part-iff}
use Rattle.fb_covers.proofs.is_part_of.Goals as goal

pub returns : goal.returns
returns c = part-iff c.args.set.now c.args.other.now c.keys_are_in.result c.keys_are_in.ensures
