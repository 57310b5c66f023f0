use Rattle.std.proofs.Common.{◌∙◌}
use Rattle.fb_values.specs.Lists.{list_in}
use Rattle.fb_index.proofs.Merging.{from_place}
use Rattle.fb_index.proofs.ranges.seek_said.Goals as goal

pub returns-clause-walk : goal.returns-clause-walk
returns-clause-walk g c =
    let p = c.args.probe.now in
    c.seek.ensures.place ∙ from_place p (list_in c.args.live.now p.order) c.seek.ensures.rising
