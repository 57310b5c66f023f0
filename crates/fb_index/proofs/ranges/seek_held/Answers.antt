use Rattle.std.proofs.Common.{◌∙◌}
use Rattle.fb_model.specs.Facts.{standing}
use Rattle.fb_values.specs.Lists.{list_in}
use Rattle.live_index.proofs.Together.{rising-standing}
use Rattle.fb_index.proofs.Merging.{from_place}
use Rattle.fb_index.proofs.ranges.seek_held.Goals as goal

pub returns : goal.returns
returns g c =
    let p = c.args.probe.now in
    let ds = list_in c.args.live.now p.order in
    c.seek_holding.ensures.place ∙ from_place p (standing ds) (rising-standing p.order ds (c.holding.ensures.rising p.order))
