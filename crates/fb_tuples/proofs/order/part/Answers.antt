-- One end after the other.
use Rattle.std.proofs.Common.{◌∙◌, ap, map, option_map, None}
use Rattle.tuple_model.specs.Tuples.{range}
use Rattle.fb_tuples.proofs.BelowBounds.{range_in_turn}
use Rattle.fb_tuples.proofs.order.part.Goals as goal

pub returns : goal.returns
returns g c =
    let start = option_map (λ bound. bound.now) c.args.start in
    let end = option_map (λ bound. bound.now) c.args.end in
    c.before-2.ensures ∙ ap (range None end) c.from.ensures.rows ∙ range_in_turn start end (map g.R.Bounded.stands_for c.args.rows.now)
