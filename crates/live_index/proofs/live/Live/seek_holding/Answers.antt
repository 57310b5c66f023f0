use Rattle.std.proofs.Common.{◌<◌, ◌^◌, List, length, sym, subst}
use Rattle.fb_values.specs.declared.facts.Datom.{Datom}
use Rattle.fb_values.specs.Lists.{list_in}
use Rattle.fb_search.specs.Places.{place_of}
use Rattle.fb_model.specs.Facts.{standing}
use Rattle.live_runs.specs.Changed.{from_probe}
use Rattle.live_runs.specs.Bounds.{blocks_at_least}
use Rattle.live_index.proofs.Stepping.{merged_alone, pair_alone}
use Rattle.live_index.proofs.live.Live.seek_holding.Goals as goal

pub invariant_of-result : goal.invariant_of-result
invariant_of-result g c =
    let p = c.args.probe.now in
    let all = list_in c.args.self.now p.order in
    rw (c.seek.ensures.place, c.none.ensures, c.holding.ensures.stands p.order)
    (pair_alone p.order all (place_of p (standing all)) (c.holding.ensures.rising p.order))

pub returns-clause-place : goal.returns-clause-place
returns-clause-place g c =
    let p = c.args.probe.now in
    let all = list_in c.args.self.now p.order in
    let pair = pair_alone p.order all (place_of p (standing all)) (c.holding.ensures.rising p.order) in
    rw (c.seek.ensures.place, c.none.ensures, c.holding.ensures.stands p.order)
    (merged_alone p.order (from_probe p (standing all)) pair.older_rises)

pub returns-clause-cost : goal.returns-clause-cost
returns-clause-cost g c = λ digits few.
    c.seek.ensures.cost digits
    (subst (λ (l : List Datom). blocks_at_least (length l) < 2 ^ digits) (sym (c.holding.ensures.stands c.args.probe.now.order)) few)
