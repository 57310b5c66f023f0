use Rattle.std.proofs.Common.{◌∙◌, sym, ap, subst, rules}
use Rattle.std.proofs.lemmas.List.Sorted.{IsPartitionPoint-from_clause}
use Rattle.fb_values.specs.Rising.{IsRising}
use Rattle.fb_search.specs.Places.{is_below, place_of, probe_of}
use Rattle.fb_search.proofs.Own.{partitioned, place_at}
use Rattle.fb_search.proofs.search.place_of_datom.Goals as goal

pub returns : goal.returns
returns g c =
    let held = g.H.HoldsDatom.held in
    let each = g.met.H.HoldsDatom.one_each c.args.holders.now in
    let probe = probe_of c.args.order c.args.datom.now in
    let rising = subst (IsRising c.args.order) each c.requires in
    let point =
    IsPartitionPoint-from_clause (λ h. is_below probe (held h)) c.args.holders.now _ c.partition_point.ensures.partitioned
    (partitioned held probe c.args.holders.now rising) (λ a r f' called. search rules) in
    place_at held probe c.args.holders.now c.partition_point.result c.partition_point.ensures.bound point.0 point.1
    ∙ ap (place_of probe) (sym each)
