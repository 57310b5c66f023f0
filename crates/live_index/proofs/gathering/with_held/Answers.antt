use Rattle.std.proofs.Common.{◌++◌, List, append-nil, sym, ap, ◌∙◌}
use Rattle.std.specs.Prelude.{filter}
use Rattle.std.proofs.lemmas.List.{take_all}
use Rattle.fb_values.specs.declared.facts.Datom.{Datom}
use Rattle.live_index.specs.Growth.{is_held}
use Rattle.live_index.proofs.Ranking.{held_more}
use Rattle.live_index.proofs.gathering.with_held.Goals as goal

pub loop-datom-init : goal.loop-datom-init
loop-datom-init c = sym (append-nil c.args.held.items)

pub loop-datom-preserved : goal.loop-datom-preserved
loop-datom-preserved c =
    held_more (is_held c.args.covers.now c.args.order) c.args.held.items c.args.more.now c.loop-datom.datom-index c.datom-item.result
    c.loop-datom.held.items c.in_ok-held.held.items c.loop-datom.invariant c.loop-datom-test.true (sym c.datom-item.is) c.in_ok-held.ensures

pub returns : goal.returns
returns c =
    c.loop-datom.invariant
    ∙ ap (λ (ds : List Datom). c.args.held.items ++ filter (is_held c.args.covers.now c.args.order) ds)
    (take_all c.loop-datom.datom-index c.args.more.now c.loop-datom-test.false)
