use Rattle.std.proofs.Common.{◌∙◌, not, sym, ap}
use Rattle.fb_search.proofs.Own.{is_below-probe_of}
use Rattle.live_runs.proofs.Triples.{below_triple, mate_not_below}
use Rattle.live_runs.proofs.aim.is_triple_above.Goals as goal

pub returns-then-not-is_mate : goal.returns-then-not-is_mate
returns-then-not-is_mate c =
    c.stands_after.ensures
    ∙ is_below-probe_of c.args.order c.args.d.now c.args.x.now
    ∙ below_triple c.args.order c.args.d.now c.args.x.now (sym c.is_mate.ensures ∙ c.if-not-is_mate.true)

pub returns-else-not-is_mate : goal.returns-else-not-is_mate
returns-else-not-is_mate c =
    ap not c.if-not-is_mate.false
    ∙ sym (mate_not_below c.args.order c.args.d.now c.args.x.now (sym c.is_mate.ensures ∙ c.if-not-is_mate.false))
