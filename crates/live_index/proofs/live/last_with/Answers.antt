use Rattle.std.proofs.Common.{◌∙◌, ◌<◌, sym, ap, arith}
use Rattle.fb_values.specs.declared.indexes.Order.TheVariants.{Eavt}
use Rattle.live_index.specs.Lists.{numbered}
use Rattle.live_index.specs.Walks.{later_of}
use Rattle.live_index.proofs.Numbers.{last_at, later_none, none_last}
use Rattle.live_index.proofs.live.last_with.Goals as goal

pub returns-else-first-count-clause-value : goal.returns-else-first-count-clause-value
returns-else-first-count-clause-value c =
    let table = c.args.table.now in
    sym (ap (later_of Eavt (numbered table c.args.last))
    (none_last c.args.first table (omega (arith, c.if-first-count.false, c.count_of-count.ensures)))
    ∙ later_none Eavt (numbered table c.args.last))

pub later_of-requires-clause-newest : goal.later_of-requires-clause-newest
later_of-requires-clause-newest c = omega (arith, c.if-first-count.true, c.count_of-count.ensures)

pub returns-then-first-count-clause-value : goal.returns-then-first-count-clause-value
returns-then-first-count-clause-value c =
    let table = c.args.table.now in
    let some : c.args.first < c.count_of-count.result = omega (arith, c.if-first-count.true, c.count_of-count.ensures) in
    c.later_of.ensures.value
    ∙ ap (later_of Eavt (numbered table c.args.last)) (sym (last_at c.args.first c.count_of-count.result table c.count_of-count.ensures some))
