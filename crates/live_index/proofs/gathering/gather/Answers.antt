use Rattle.std.proofs.Common.{◌∙◌, ◌++◌, List, length, ap}
use Rattle.fb_values.specs.declared.facts.Datom.{Datom}
use Rattle.fb_values.specs.declared.indexes.Order.TheVariants.{Eavt}
use Rattle.live_index.specs.Gathered.{own_in}
use Rattle.live_index.proofs.FromTable.{are_gathered}
use Rattle.live_index.proofs.gathering.gather.Goals as goal

pub returns : goal.returns
returns c =
    let covers = c.args.covers.now in
    let lists = c.args.live.now in
    let refill = c.args.refill.now in
    let one = c.in_ok-table in
    let two = c.in_ok-table-2 in
    let three = c.in_ok-table-3 in
    let four = c.in_ok-table-4 in
    let five = c.in_ok-table-5 in
    are_gathered covers lists refill c.args.datoms.now one.field-0.table two.field-0.table three.field-0.table four.field-0.table
    five.field-0.table one.field-0.last two.field-0.last three.field-0.last four.field-0.last five.field-0.last
    (record {
      is = one.ensures.table ∙ ap (λ (t : List Datom). t ++ own_in covers lists refill Eavt) c.empty-table.ensures;
      from = one.ensures.from ∙ ap length c.empty-table.ensures;
      to = one.ensures.to;
    })
    (record { is = two.ensures.table; from = two.ensures.from; to = two.ensures.to })
    (record { is = three.ensures.table; from = three.ensures.from; to = three.ensures.to })
    (record { is = four.ensures.table; from = four.ensures.from; to = four.ensures.to })
    (record { is = five.ensures.table; from = five.ensures.from; to = five.ensures.to })
