use Rattle.std.proofs.Common.{◌≡◌, sym, ◌∙◌}
use Rattle.std.specs.declared.cmp.Ordering.TheVariants.{Less, Greater}
use Rattle.fb_values.specs.Orders.{key_cmp}
use Rattle.fb_values.specs.OrderLaws.{key_cmp_total}
use Rattle.live_runs.specs.Members.{datom_of}
use Rattle.live_runs.proofs.Prefixed.{lesser_member}
use Rattle.live_runs.proofs.members.cmp_members.Goals as goal

pub returns-then-is_below : goal.returns-then-is_below
returns-then-is_below c =
    sym (lesser_member c.args.order c.args.table.now c.args.x.now c.args.y.now c.requires.x c.requires.y
    (sym c.is_below.ensures ∙ c.if-is_below.true))

pub returns-then-is_below-2 : goal.returns-then-is_below-2
returns-then-is_below-2 c =
    let less : key_cmp c.args.order (datom_of c.args.table.now c.args.y.now.number) (datom_of c.args.table.now c.args.x.now.number) ≡ Less =
    lesser_member c.args.order c.args.table.now c.args.y.now c.args.x.now c.requires.y c.requires.x
    (sym c.is_below-else-is_below.ensures ∙ c.if-is_below-2.true) in
    let back : key_cmp c.args.order (datom_of c.args.table.now c.args.x.now.number) (datom_of c.args.table.now c.args.y.now.number) ≡ Greater =
    cc ((key_cmp_total c.args.order).antisymm (datom_of c.args.table.now c.args.x.now.number) (datom_of c.args.table.now c.args.y.now.number)) in
    sym back
