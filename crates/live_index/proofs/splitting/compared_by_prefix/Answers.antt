use Rattle.std.proofs.Common.{◌≡◌, ◌∙◌, true, sym, ap}
use Rattle.std.specs.declared.cmp.Ordering.TheVariants.{Less, Greater}
use Rattle.fb_values.specs.declared.facts.Datom.{Datom}
use Rattle.fb_values.specs.declared.indexes.Order.{Order}
use Rattle.fb_values.specs.Orders.{key_cmp}
use Rattle.fb_values.specs.OrderLaws.{key_cmp_total}
use Rattle.fb_prefix.specs.Prefixes.{is_lesser, prefix_in}
use Rattle.live_index.proofs.splitting.compared_by_prefix.Goals as goal

greater_than : (order : Order) (x y : Datom) → key_cmp order y x ≡ Less → key_cmp order x y ≡ Greater
greater_than order x y less = cc ((key_cmp_total order).antisymm x y)

pub returns-then-is_below-2 : goal.returns-then-is_below-2
returns-then-is_below-2 c =
    let order = c.args.order in
    let x = c.args.x.now in
    let y = c.args.y.now in
    let first : x.member.prefix ≡ prefix_in order x.datom.now = x.prefix_is ∙ ap (λ o. prefix_in o x.datom.now) c.requires.x in
    let second : y.member.prefix ≡ prefix_in order y.datom.now = y.prefix_is ∙ ap (λ o. prefix_in o y.datom.now) c.requires.y in
    let lesser : is_lesser (prefix_in order y.datom.now) (prefix_in order x.datom.now) ≡ true =
    ap (is_lesser (prefix_in order y.datom.now)) (sym first)
    ∙ ap (λ p. is_lesser p x.member.prefix) (sym second)
    ∙ sym c.is_below-else-is_below.ensures
    ∙ c.if-is_below-2.true in
    sym (greater_than order x.datom.now y.datom.now
    (c.a_lesser_prefix_is_of_a_lesser_datom.ensures order y.datom.now x.datom.now lesser))
