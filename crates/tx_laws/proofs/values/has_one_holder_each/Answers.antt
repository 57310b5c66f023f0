use Rattle.std.proofs.Common.{◌∙◌, sym}
use Rattle.fb_values.specs.declared.indexes.Order.TheVariants.{Eavt}
use Rattle.tx_after.proofs.Orders.{apart_at_t}
use Rattle.tx_laws.proofs.OneEach.{eight-holders, eight-alone, eight-meets}
use Rattle.tx_laws.proofs.values.has_one_holder_each.Goals as goal

pub returns-then-not-keep_holders : goal.returns-then-not-keep_holders
returns-then-not-keep_holders g c =
    let r = c.requires in
    let ds = c.args.datoms.now in
    let rise = apart_at_t Eavt r.changes.t ds r.changes.rising r.changes.of_t in
    eight-holders (g.F.Facts.history c.args.facts.now) ds c.args.schema.now c.args.altered.now r.lawful r.stands rise r.altered
    (sym c.keep_holders.ensures ∙ c.if-not-keep_holders.true)

pub returns-then-not-are_alone : goal.returns-then-not-are_alone
returns-then-not-are_alone g c =
    let r = c.requires in
    let ds = c.args.datoms.now in
    let rise = apart_at_t Eavt r.changes.t ds r.changes.rising r.changes.of_t in
    eight-alone (g.F.Facts.history c.args.facts.now) ds c.args.schema.now c.args.altered.now r.lawful r.stands rise r.altered
    (sym c.keep_holders.ensures ∙ c.if-not-keep_holders.false)
    (sym c.in_ok-are_alone.ensures ∙ c.if-not-are_alone.true)

pub returns : goal.returns
returns g c =
    let r = c.requires in
    let ds = c.args.datoms.now in
    let rise = apart_at_t Eavt r.changes.t ds r.changes.rising r.changes.of_t in
    let is =
    eight-meets (g.F.Facts.history c.args.facts.now) ds c.args.schema.now c.args.altered.now r.lawful r.stands rise r.altered
    (sym c.keep_holders.ensures ∙ c.if-not-keep_holders.false)
    (sym c.in_ok-are_alone.ensures ∙ c.if-not-are_alone.false) in
    c.soles_meet_none.ensures ∙ is
