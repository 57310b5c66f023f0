use Rattle.std.proofs.Common.{◌∙◌, sym}
use Rattle.fb_values.specs.declared.indexes.Order.TheVariants.{Eavt}
use Rattle.tx_after.proofs.Orders.{apart_at_t}
use Rattle.tx_laws.proofs.Results.{IfOk-map}
use Rattle.tx_laws.proofs.OneEach.{seven-values, seven-apart, seven-meets}
use Rattle.tx_laws.proofs.values.has_one_value_each.Goals as goal

pub returns-then-not-keep_values : goal.returns-then-not-keep_values
returns-then-not-keep_values g c =
    let r = c.requires in
    let ds = c.args.datoms.now in
    let rise = apart_at_t Eavt r.changes.t ds r.changes.rising r.changes.of_t in
    seven-values (g.F.Facts.history c.args.facts.now) ds c.args.schema.now c.args.altered.now r.lawful r.stands rise r.altered
    (sym c.keep_values.ensures ∙ c.if-not-keep_values.true)

pub returns-then-not-are_apart : goal.returns-then-not-are_apart
returns-then-not-are_apart g c =
    let r = c.requires in
    let ds = c.args.datoms.now in
    let rise = apart_at_t Eavt r.changes.t ds r.changes.rising r.changes.of_t in
    seven-apart (g.F.Facts.history c.args.facts.now) ds c.args.schema.now c.args.altered.now r.lawful r.stands rise r.altered
    (sym c.keep_values.ensures ∙ c.if-not-keep_values.false)
    (sym c.in_ok-are_apart.ensures ∙ c.if-not-are_apart.true)

pub returns : goal.returns
returns g c =
    let r = c.requires in
    let ds = c.args.datoms.now in
    let rise = apart_at_t Eavt r.changes.t ds r.changes.rising r.changes.of_t in
    let is =
    seven-meets (g.F.Facts.history c.args.facts.now) ds c.args.schema.now c.args.altered.now r.lawful r.stands rise r.altered
    (sym c.keep_values.ensures ∙ c.if-not-keep_values.false)
    (sym c.in_ok-are_apart.ensures ∙ c.if-not-are_apart.false) in
    IfOk-map _ _ (λ none same. same ∙ is) c.singles_meet_none.result c.singles_meet_none.ensures
