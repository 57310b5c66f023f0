use Rattle.std.proofs.Common.{◌∙◌, List, cond, not, ap, sym, subst}
use Rattle.std.specs.List.{list_all}
use Rattle.fb_values.specs.declared.facts.Datom.{Datom}
use Rattle.fb_values.specs.declared.indexes.Order.TheVariants.{Eavt}
use Rattle.fb_model.specs.Facts.{facts, holds}
use Rattle.fb_model.specs.Laws.{keeps_one_value, keeps_one_holder}
use Rattle.tx_after.specs.After.{after}
use Rattle.tx_after.proofs.Orders.{apart_at_t}
use Rattle.tx_laws.specs.Alterations.{HasAltered}
use Rattle.tx_laws.proofs.Breaking.{sixth, seventh, eighth, ninth, no_later}
use Rattle.tx_laws.proofs.Wholeness.{nine}
use Rattle.tx_laws.proofs.laws.lawful_in_order.Goals as goal

pub returns-then-not-has_changes_alone : goal.returns-then-not-has_changes_alone
returns-then-not-has_changes_alone g c =
    let h = g.F.Facts.history c.args.facts.now in
    let changes = λ (l : List Datom). list_all (λ (d : Datom). cond d.added (not (holds h d.e d.a d.v)) (holds h d.e d.a d.v)) l in
    sixth h c.args.entry.now
    (ap changes (sym c.as_slice-datoms.ensures) ∙ sym c.has_changes_alone.ensures ∙ c.if-not-has_changes_alone.true)

pub returns-then-not-has_one_value : goal.returns-then-not-has_one_value
returns-then-not-has_one_value g c =
    let h = g.F.Facts.history c.args.facts.now in
    let slice = sym c.as_slice-datoms.ensures in
    let changes = λ (l : List Datom). list_all (λ (d : Datom). cond d.added (not (holds h d.e d.a d.v)) (holds h d.e d.a d.v)) l in
    let six = ap changes slice ∙ sym c.has_changes_alone.ensures ∙ c.if-not-has_changes_alone.false in
    seventh h c.args.entry.now six
    ((ap (λ (l : List Datom). keeps_one_value (after h l)) slice ∙ sym c.in_ok-has_one_value.ensures ∙ c.if-not-has_one_value.true))

pub returns-then-not-has_one_holder : goal.returns-then-not-has_one_holder
returns-then-not-has_one_holder g c =
    let h = g.F.Facts.history c.args.facts.now in
    let slice = sym c.as_slice-datoms.ensures in
    let changes = λ (l : List Datom). list_all (λ (d : Datom). cond d.added (not (holds h d.e d.a d.v)) (holds h d.e d.a d.v)) l in
    let six = ap changes slice ∙ sym c.has_changes_alone.ensures ∙ c.if-not-has_changes_alone.false in
    let seven =
    ap (λ (l : List Datom). keeps_one_value (after h l)) slice ∙ sym c.in_ok-has_one_value.ensures ∙ c.if-not-has_one_value.false in
    eighth h c.args.entry.now six seven
    (((ap (λ (l : List Datom). keeps_one_holder (after h l)) slice ∙ sym c.in_ok-has_one_holder.ensures ∙ c.if-not-has_one_holder.true)))

pub returns-then-not-keeps_attributes : goal.returns-then-not-keeps_attributes
returns-then-not-keeps_attributes g c =
    let h = g.F.Facts.history c.args.facts.now in
    let entry = c.args.entry.now in
    let slice = sym c.as_slice-datoms.ensures in
    let changes = λ (l : List Datom). list_all (λ (d : Datom). cond d.added (not (holds h d.e d.a d.v)) (holds h d.e d.a d.v)) l in
    let six = ap changes slice ∙ sym c.has_changes_alone.ensures ∙ c.if-not-has_changes_alone.false in
    let seven =
    ap (λ (l : List Datom). keeps_one_value (after h l)) slice ∙ sym c.in_ok-has_one_value.ensures ∙ c.if-not-has_one_value.false in
    let eight =
    ap (λ (l : List Datom). keeps_one_holder (after h l)) slice ∙ sym c.in_ok-has_one_holder.ensures ∙ c.if-not-has_one_holder.false in
    let r = c.requires in
    let rise = apart_at_t Eavt r.changes.t entry.datoms r.changes.rising r.changes.of_t in
    let has =
    subst (λ (l : List Datom). HasAltered c.in_ok-altered.altered (facts h) (after h l) l) c.as_slice-datoms.ensures
    c.in_ok-altered.ensures in
    let last =
    sym (nine h entry c.args.schema.now c.in_ok-altered.altered r.lawful r.stands rise has)
    ∙ sym c.keeps_attributes.ensures
    ∙ c.if-not-keeps_attributes.true in
    ninth h entry six seven eight last

pub returns : goal.returns
returns g c =
    let h = g.F.Facts.history c.args.facts.now in
    let entry = c.args.entry.now in
    let slice = sym c.as_slice-datoms.ensures in
    let changes = λ (l : List Datom). list_all (λ (d : Datom). cond d.added (not (holds h d.e d.a d.v)) (holds h d.e d.a d.v)) l in
    let six = ap changes slice ∙ sym c.has_changes_alone.ensures ∙ c.if-not-has_changes_alone.false in
    let seven =
    ap (λ (l : List Datom). keeps_one_value (after h l)) slice ∙ sym c.in_ok-has_one_value.ensures ∙ c.if-not-has_one_value.false in
    let eight =
    ap (λ (l : List Datom). keeps_one_holder (after h l)) slice ∙ sym c.in_ok-has_one_holder.ensures ∙ c.if-not-has_one_holder.false in
    let r = c.requires in
    let rise = apart_at_t Eavt r.changes.t entry.datoms r.changes.rising r.changes.of_t in
    let has =
    subst (λ (l : List Datom). HasAltered c.in_ok-altered.altered (facts h) (after h l) l) c.as_slice-datoms.ensures
    c.in_ok-altered.ensures in
    let last =
    sym (nine h entry c.args.schema.now c.in_ok-altered.altered r.lawful r.stands rise has)
    ∙ sym c.keeps_attributes.ensures
    ∙ c.if-not-keeps_attributes.false in
    no_later h entry six seven eight last
