use Rattle.std.proofs.Common.{◌≡◌, ◌∙◌, true, false, refl, sym, ap}
use Rattle.std.specs.Ordering.{is_lt}
use Rattle.std.proofs.lemmas.Option.{get_or_from_slice_get}
use Rattle.fb_values.specs.declared.facts.Datom.{Datom}
use Rattle.fb_values.specs.declared.indexes.Order.TheVariants.{Eavt}
use Rattle.fb_values.specs.Orders.{key_cmp}
use Rattle.live_runs.specs.Members.{datom_of, nothing}
use Rattle.live_index.proofs.live.later_number.Goals as goal

pub returns-then-is_before-clause-value : goal.returns-then-is_before-clause-value
returns-then-is_before-clause-value c =
    let table = c.args.table.now in
    let x : datom_of table c.args.x ≡ c.at.result.now = get_or_from_slice_get table c.args.x c.at.result.now nothing c.at.ensures in
    let y : datom_of table c.args.y ≡ c.at-2.result.now = get_or_from_slice_get table c.args.y c.at-2.result.now nothing c.at-2.ensures in
    let less : is_lt (key_cmp Eavt (datom_of table c.args.x) (datom_of table c.args.y)) ≡ true =
    ap (λ (d : Datom). is_lt (key_cmp Eavt d (datom_of table c.args.y))) x
    ∙ ap (λ (d : Datom). is_lt (key_cmp Eavt c.at.result.now d)) y
    ∙ sym c.is_before.ensures ∙ c.if-is_before.true in
    rw less refl

pub returns-else-is_before-clause-value : goal.returns-else-is_before-clause-value
returns-else-is_before-clause-value c =
    let table = c.args.table.now in
    let x : datom_of table c.args.x ≡ c.at.result.now = get_or_from_slice_get table c.args.x c.at.result.now nothing c.at.ensures in
    let y : datom_of table c.args.y ≡ c.at-2.result.now = get_or_from_slice_get table c.args.y c.at-2.result.now nothing c.at-2.ensures in
    let more : is_lt (key_cmp Eavt (datom_of table c.args.x) (datom_of table c.args.y)) ≡ false =
    ap (λ (d : Datom). is_lt (key_cmp Eavt d (datom_of table c.args.y))) x
    ∙ ap (λ (d : Datom). is_lt (key_cmp Eavt c.at.result.now d)) y
    ∙ sym c.is_before.ensures ∙ c.if-is_before.false in
    rw more refl
