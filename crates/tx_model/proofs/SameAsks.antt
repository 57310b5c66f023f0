-- What a transaction records depends on which changes are asked, and not on their order or number.
use Rattle.std.proofs.Common.{◌≡◌, List}
use Rattle.std.specs.Prelude.{filter, Contains}
use Rattle.fb_values.specs.declared.facts.Datom.{Datom}
use Rattle.fb_values.specs.declared.indexes.Order.TheVariants.{Eavt}
use Rattle.fb_model.proofs.Members.{kept, keep, in_order-rises, in_order_member}
use Rattle.fb_model.proofs.InOrder.{in_order_has, one_rising_list}
use Rattle.tx_model.specs.Transaction.{is_change, changes_in}
use Rattle.tx_model.proofs.Recorded.{one_change}

fewer : (ds asked other : List Datom) → ((d : Datom) → Contains asked d → Contains other d) → (d : Datom) → Contains (changes_in ds asked) d
    → Contains (changes_in ds other) d
fewer ds asked other among d member =
    let is = kept (is_change ds) asked d (in_order_member Eavt (filter (is_change ds) asked) d member) in
    in_order_has Eavt (filter (is_change ds) other) (one_change ds other) d (keep (is_change ds) other d (among d is.member) is.passes)

pub changes_in-same : (ds asked other : List Datom) → ((d : Datom) → Contains asked d → Contains other d)
    → ((d : Datom) → Contains other d → Contains asked d) → changes_in ds asked ≡ changes_in ds other
changes_in-same ds asked other forth back =
    one_rising_list Eavt (changes_in ds asked) (changes_in ds other)
    (in_order-rises Eavt (filter (is_change ds) asked)) (in_order-rises Eavt (filter (is_change ds) other))
    (fewer ds asked other forth) (fewer ds other asked back)
