-- A lesser prefix is of a lesser datom, order by order.
use Rattle.std.proofs.Common.{◌≡◌, ℕ, ◌-◌, ◌^◌, ◌<◌, true, refl, arith}
use Rattle.std.specs.Ordering.{nat_cmp, ordering_then}
use Rattle.std.specs.declared.cmp.Ordering.{Ordering}
use Rattle.std.specs.declared.cmp.Ordering.TheVariants.{Less, Equal}
use Rattle.fb_values.specs.declared.facts.Datom.{Datom}
use Rattle.fb_values.specs.declared.indexes.Order.{Order}
use Rattle.fb_values.specs.declared.indexes.Order.TheVariants.{Eavt, Aevt, Avet, Vaet}
use Rattle.fb_values.specs.Orders.{key_cmp, value_cmp}
use Rattle.fb_prefix.specs.declared.parts.Part.{Part}
use Rattle.fb_prefix.specs.Parts.{entity_part, attribute_part, value_part}
use Rattle.fb_prefix.specs.Prefixes.{is_lesser, pair, value_and_entity, prefix_in}
use Rattle.fb_prefix.proofs.Agreeing.{AgreeByWords, Agree, lesser_agrees, pair_agrees, put_agrees, nat_less, nat_equal}
use Rattle.fb_prefix.proofs.Contents.{held_agrees, attributes_agree, attribute_below, values_agree, long_range, short_range, values_and_entities_agree, value_below}

pub entity_below : (e : ℕ) → (entity_part e).n < 2 ^ 48
entity_below e = omega arith

pub entities_agree : (m n : ℕ) → Agree (record { n = m; is_whole = true }) (record { n = n; is_whole = true }) (nat_cmp m n)
entities_agree m n = record { rises = nat_less m n; exact = λ same whole. (nat_equal m n same, refl) }

-- how the transactions compare decides last
abbrev last : Datom → Datom → Ordering
last x y = ordering_then (nat_cmp x.t y.t) Equal

prefixes_agree : (order : Order) (x y : Datom) → AgreeByWords (prefix_in order x) (prefix_in order y) (key_cmp order x y)
prefixes_agree Eavt x y =
    let ax = attribute_part x.a in
    let ay = attribute_part y.a in
    let vx = value_part (2 ^ 59) x.v in
    let vy = value_part (2 ^ 59) y.v in
    put_agrees (2 ^ 14) (entity_part x.e) (entity_part y.e) (pair ax vx) (pair ay vy) (nat_cmp x.e y.e)
    (ordering_then (nat_cmp x.a y.a) (ordering_then (value_cmp x.v y.v) (last x y))) (attribute_below x.a) (attribute_below y.a)
    (held_agrees x.e y.e (2 ^ 48 - 1))
    (pair_agrees ax ay vx vy (nat_cmp x.a y.a) (value_cmp x.v y.v) (last x y) (attributes_agree x.a y.a) (values_agree (2 ^ 59) x.v y.v long_range))
prefixes_agree Aevt x y =
    let ex = entity_part x.e in
    let ey = entity_part y.e in
    let vx = value_part (2 ^ 59) x.v in
    let vy = value_part (2 ^ 59) y.v in
    put_agrees (2 ^ 48) (attribute_part x.a) (attribute_part y.a) (pair ex vx) (pair ey vy) (nat_cmp x.a y.a)
    (ordering_then (nat_cmp x.e y.e) (ordering_then (value_cmp x.v y.v) (last x y))) (entity_below x.e) (entity_below y.e)
    (attributes_agree x.a y.a)
    (pair_agrees ex ey vx vy (nat_cmp x.e y.e) (value_cmp x.v y.v) (last x y) (held_agrees x.e y.e (2 ^ 48 - 1)) (values_agree (2 ^ 59) x.v y.v long_range))
prefixes_agree Avet x y =
    put_agrees (2 ^ 50) (attribute_part x.a) (attribute_part y.a) (value_and_entity x) (value_and_entity y) (nat_cmp x.a y.a)
    (ordering_then (value_cmp x.v y.v) (ordering_then (nat_cmp x.e y.e) (last x y))) (value_below x.v) (value_below y.v) (attributes_agree x.a y.a)
    (values_and_entities_agree x y (last x y))
prefixes_agree Vaet x y =
    let ax = attribute_part x.a in
    let ay = attribute_part y.a in
    let ex : Part = record { n = x.e; is_whole = true } in
    let ey : Part = record { n = y.e; is_whole = true } in
    put_agrees (2 ^ 14) (value_part (2 ^ 45) x.v) (value_part (2 ^ 45) y.v) (pair ax ex) (pair ay ey) (value_cmp x.v y.v)
    (ordering_then (nat_cmp x.a y.a) (ordering_then (nat_cmp x.e y.e) (last x y))) (attribute_below x.a) (attribute_below y.a)
    (values_agree (2 ^ 45) x.v y.v short_range)
    (pair_agrees ax ay ex ey (nat_cmp x.a y.a) (nat_cmp x.e y.e) (last x y) (attributes_agree x.a y.a) (entities_agree x.e y.e))

pub lesser_prefix : (order : Order) (x y : Datom) → is_lesser (prefix_in order x) (prefix_in order y) ≡ true → key_cmp order x y ≡ Less
lesser_prefix order x y lesser = lesser_agrees (prefix_in order x) (prefix_in order y) (key_cmp order x y) (prefixes_agree order x y) lesser
