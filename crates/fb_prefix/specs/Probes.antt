-- Where a probe leads among prefixes.
-- This project's own choice.
use Rattle.std.specs.Prelude.{ℕ, ◌^◌, Bool, true, not, ◌&&◌, Option, Some, None}
use Rattle.std.specs.Option.{is_some}
use Rattle.std.specs.Ordering.{is_gt}
use Rattle.fb_values.specs.declared.facts.Value.{Value}
use Rattle.fb_values.specs.declared.facts.Datom.{Datom}
use Rattle.fb_values.specs.declared.indexes.Order.{Order}
use Rattle.fb_values.specs.declared.indexes.Order.TheVariants.{Eavt, Aevt, Avet, Vaet}
use Rattle.fb_values.specs.declared.indexes.Probe.{Probe}
use Rattle.fb_values.specs.Orders.{probe_cmp}
use Rattle.fb_prefix.specs.declared.parts.Part.{Part}
use Rattle.fb_prefix.specs.declared.prefixes.Prefix.{Prefix}
use Rattle.fb_prefix.specs.declared.probes.Sought.{Sought}
use Rattle.fb_prefix.specs.Parts.{entity_part, attribute_part, value_part, sixteen}
use Rattle.fb_prefix.specs.Prefixes.{pair, put, behind_value}

-- a component that a probe gives and that counts, and else the least
abbrev pub asked : Bool → Option ℕ → ℕ
asked true (Some n) = n
asked counts n = 0

abbrev pub asked_value : ℕ → Bool → Option Value → Part
asked_value middle true (Some v) = value_part middle v
asked_value middle counts v = record { n = 0; is_whole = true }

abbrev pub asked_sixteen : Bool → Option Value → Option ℕ
asked_sixteen true (Some v) = sixteen v
asked_sixteen counts v = None

abbrev pub gives_all : Option ℕ → Option ℕ → Option Value → Option ℕ → Bool
gives_all e a v t = is_some e && is_some a && is_some v && is_some t

-- the prefix of the least datom that a probe leads to, and whether it has all that is given
abbrev pub sought_at : Order → Option ℕ → Option ℕ → Option Value → Option ℕ → Sought
sought_at Eavt e a v t =
    let entity = entity_part (asked true e) in
    let attribute = attribute_part (asked (is_some e) a) in
    let value = asked_value (2 ^ 59) (is_some e && is_some a) v in
    record {
      from = put (2 ^ 14) entity (pair attribute value);
      is_whole = entity.is_whole && attribute.is_whole && value.is_whole && not (gives_all e a v t);
    }
sought_at Aevt e a v t =
    let attribute = attribute_part (asked true a) in
    let entity = entity_part (asked (is_some a) e) in
    let value = asked_value (2 ^ 59) (is_some e && is_some a) v in
    record {
      from = put (2 ^ 48) attribute (pair entity value);
      is_whole = entity.is_whole && attribute.is_whole && value.is_whole && not (gives_all e a v t);
    }
sought_at Avet e a v t =
    let attribute = attribute_part (asked true a) in
    let value = asked_value (2 ^ 45) (is_some a) v in
    let entity = asked (is_some a && is_some v) e in
    let low = behind_value value (asked_sixteen (is_some a) v) entity in
    let rest : Prefix = record { high = value.n; low = low } in
    record {
      from = put (2 ^ 50) attribute rest;
      is_whole = attribute.is_whole && value.is_whole && not (gives_all e a v t);
    }
sought_at Vaet e a v t =
    let value = asked_value (2 ^ 45) true v in
    let attribute = attribute_part (asked (is_some v) a) in
    let entity : Part = record { n = asked (is_some a && is_some v) e; is_whole = true } in
    record {
      from = put (2 ^ 14) value (pair attribute entity);
      is_whole = attribute.is_whole && value.is_whole && not (gives_all e a v t);
    }

abbrev pub sought_in : Probe → Sought
sought_in p = sought_at p.order p.e p.a p.v p.t

-- the datom is below the probe
abbrev pub is_below : Probe → Datom → Bool
is_below p d = is_gt (probe_cmp p d)
