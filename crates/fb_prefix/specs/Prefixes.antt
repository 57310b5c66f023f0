-- The first bits of a datom's key in an order, as two words, and how two of them compare.
-- This project's own choice.
use Rattle.std.specs.Prelude.{ℕ, ◌+◌, ◌*◌, ◌/◌, ◌%◌, ◌^◌, Bool, true, ◌&&◌, ◌||◌, ◌==◌, if◌then◌else◌, nat_lt, Option, Some, None}
use Rattle.fb_values.specs.declared.facts.Datom.{Datom}
use Rattle.fb_values.specs.declared.indexes.Order.{Order}
use Rattle.fb_values.specs.declared.indexes.Order.TheVariants.{Eavt, Aevt, Avet, Vaet}
use Rattle.fb_prefix.specs.declared.parts.Part.{Part}
use Rattle.fb_prefix.specs.declared.prefixes.Prefix.{Prefix}
use Rattle.fb_prefix.specs.Parts.{entity_part, attribute_part, value_part, sixteen}

-- the high word decides, or where these are equal the low one
abbrev pub is_lesser : Prefix → Prefix → Bool
is_lesser x y = nat_lt x.high y.high || (x.high == y.high && nat_lt x.low y.low)

-- a word for each of two parts; behind one that does not tell all there is nothing
abbrev pub pair : Part → Part → Prefix
pair p q = record { high = p.n; low = if p.is_whole then q.n else 0 }

-- a part before a prefix whose high word is below `room`
abbrev pub put : ℕ → Part → Prefix → Prefix
put room p rest =
    if p.is_whole then record { high = p.n * room + rest.high; low = rest.low }
    else record { high = p.n * room; low = 0 }

-- what follows the first bits of a value: the next bits of a text or a uuid, and else the entity
abbrev pub behind_value : Part → Option ℕ → ℕ → ℕ
behind_value part (Some bytes) e = bytes / 2 ^ 18 % 2 ^ 64
behind_value part None e = if part.is_whole then e else 0

abbrev pub value_and_entity : Datom → Prefix
value_and_entity d =
    let part = value_part (2 ^ 45) d.v in
    record { high = part.n; low = behind_value part (sixteen d.v) d.e }

abbrev pub prefix_in : Order → Datom → Prefix
prefix_in Eavt d =
    put (2 ^ 14) (entity_part d.e) (pair (attribute_part d.a) (value_part (2 ^ 59) d.v))
prefix_in Aevt d =
    put (2 ^ 48) (attribute_part d.a) (pair (entity_part d.e) (value_part (2 ^ 59) d.v))
prefix_in Avet d = put (2 ^ 50) (attribute_part d.a) (value_and_entity d)
prefix_in Vaet d =
    put (2 ^ 14) (value_part (2 ^ 45) d.v)
    (pair (attribute_part d.a) (record { n = d.e; is_whole = true }))
