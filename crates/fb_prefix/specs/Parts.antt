-- Numbers of a few bits that stand for an entity, an attribute or a value, and rise as these do.
-- This project's own choice.
use Rattle.std.specs.Prelude.{ℕ, zero, suc, ◌+◌, ◌-◌, ◌*◌, ◌/◌, ◌^◌, min, ℤ, pos, negsuc, true, false, ◌&&◌}
use Rattle.std.specs.Prelude.{if◌then◌else◌, nat_lt, List, [], ◌∷◌, Option, Some, None}
use Rattle.fb_numbers.specs.declared.entities.TheConstants.{USER_ENTITIES}
use Rattle.fb_values.specs.declared.facts.Value.{Value}
use Rattle.fb_values.specs.declared.facts.Value.TheVariants.{Keyword, Str, Bool as Boolean, Long, Ref, Instant}
use Rattle.fb_values.specs.declared.facts.Value.TheVariants.{Uuid, Symbol, Uri}
use Rattle.fb_values.specs.Orders.{type_place}
use Rattle.fb_prefix.specs.declared.parts.Part.{Part}

-- a number up to the greatest one, which stands for all behind it too
abbrev pub held : ℕ → ℕ → Part
held n most = record { n = min n most; is_whole = nat_lt n most }

abbrev pub entity_part : ℕ → Part
entity_part e = held e (2 ^ 48 - 1)

-- the built-in attributes and the users' own have numbers each
abbrev pub attribute_part : ℕ → Part
attribute_part a =
    if nat_lt a 1024 then record { n = a; is_whole = true }
    else if nat_lt a USER_ENTITIES then record { n = 1024; is_whole = false }
    else held (1025 + (a - USER_ENTITIES)) (2 ^ 14 - 1)

-- the number that the first so many bytes make, zeros behind a shorter text
abbrev pub front : ℕ → List ℕ → ℕ
front zero text = 0
front (suc k) [] = 0
front (suc k) (byte ∷ text) = min (byte * 256 ^ k + front k text) (256 ^ suc k - 1)

-- the sixteen bytes of a uuid, and the first sixteen of a text
abbrev pub sixteen : Value → Option ℕ
sixteen (Keyword text) = Some (front 16 text)
sixteen (Str text) = Some (front 16 text)
sixteen (Uuid n) = Some (min n (2 ^ 128 - 1))
sixteen (Symbol text) = Some (front 16 text)
sixteen (Uri text) = Some (front 16 text)
sixteen v = None

-- a signed number, counted from the least one of a range of which zero is the middle
abbrev pub raised : ℕ → ℤ → ℕ
raised middle (pos n) = middle + n
raised middle (negsuc n) = middle - suc n

abbrev pub signed_part : ℕ → ℤ → Part
signed_part middle z =
    let n = raised middle z in
    record { n = min n (2 * middle - 1); is_whole = nat_lt 0 n && nat_lt n (2 * middle - 1) }

-- what a value of some other type says, in a range of twice the middle
abbrev pub number_part : ℕ → Value → Part
number_part middle (Boolean false) = record { n = 0; is_whole = true }
number_part middle (Boolean true) = record { n = 1; is_whole = true }
number_part middle (Long z) = signed_part middle z
number_part middle (Ref n) = held n (2 * middle - 1)
number_part middle (Instant z) = signed_part middle z
number_part middle v = record { n = 0; is_whole = false }

-- what a value says within its type, in so many bits
abbrev pub content_of : ℕ → Value → Option ℕ → Part
content_of middle v (Some bytes) = record { n = bytes / (2 ^ 127 / middle); is_whole = false }
content_of middle v None = number_part middle v

abbrev pub content : ℕ → Value → Part
content middle v = content_of middle v (sixteen v)

-- a value in four bits for its type and a range of twice the middle
abbrev pub value_part : ℕ → Value → Part
value_part middle v =
    let part = content middle v in
    record { n = type_place v * (2 * middle) + part.n; is_whole = part.is_whole }
