-- Datoms that a program can hold:
-- their numbers lie in the ranges of their types, and their texts are UTF-8.
-- This project's own choice.
use Rattle.std.specs.Prelude.{ℤ, pos, negsuc, ◌<◌, ◌^◌, IsUtf8}
use Rattle.fb_values.specs.declared.facts.Datom.{Datom}
use Rattle.fb_values.specs.declared.facts.Value.{Value}
use Rattle.fb_values.specs.declared.facts.Value.TheVariants.{Keyword, Str, Bool as Boolean, Long}
use Rattle.fb_values.specs.declared.facts.Value.TheVariants.{Ref, Instant, Uuid, Symbol, Uri}

-- of 64 bits
abbrev pub IsLong : ℤ → Type 0
IsLong (pos n) = n < 2 ^ 63
IsLong (negsuc n) = n < 2 ^ 63

abbrev pub IsValue : Value → Type 0
IsValue (Keyword text) = IsUtf8 text
IsValue (Str text) = IsUtf8 text
IsValue (Boolean b) = Unit {0}
IsValue (Long n) = IsLong n
IsValue (Ref e) = e < 2 ^ 64
IsValue (Instant n) = IsLong n
IsValue (Uuid n) = n < 2 ^ 128
IsValue (Symbol text) = IsUtf8 text
IsValue (Uri text) = IsUtf8 text

pub record IsDatom (d : Datom) : Type 0 where
  pub e : d.e < 2 ^ 64
  pub a : d.a < 2 ^ 64
  pub v : IsValue d.v
  pub t : d.t < 2 ^ 32
