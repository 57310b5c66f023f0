-- Whether a program can hold a datom, as a test.
-- This project's own choice.
use Rattle.std.specs.Prelude.{◌≡◌, ℤ, pos, negsuc, ◌^◌, Bool, true, ◌&&◌, nat_lt}
use Rattle.std.specs.Str.{is_utf8}
use Rattle.std.proofs.Common.{refl}
use Rattle.std.proofs.lemmas.Bool.{and_parts, and_from, ltb-true, lt-ltb}
use Rattle.std.proofs.lemmas.Str.{IsUtf8-from_is_utf8, is_utf8-from_IsUtf8}
use Rattle.fb_values.specs.declared.facts.Datom.{Datom}
use Rattle.fb_values.specs.declared.facts.Value.{Value}
use Rattle.fb_values.specs.declared.facts.Value.TheVariants.{Keyword, Str, Bool as Boolean, Long}
use Rattle.fb_values.specs.declared.facts.Value.TheVariants.{Ref, Instant, Uuid, Symbol, Uri}
use Rattle.fb_preds.specs.Datoms.{IsLong, IsValue, IsDatom}

abbrev pub is_long : ℤ → Bool
is_long (pos n) = nat_lt n (2 ^ 63)
is_long (negsuc n) = nat_lt n (2 ^ 63)

abbrev pub is_value : Value → Bool
is_value (Keyword text) = is_utf8 text
is_value (Str text) = is_utf8 text
is_value (Boolean b) = true
is_value (Long n) = is_long n
is_value (Ref e) = nat_lt e (2 ^ 64)
is_value (Instant n) = is_long n
is_value (Uuid n) = nat_lt n (2 ^ 128)
is_value (Symbol text) = is_utf8 text
is_value (Uri text) = is_utf8 text

-- its numbers lie in the ranges of their types, and its texts are UTF-8
abbrev pub is_datom : Datom → Bool
is_datom d = nat_lt d.e (2 ^ 64) && nat_lt d.a (2 ^ 64) && is_value d.v && nat_lt d.t (2 ^ 32)

-- ---- the test decides

long_tested : (n : ℤ) → IsLong n → is_long n ≡ true
long_tested (pos n) is = lt-ltb n (2 ^ 63) is
long_tested (negsuc n) is = lt-ltb n (2 ^ 63) is

tested_long : (n : ℤ) → is_long n ≡ true → IsLong n
tested_long (pos n) is = ltb-true n (2 ^ 63) is
tested_long (negsuc n) is = ltb-true n (2 ^ 63) is

value_tested : (v : Value) → IsValue v → is_value v ≡ true
value_tested (Keyword text) is = is_utf8-from_IsUtf8 text is
value_tested (Str text) is = is_utf8-from_IsUtf8 text is
value_tested (Boolean b) is = refl
value_tested (Long n) is = long_tested n is
value_tested (Ref e) is = lt-ltb e (2 ^ 64) is
value_tested (Instant n) is = long_tested n is
value_tested (Uuid n) is = lt-ltb n (2 ^ 128) is
value_tested (Symbol text) is = is_utf8-from_IsUtf8 text is
value_tested (Uri text) is = is_utf8-from_IsUtf8 text is

tested_value : (v : Value) → is_value v ≡ true → IsValue v
tested_value (Keyword text) is = IsUtf8-from_is_utf8 text is
tested_value (Str text) is = IsUtf8-from_is_utf8 text is
tested_value (Boolean b) is = tt
tested_value (Long n) is = tested_long n is
tested_value (Ref e) is = ltb-true e (2 ^ 64) is
tested_value (Instant n) is = tested_long n is
tested_value (Uuid n) is = ltb-true n (2 ^ 128) is
tested_value (Symbol text) is = IsUtf8-from_is_utf8 text is
tested_value (Uri text) is = IsUtf8-from_is_utf8 text is

pub datom_tested : (d : Datom) → IsDatom d → is_datom d ≡ true
datom_tested d is =
    and_from _ _
    (and_from _ _ (and_from _ _ (lt-ltb d.e (2 ^ 64) is.e) (lt-ltb d.a (2 ^ 64) is.a)) (value_tested d.v is.v))
    (lt-ltb d.t (2 ^ 32) is.t)

pub tested_datom : (d : Datom) → is_datom d ≡ true → IsDatom d
tested_datom d is =
    let parts = and_parts (nat_lt d.e (2 ^ 64) && nat_lt d.a (2 ^ 64) && is_value d.v) (nat_lt d.t (2 ^ 32)) is in
    let front = and_parts (nat_lt d.e (2 ^ 64) && nat_lt d.a (2 ^ 64)) (is_value d.v) parts.0 in
    let numbers = and_parts (nat_lt d.e (2 ^ 64)) (nat_lt d.a (2 ^ 64)) front.0 in
    record {
      e = ltb-true d.e (2 ^ 64) numbers.0;
      a = ltb-true d.a (2 ^ 64) numbers.1;
      v = tested_value d.v front.1;
      t = ltb-true d.t (2 ^ 32) parts.1;
    }
