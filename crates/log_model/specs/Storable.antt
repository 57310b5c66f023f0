-- Storable entries: numbers within the ranges of their types, and texts in UTF-8 that are not too
-- long for their lengths.
-- This project's own choice; EDN, edn-format, says which texts are keywords and symbols.
use Rattle.std.specs.Prelude.{◌≡◌, ℕ, ◌^◌, ℤ, pos, negsuc, Bool, true, ◌&&◌, List, length, nat_eq}
use Rattle.std.specs.Prelude.{nat_lt, IsTrue}
use Rattle.std.specs.List.{list_all}
use Rattle.fb_values.specs.declared.facts.Datom.{Datom}
use Rattle.fb_values.specs.declared.facts.Entry.{Entry}
use Rattle.fb_values.specs.declared.facts.Value.{Value}
use Rattle.fb_values.specs.declared.facts.Value.TheVariants.{Keyword, Str, Bool as Boolean, Long}
use Rattle.fb_values.specs.declared.facts.Value.TheVariants.{Ref, Instant, Uuid, Symbol, Uri}
use Rattle.fb_model.specs.Words.{is_keyword_text, is_symbol_text}
use Rattle.log_model.specs.Fields.{is_text}
use Rattle.log_model.specs.Values.{tag_of, is_any, is_format, is_tag}
use Rattle.log_model.specs.Payload.{written_format, entry_bytes_in}

abbrev pub is_u32 : ℕ → Bool
is_u32 n = nat_lt n (2 ^ 32)

abbrev pub is_u64 : ℕ → Bool
is_u64 n = nat_lt n (2 ^ 64)

abbrev pub is_u128 : ℕ → Bool
is_u128 n = nat_lt n (2 ^ 128)

abbrev pub is_i64 : ℤ → Bool
is_i64 (pos n) = nat_lt n (2 ^ 63)
is_i64 (negsuc n) = nat_lt n (2 ^ 63)

abbrev pub is_storable_text : (List ℕ → Bool) → List ℕ → Bool
is_storable_text test text = is_u32 (length text) && is_text test text

abbrev pub is_storable_content : Value → Bool
is_storable_content (Keyword text) = is_storable_text is_keyword_text text
is_storable_content (Str text) = is_storable_text is_any text
is_storable_content (Boolean b) = true
is_storable_content (Long n) = is_i64 n
is_storable_content (Ref e) = is_u64 e
is_storable_content (Instant n) = is_i64 n
is_storable_content (Uuid n) = is_u128 n
is_storable_content (Symbol text) = is_storable_text is_symbol_text text
is_storable_content (Uri text) = is_storable_text is_any text

-- in this format, which may lack the value's tag
abbrev pub is_storable_value : ℕ → Value → Bool
is_storable_value format v = is_tag format (tag_of v) && is_storable_content v

abbrev pub is_storable_datom : ℕ → ℕ → Datom → Bool
is_storable_datom format t d =
    is_u64 d.e && is_u64 d.a && is_storable_value format d.v && nat_eq d.t t

abbrev pub is_storable_in : ℕ → Entry → Bool
is_storable_in format entry =
    is_u32 entry.t
    && is_i64 entry.instant
    && is_u32 (length entry.datoms)
    && list_all (is_storable_datom format entry.t) entry.datoms

-- in the format that is written
abbrev pub IsStorable : Entry → Type 0
IsStorable entry = IsTrue (is_storable_in written_format entry)

-- The payload is the entry's bytes in one of the two formats.
pub record IsPayloadOf (entry : Entry) (payload : List ℕ) : Type 0 where
  pub format : ℕ
  pub format_is : IsTrue (is_format format)
  pub storable : IsTrue (is_storable_in format entry)
  pub bytes : payload ≡ entry_bytes_in format entry
