-- Values as bytes: a tag, and what follows it.
-- This project's own choice.
use Rattle.std.specs.Prelude.{ℕ, Bool, true, ◌&&◌, List, ◌∷◌, ◌==◌, nat_le, if◌then◌else◌}
use Rattle.fb_values.specs.declared.facts.Value.{Value}
use Rattle.fb_values.specs.declared.facts.Value.TheVariants.{Keyword, Str, Bool as Boolean, Long}
use Rattle.fb_values.specs.declared.facts.Value.TheVariants.{Ref, Instant, Uuid, Symbol, Uri}
use Rattle.fb_model.specs.Words.{is_keyword_text, is_symbol_text}
use Rattle.log_model.specs.Fields.{Reading, and_then, mapped, that_fits, read_u8, u64_bytes}
use Rattle.log_model.specs.Fields.{read_u64, u128_bytes, read_u128, i64_bytes, read_i64}
use Rattle.log_model.specs.Fields.{truth_bytes, read_truth, text_bytes, read_text}

abbrev pub tag_of : Value → ℕ
tag_of (Keyword text) = 1
tag_of (Str text) = 2
tag_of (Boolean b) = 3
tag_of (Long n) = 4
tag_of (Ref e) = 5
tag_of (Instant n) = 6
tag_of (Uuid n) = 7
tag_of (Symbol text) = 8
tag_of (Uri text) = 9

abbrev pub content_bytes : Value → List ℕ
content_bytes (Keyword text) = text_bytes text
content_bytes (Str text) = text_bytes text
content_bytes (Boolean b) = truth_bytes b
content_bytes (Long n) = i64_bytes n
content_bytes (Ref e) = u64_bytes e
content_bytes (Instant n) = i64_bytes n
content_bytes (Uuid n) = u128_bytes n
content_bytes (Symbol text) = text_bytes text
content_bytes (Uri text) = text_bytes text

abbrev pub value_bytes : Value → List ℕ
value_bytes v = tag_of v ∷ content_bytes v

-- format 1 has the tags 1 to 7, and format 2 has those of symbols and uris besides
abbrev pub is_format : ℕ → Bool
is_format format = nat_le 1 format && nat_le format 2

abbrev pub last_tag : ℕ → ℕ
last_tag format = if format == 1 then 7 else 9

abbrev pub is_tag : ℕ → ℕ → Bool
is_tag format tag = nat_le 1 tag && nat_le tag (last_tag format)

-- any text
abbrev pub is_any : List ℕ → Bool
is_any text = true

-- after a tag: texts of keywords and symbols are those of EDN
abbrev pub read_content : ℕ → List ℕ → Reading Value
read_content tag bytes =
    if tag == 1 then mapped Keyword (read_text is_keyword_text bytes)
    else (if tag == 2 then mapped Str (read_text is_any bytes)
    else (if tag == 3 then mapped Boolean (read_truth bytes)
    else (if tag == 4 then mapped Long (read_i64 bytes)
    else (if tag == 5 then mapped Ref (read_u64 bytes)
    else (if tag == 6 then mapped Instant (read_i64 bytes)
    else (if tag == 7 then mapped Uuid (read_u128 bytes)
    else (if tag == 8 then mapped Symbol (read_text is_symbol_text bytes)
    else mapped Uri (read_text is_any bytes))))))))

abbrev pub read_value : ℕ → List ℕ → Reading Value
read_value format bytes = and_then (that_fits (is_tag format) read_u8 bytes) read_content
