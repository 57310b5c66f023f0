-- Words: which texts are keywords, symbols and uris, and what the names of entities are made of.
-- EDN, edn-format, "Symbols" and "Keywords". What a uri is made of is this project's own choice.
use Rattle.std.specs.Prelude.{ℕ, Bool, false, not, ◌&&◌, ◌||◌, List, [], ◌∷◌, nat_eq, nat_le}
use Rattle.std.specs.Prelude.{length, codes, bytes_eq, if◌then◌else◌}
use Rattle.std.specs.List.{list_all, list_any, before_first, after_first, starts_with}

-- the bytes of `/` and of `_`
abbrev pub slash : ℕ
slash = 47

abbrev pub underscore : ℕ
underscore = 95

abbrev pub is_slash : ℕ → Bool
is_slash b = nat_eq b slash

abbrev pub is_letter : ℕ → Bool
is_letter b = (nat_le 65 b && nat_le b 90) || (nat_le 97 b && nat_le b 122)

abbrev pub is_digit : ℕ → Bool
is_digit b = nat_le 48 b && nat_le b 57

-- a letter, a digit, one of . * + ! - _ ? $ % & = < > : # or a byte of a character past ASCII
abbrev pub is_name_byte : ℕ → Bool
is_name_byte b =
    is_letter b || is_digit b || nat_le 128 b || list_any (nat_eq b) (codes ".*+!-_?$%&=<>:#")

abbrev pub is_name : List ℕ → Bool
is_name [] = false
is_name (b ∷ rest) = list_all is_name_byte (b ∷ rest)

abbrev pub begins_with_one_of : List ℕ → List ℕ → Bool
begins_with_one_of bytes [] = false
begins_with_one_of bytes (b ∷ rest) = list_any (nat_eq b) bytes

-- a name that may follow the colon of a keyword, or its slash
abbrev pub is_keyword_name : List ℕ → Bool
is_keyword_name text = is_name text && not (begins_with_one_of (codes ":#") text)

-- the part before the slash, if there is one, and the part after it
abbrev pub has_namespace : List ℕ → Bool
has_namespace text = list_any is_slash text

abbrev pub namespace : List ℕ → List ℕ
namespace text = if has_namespace text then before_first is_slash text else []

abbrev pub local_name : List ℕ → List ℕ
local_name text = if has_namespace text then after_first is_slash text else text

-- the text of a keyword, without its colon: a name, or two that a slash joins
abbrev pub is_keyword_text : List ℕ → Bool
is_keyword_text text =
    is_keyword_name (local_name text)
    && (not (has_namespace text) || is_keyword_name (namespace text))

-- a symbol is neither a number nor the name of a value
abbrev is_symbol_start : List ℕ → Bool
is_symbol_start [] = false
is_symbol_start (b ∷ rest) =
    not (is_digit b) && not (begins_with_one_of (codes ":#") (b ∷ rest))
    && not (list_any (nat_eq b) (codes ".+-") && begins_with_one_of (codes "0123456789") rest)

abbrev is_word_of_a_value : List ℕ → Bool
is_word_of_a_value text = list_any (bytes_eq text) (codes "nil" ∷ codes "true" ∷ codes "false" ∷ [])

-- the text of a symbol: a slash alone, a name, or two that a slash joins
abbrev pub is_symbol_text : List ℕ → Bool
is_symbol_text text =
    bytes_eq text (codes "/")
    || (is_symbol_start text && not (is_word_of_a_value text)
    && is_name (local_name text) && (not (has_namespace text) || is_name (namespace text)))

-- the text of a uri: visible ASCII characters
abbrev pub is_uri_text : List ℕ → Bool
is_uri_text text = nat_le 1 (length text) && list_all (λ b. nat_le 33 b && nat_le b 126) text

-- an ident that is kept for the database itself
abbrev pub is_reserved : List ℕ → Bool
is_reserved text =
    has_namespace text
    && (bytes_eq (namespace text) (codes "db") || starts_with nat_eq (namespace text) (codes "db."))
