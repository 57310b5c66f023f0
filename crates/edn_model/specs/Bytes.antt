-- Kinds of bytes in a text.
-- EDN, edn-format: "General considerations", "Symbols", "Keywords".
use Rattle.std.specs.Prelude.{ℕ, nat_le, ◌==◌, Bool, true, false, ◌&&◌, ◌||◌, not, IsTrue, List, []}
use Rattle.std.specs.Prelude.{◌∷◌}
use Rattle.std.specs.Str.{byte, StartsWithNoChar}
pub use Rattle.edn_model.specs.Runs.{Each}

abbrev pub backspace : ℕ
backspace = 8

abbrev pub tab : ℕ
tab = 9

abbrev pub line_feed : ℕ
line_feed = 10

abbrev pub form_feed : ℕ
form_feed = 12

abbrev pub carriage_return : ℕ
carriage_return = 13

abbrev pub space : ℕ
space = 32

abbrev pub quote : ℕ
quote = 34

abbrev pub hash : ℕ
hash = 35

abbrev pub open_paren : ℕ
open_paren = 40

abbrev pub close_paren : ℕ
close_paren = 41

abbrev pub plus : ℕ
plus = 43

abbrev pub minus : ℕ
minus = 45

abbrev pub point : ℕ
point = 46

abbrev pub slash : ℕ
slash = 47

abbrev pub colon : ℕ
colon = 58

abbrev pub semicolon : ℕ
semicolon = 59

abbrev pub open_bracket : ℕ
open_bracket = 91

abbrev pub backslash : ℕ
backslash = 92

abbrev pub close_bracket : ℕ
close_bracket = 93

abbrev pub underscore : ℕ
underscore = 95

abbrev pub open_brace : ℕ
open_brace = 123

abbrev pub close_brace : ℕ
close_brace = 125

-- tab, line feed, vertical tab, form feed, carriage return, space, comma
abbrev pub is_blank : ℕ → Bool
is_blank b = (nat_le tab b && nat_le b carriage_return) || (b == space || b == byte ",")

abbrev pub is_digit : ℕ → Bool
is_digit b = nat_le (byte "0") b && nat_le b (byte "9")

abbrev pub is_letter : ℕ → Bool
is_letter b =
    (nat_le (byte "A") b && nat_le b (byte "Z")) || (nat_le (byte "a") b && nat_le b (byte "z"))

-- . * + ! - _ ? $ % & = < > : #
abbrev pub is_sign : ℕ → Bool
is_sign b =
    ((b == point || (b == byte "*" || b == plus))
    || (b == byte "!" || (b == minus || b == underscore)))
    || (((b == byte "?" || b == byte "$") || (b == byte "%" || (b == byte "&" || b == byte "=")))
    || ((b == byte "<" || b == byte ">") || (b == colon || b == hash)))

-- is part of a name: a letter, a digit, one of the signs, or part of a character past ASCII
abbrev pub is_name_byte : ℕ → Bool
is_name_byte b = (is_letter b || is_digit b) || (is_sign b || nat_le 0x80 b)

abbrev pub is_opening : ℕ → Bool
is_opening b = b == open_paren || (b == open_bracket || b == open_brace)

abbrev pub is_closing : ℕ → Bool
is_closing b = b == close_paren || (b == close_bracket || b == close_brace)

-- where it is the next byte, a token ends
abbrev pub ends_token : ℕ → Bool
ends_token b = is_blank b || ((is_opening b || is_closing b) || (b == quote || b == semicolon))

-- does not end a token, and so is part of one
abbrev pub is_token_byte : ℕ → Bool
is_token_byte b = not (ends_token b)

-- a token may begin with it:
-- it is part of a name, or is the slash that is a symbol, or a character's backslash
abbrev pub may_begin_token : ℕ → Bool
may_begin_token b = is_name_byte b || (b == slash || b == backslash)

abbrev pub is_line_byte : ℕ → Bool
is_line_byte b = not (b == line_feed)

-- is itself in a string
abbrev pub is_plain : ℕ → Bool
is_plain b = not (b == quote) && not (b == backslash)

-- the first of some bytes passes the test
abbrev pub begins : (ℕ → Bool) → List ℕ → Bool
begins test [] = false
begins test (b ∷ bytes) = test b

-- a byte comes next that ends no token, and no token begins with it
abbrev pub begins_no_token : List ℕ → Bool
begins_no_token bytes = begins (λ b. is_token_byte b && not (may_begin_token b)) bytes

-- a token may end before these bytes
abbrev pub token_ends : List ℕ → Bool
token_ends [] = true
token_ends (b ∷ bytes) = ends_token b

abbrev pub TokenEnds : List ℕ → Type 0
TokenEnds bytes = IsTrue (token_ends bytes)

-- there are bytes here, and no character begins with them
abbrev pub NoCharacter : List ℕ → Type 0
NoCharacter [] = ⊥
NoCharacter (b ∷ bytes) = StartsWithNoChar (b ∷ bytes)
