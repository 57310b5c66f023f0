-- The first fault of a text, from left to right:
-- up to some place there are whole forms and open constructs, and what is there can't go on.
-- This project's own choice; what is unsupported is of EDN, edn-format:
-- "Characters", "Floating point numbers",
-- "Integers", "Tagged elements".
use Rattle.std.specs.Prelude.{◌≡◌, ◌≢◌, ◌⊎◌, ℕ, suc, ◌+◌, ◌-◌, ◌<◌, ◌≤◌, ◌==◌, Bool, true, false}
use Rattle.std.specs.Prelude.{◌&&◌, ◌||◌, not, IsTrue, IsUtf8, ℤ, List, [], ◌∷◌, ◌++◌, length, drop}
use Rattle.std.specs.Prelude.{codes, None}
use Rattle.std.specs.Str.{byte}
use Rattle.edn_model.specs.Form as form
use Rattle.edn_model.specs.Bytes.{quote, hash, open_paren, close_paren, plus, minus, point, colon}
use Rattle.edn_model.specs.Bytes.{semicolon, open_bracket, backslash, close_bracket, underscore}
use Rattle.edn_model.specs.Bytes.{open_brace, close_brace, is_blank, is_digit, is_letter}
use Rattle.edn_model.specs.Bytes.{is_opening, is_closing, is_token_byte, is_line_byte}
use Rattle.edn_model.specs.Bytes.{begins_no_token, Each, TokenEnds, NoCharacter}
use Rattle.edn_model.specs.Tokens.{IsNumeral, IsLong, IsAtom, IsCode, Spells, StringAt, escape_of}
use Rattle.edn_model.specs.Tokens.{is_hex_digit}
use Rattle.edn_model.specs.Instants.{IsInstant}
use Rattle.edn_model.specs.Uuids.{IsUuid}
use Rattle.edn_model.specs.Likeness.{alike, any, distinct, keys}
use Rattle.edn_model.specs.Grammar.{max_depth, TagAt, Gap, Text, Members, Entries}

-- what EDN has and this reader does not
pub data What : Type 0 where
  char : What
  float : What
  big_int : What
  -- an integer of more than 64 bits
  wide : What
  namespaced_map : What
  tag : What

pub data Fault : Type 0 where
  bad : Fault
  unsupported : What → Fault
  deep : Fault
  cut : Fault

-- ---- what is open

-- a construct that is open, with the whole forms in it
pub data Open : Type 0 where
  in_list : form.Forms → Open
  in_vector : form.Forms → Open
  in_map : form.Pairs → Open
  -- a key after the pairs, whose value has not come
  behind_key : form.Pairs → form.Form → Open
  in_set : form.Forms → Open
  behind_discard : Open
  behind_inst : Open
  behind_uuid : Open

abbrev pub is_tag : Open → Bool
is_tag behind_inst = true
is_tag behind_uuid = true
is_tag _ = false

-- of the constructs that are open, the innermost first: it is a tag
abbrev pub wants_string : List Open → Bool
wants_string [] = false
wants_string (inner ∷ outer) = is_tag inner

abbrev pub depth_of : List Open → ℕ
depth_of [] = 0
depth_of (behind_inst ∷ outer) = depth_of outer
depth_of (behind_uuid ∷ outer) = depth_of outer
depth_of (inner ∷ outer) = suc (depth_of outer)

-- how many collections and discards may still open
abbrev pub room : List Open → ℕ
room opens = max_depth - depth_of opens

-- the construct opens at a place, inside others, and its whole forms are up to here
abbrev pub Opened : ℕ → Open → List ℕ → List ℕ → Type 0
Opened depth (in_list fs) at here =
    (inside : List ℕ) × (at ≡ open_paren ∷ inside) × Members depth fs inside here
Opened depth (in_vector fs) at here =
    (inside : List ℕ) × (at ≡ open_bracket ∷ inside) × Members depth fs inside here
Opened depth (in_map ps) at here =
    (inside : List ℕ)
    × (at ≡ open_brace ∷ inside)
    × Entries depth ps inside here
    × IsTrue (distinct (keys ps))
Opened depth (behind_key ps k) at here =
    (inside : List ℕ)
    × (to : List ℕ)
    × (after : List ℕ)
    × (at ≡ open_brace ∷ inside)
    × Entries depth ps inside to
    × Text depth k to after
    × Gap depth after here × IsTrue (distinct (form.with_last (keys ps) k))
Opened depth (in_set fs) at here =
    (inside : List ℕ)
    × (at ≡ hash ∷ open_brace ∷ inside)
    × Members depth fs inside here
    × IsTrue (distinct fs)
Opened depth behind_discard at here =
    (inside : List ℕ) × (at ≡ hash ∷ underscore ∷ inside) × Gap depth inside here
Opened depth behind_inst at here =
    (inside : List ℕ) × TagAt (codes "inst") at inside × Gap depth inside here
Opened depth behind_uuid at here =
    (inside : List ℕ) × TagAt (codes "uuid") at inside × Gap depth inside here

abbrev pub is_discard : Open → Bool
is_discard behind_discard = true
is_discard _ = false

-- Up to here nothing is at fault: in each construct that is open, the innermost first,
-- there are whole forms. A tag is followed by its string alone, and by what may come before it.
pub data Faultless : List ℕ → List Open → List ℕ → Type 0 where
  outside : {bytes here : List ℕ} → Gap max_depth bytes here → Faultless bytes [] here
  inside : {bytes at here : List ℕ} {inner : Open} {outer : List Open} → Faultless bytes outer at
      → IsTrue (is_discard inner || not (wants_string outer)) → depth_of (inner ∷ outer) ≤ max_depth
      → Opened (room (inner ∷ outer)) inner at here → Faultless bytes (inner ∷ outer) here

-- ---- tokens at fault

-- an optional sign and digits, and what follows them
pub record DigitsBefore (mark : ℕ) (token : List ℕ) : Type 0 where
  pub sign : List ℕ
  pub digits : List ℕ
  pub more : List ℕ
  pub is : token ≡ sign ++ (digits ++ mark ∷ more)
  pub signs : (sign ≡ []) ⊎ ((sign ≡ plus ∷ []) ⊎ (sign ≡ minus ∷ []))
  pub some : 0 < length digits
  pub each : Each is_digit digits

-- a point, an exponent's e in either case, or the M of a decimal
abbrev pub is_float_mark : ℕ → Bool
is_float_mark b = (b == point || b == byte "M") || (b == byte "e" || b == byte "E")

abbrev pub IsUnsupported : What → List ℕ → Type 0
IsUnsupported char token = (more : List ℕ) × (token ≡ backslash ∷ more)
IsUnsupported float token =
    ((mark : ℕ) × IsTrue (is_float_mark mark) × DigitsBefore mark token)
    ⊎ ((more : List ℕ) × (token ≡ hash ∷ hash ∷ more))
IsUnsupported big_int token = DigitsBefore (byte "N") token
IsUnsupported wide token = (z : ℤ) × IsNumeral z token × (¬ IsLong z)
IsUnsupported namespaced_map token = (more : List ℕ) × (token ≡ hash ∷ colon ∷ more)
IsUnsupported tag token =
    (b : ℕ)
    × (more : List ℕ)
    × (token ≡ hash ∷ b ∷ more)
    × IsTrue (is_letter b)
    × (token ≢ codes "#inst")
    × (token ≢ codes "#uuid")

-- a token that is none of the language
pub record IsNoToken (token : List ℕ) : Type 0 where
  pub no_form : (f : form.Form) → ¬ IsAtom f token
  pub supported : (what : What) → ¬ IsUnsupported what token
  pub no_tag : (token ≢ codes "#inst") × (token ≢ codes "#uuid")

-- the characters of a token in front, and what follows them
pub record TokenAt (here token rest : List ℕ) : Type 0 where
  pub is : here ≡ token ++ rest
  pub each : Each is_token_byte token
  pub utf8 : IsUtf8 token
  -- these begin with a hash, and are no tokens
  pub no_discard : (more : List ℕ) → here ≢ hash ∷ underscore ∷ more
  pub no_set : (more : List ℕ) → here ≢ hash ∷ open_brace ∷ more

-- ---- strings at fault

-- the bytes after a backslash, and no escape begins with them
pub data IsBadEscape : List ℕ → Type 0 where
  unknown : {b : ℕ} {more : List ℕ} → escape_of b ≡ None → b ≢ byte "u" → IsBadEscape (b ∷ more)
  no_digit : {bytes : List ℕ} → (digits : List ℕ) (b : ℕ) (more : List ℕ)
      → bytes ≡ byte "u" ∷ (digits ++ b ∷ more) → length digits < 4
      → Each is_hex_digit digits → is_hex_digit b ≡ false → IsBadEscape bytes
  surrogate : {a b c d : ℕ} {bytes more : List ℕ} → bytes ≡ byte "u" ∷ a ∷ b ∷ c ∷ d ∷ more
      → Each is_hex_digit (a ∷ b ∷ c ∷ d ∷ [])
      → ((n : ℕ) → ¬ IsCode a b c d n) → IsBadEscape bytes

-- the bytes after a backslash, which end within an escape
pub data IsCutEscape : List ℕ → Type 0 where
  no_letter : IsCutEscape []
  few_digits : {digits : List ℕ} → length digits < 4 → Each is_hex_digit digits
      → IsCutEscape (byte "u" ∷ digits)

-- the bytes after the quote of a string, which is not whole
pub data StringFault : List ℕ → Fault → List ℕ → Type 0 where
  no_quote : {inside text : List ℕ} → Spells inside text [] → IsUtf8 text
      → StringFault inside cut []
  cut_escape : {inside text more : List ℕ} → Spells inside text (backslash ∷ more) → IsUtf8 text
      → IsCutEscape more → StringFault inside cut []
  bad_escape : {inside text more : List ℕ} → Spells inside text (backslash ∷ more) → IsUtf8 text
      → IsBadEscape more
      → StringFault inside bad (backslash ∷ more)
  no_character : {inside text here : List ℕ} → Spells inside text here → IsUtf8 text
      → NoCharacter here → StringFault inside bad here

-- ---- what can't go on

-- this bracket closes the innermost construct
abbrev pub closes : List Open → ℕ → Bool
closes [] b = false
closes (in_list fs ∷ outer) b = b == close_paren
closes (in_vector fs ∷ outer) b = b == close_bracket
closes (in_map ps ∷ outer) b = b == close_brace
closes (behind_key ps k ∷ outer) b = false
closes (in_set fs ∷ outer) b = b == close_brace
closes (behind_discard ∷ outer) b = false
closes (behind_inst ∷ outer) b = false
closes (behind_uuid ∷ outer) b = false

-- a collection opens here
abbrev pub opens_collection : List ℕ → Bool
opens_collection [] = false
opens_collection (b ∷ []) = is_opening b
opens_collection (b ∷ c ∷ bytes) = is_opening b || (b == hash && c == open_brace)

abbrev pub opens_discard : List ℕ → Bool
opens_discard [] = false
opens_discard (b ∷ []) = false
opens_discard (b ∷ c ∷ bytes) = b == hash && c == underscore

-- no gap goes on here, and no string begins
abbrev pub begins_no_string : List ℕ → Bool
begins_no_string [] = false
begins_no_string (b ∷ bytes) =
    not (is_blank b)
    && (not (b == semicolon) && (not (b == quote) && not (opens_discard (b ∷ bytes))))

-- In these constructs nothing can go on here: the fault, and the place where the last bytes begin.
pub data Stuck : List Open → List ℕ → Fault → List ℕ → Type 0 where
  ends : {inner : Open} {outer : List Open} → Stuck (inner ∷ outer) [] cut []
  closes_nothing : {opens : List Open} {b : ℕ} {rest : List ℕ} → is_closing b ≡ true
      → closes opens b ≡ false → Stuck opens (b ∷ rest) bad (b ∷ rest)
  no_string : {opens : List Open} {here : List ℕ} → wants_string opens ≡ true
      → begins_no_string here ≡ true → Stuck opens here bad here
  deep_collection : {opens : List Open} {here : List ℕ} → wants_string opens ≡ false
      → room opens ≡ 0 → opens_collection here ≡ true
      → Stuck opens here deep here
  deep_discard : {opens : List Open} {here : List ℕ} → room opens ≡ 0 → opens_discard here ≡ true
      → Stuck opens here deep here
  -- whatever follows the byte
  no_token : {opens : List Open} {here : List ℕ} → wants_string opens ≡ false
      → begins_no_token here ≡ true → Stuck opens here bad here
  bad_character : {opens : List Open} {here token rest : List ℕ} → wants_string opens ≡ false
      → begins_no_token here ≡ false
      → TokenAt here token rest → NoCharacter rest → Stuck opens here bad rest
  bad_token : {opens : List Open} {here token rest : List ℕ} → wants_string opens ≡ false
      → TokenAt here token rest → TokenEnds rest
      → 0 < length token → IsNoToken token → Stuck opens here bad here
  unsupported_token : {opens : List Open} {what : What} {here token rest : List ℕ}
      → wants_string opens ≡ false → TokenAt here token rest
      → TokenEnds rest → IsUnsupported what token → Stuck opens here (unsupported what) here
  in_string : {opens : List Open} {fault : Fault} {bytes place : List ℕ}
      → StringFault bytes fault place → Stuck opens (quote ∷ bytes) fault place
  in_comment : {opens : List Open} {text place : List ℕ} → Each is_line_byte text → IsUtf8 text
      → NoCharacter place
      → Stuck opens (semicolon ∷ (text ++ place)) bad place
  no_instant : {outer : List Open} {s here rest : List ℕ} → StringAt s here rest
      → ((z : ℤ) → ¬ IsInstant z s) → Stuck (behind_inst ∷ outer) here bad here
  no_uuid : {outer : List Open} {s here rest : List ℕ} → StringAt s here rest
      → ((n : ℕ) → ¬ IsUuid n s) → Stuck (behind_uuid ∷ outer) here bad here

-- In these constructs what is here is at fault: nothing can go on, or it is a duplicate.
pub data FaultIn : List Open → List ℕ → Fault → List ℕ → Type 0 where
  stuck : {opens : List Open} {fault : Fault} {here place : List ℕ} → Stuck opens here fault place
      → FaultIn opens here fault place
  key_again : {ps : form.Pairs} {outer : List Open} {k : form.Form} {here rest : List ℕ}
      → Text (room (in_map ps ∷ outer)) k here rest
      → any (alike k) (keys ps) ≡ true → FaultIn (in_map ps ∷ outer) here bad here
  member_again : {fs : form.Forms} {outer : List Open} {f : form.Form} {here rest : List ℕ}
      → Text (room (in_set fs ∷ outer)) f here rest
      → any (alike f) fs ≡ true → FaultIn (in_set fs ∷ outer) here bad here

-- the first fault from a place on, and its byte
pub record FaultAt (bytes : List ℕ) (at : ℕ) (fault : Fault) (byte : ℕ) : Type 0 where
  pub opens : List Open
  pub here : List ℕ
  pub place : List ℕ
  pub stands : Faultless (drop at bytes) opens here
  pub is : FaultIn opens here fault place
  pub byte_is : byte + length place ≡ length bytes
