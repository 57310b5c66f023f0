-- Which bytes are a text of which token: nil, booleans, integers, symbols, keywords and strings.
-- EDN, edn-format: "nil", "Booleans", "Strings", "Symbols", "Keywords", "Integers".
use Rattle.std.specs.Prelude.{◌≡◌, ◌⊎◌, ℕ, ◌+◌, ◌-◌, ◌*◌, ◌<◌, ◌≤◌, nat_le, ◌==◌, Bool, true, false}
use Rattle.std.specs.Prelude.{◌&&◌, ◌||◌, not, if◌then◌else◌, IsTrue, IsUtf8, ℤ, pos, negsuc, neg_ℤ}
use Rattle.std.specs.Prelude.{int_le, fold, List, [], ◌∷◌, ◌++◌, length, Option, Some, None, codes}
use Rattle.std.specs.Prelude.{encode_utf8}
use Rattle.std.specs.Str.{byte}
use Rattle.edn_model.specs.Form as form
use Rattle.edn_model.specs.Bytes.{backspace, tab, line_feed, form_feed, carriage_return, quote}
use Rattle.edn_model.specs.Bytes.{hash, plus, minus, point, slash, colon, backslash, is_digit}
use Rattle.edn_model.specs.Bytes.{is_name_byte, is_plain, begins, Each}

-- ---- names

abbrev pub IsName : List ℕ → Type 0
IsName bytes = (0 < length bytes) × Each is_name_byte bytes

-- two texts joined by a slash
abbrev pub Joined : (List ℕ → Type 0) → (List ℕ → Type 0) → List ℕ → Type 0
Joined First Second bytes =
    (first : List ℕ)
    × (second : List ℕ)
    × (bytes ≡ first ++ slash ∷ second)
    × First first
    × Second second

-- ---- keywords

abbrev pub begins_keyword : List ℕ → Bool
begins_keyword bytes = begins (λ b. not (b == colon) && not (b == hash)) bytes

abbrev pub IsKeywordName : List ℕ → Type 0
IsKeywordName bytes = IsName bytes × IsTrue (begins_keyword bytes)

-- what stands in a keyword after its colon
abbrev pub IsKeyword : List ℕ → Type 0
IsKeyword bytes = IsUtf8 bytes × (IsKeywordName bytes ⊎ Joined IsKeywordName IsKeywordName bytes)

-- ---- symbols

-- no digit, no colon and no hash comes first, and after a point, a plus or a minus no digit
abbrev pub begins_symbol : List ℕ → Bool
begins_symbol [] = false
begins_symbol (b ∷ bytes) =
    not (is_digit b) && ((not (b == colon) && not (b == hash))
    && not ((b == point || (b == plus || b == minus)) && begins is_digit bytes))

-- these are tokens of their own
abbrev pub IsReserved : List ℕ → Type 0
IsReserved bytes = (bytes ≡ codes "nil") ⊎ ((bytes ≡ codes "true") ⊎ (bytes ≡ codes "false"))

abbrev pub IsLongSymbol : List ℕ → Type 0
IsLongSymbol bytes =
    IsTrue (begins_symbol bytes)
    × (¬ IsReserved bytes)
    × (IsName bytes ⊎ Joined IsName IsName bytes)

abbrev pub IsSymbol : List ℕ → Type 0
IsSymbol bytes = IsUtf8 bytes × ((bytes ≡ slash ∷ []) ⊎ IsLongSymbol bytes)

-- ---- integers

-- the number that digits spell
abbrev pub number : List ℕ → ℕ
number digits = fold (λ n b. n * 10 + (b - byte "0")) 0 digits

-- digits without a leading zero
pub record IsDecimal (n : ℕ) (digits : List ℕ) : Type 0 where
  pub some : 0 < length digits
  pub each : Each is_digit digits
  pub leading : (digits ≡ codes "0") ⊎ IsTrue (begins (λ b. not (b == byte "0")) digits)
  pub is : n ≡ number digits

-- a numeral, with a sign or without
pub data IsNumeral : ℤ → List ℕ → Type 0 where
  unsigned : {z : ℤ} {n : ℕ} {bytes : List ℕ} → IsDecimal n bytes → z ≡ pos n → IsNumeral z bytes
  positive : {z : ℤ} {n : ℕ} {bytes digits : List ℕ} → bytes ≡ plus ∷ digits → IsDecimal n digits
      → z ≡ pos n → IsNumeral z bytes
  negative : {z : ℤ} {n : ℕ} {bytes digits : List ℕ} → bytes ≡ minus ∷ digits → IsDecimal n digits
      → z ≡ neg_ℤ (pos n) → IsNumeral z bytes

-- an integer of 64 bits
abbrev pub is_long : ℤ → Bool
is_long z = int_le (negsuc 9223372036854775807) z && int_le z (pos 9223372036854775807)

abbrev pub IsLong : ℤ → Type 0
IsLong z = IsTrue (is_long z)

-- ---- tokens that end before certain bytes

abbrev pub IsAtom : form.Form → List ℕ → Type 0
IsAtom form.nil bytes = bytes ≡ codes "nil"
IsAtom (form.boolean b) bytes = bytes ≡ (if b then codes "true" else codes "false")
IsAtom (form.integer z) bytes = IsNumeral z bytes × IsLong z
IsAtom (form.string s) bytes = ⊥
IsAtom (form.symbol s) bytes = (bytes ≡ s) × IsSymbol s
IsAtom (form.keyword k) bytes = (bytes ≡ colon ∷ k) × IsKeyword k
IsAtom (form.list fs) bytes = ⊥
IsAtom (form.vector fs) bytes = ⊥
IsAtom (form.map ps) bytes = ⊥
IsAtom (form.set fs) bytes = ⊥
IsAtom (form.instant z) bytes = ⊥
IsAtom (form.uuid n) bytes = ⊥

-- ---- strings

-- the character that a backslash and this byte spell:
-- tab, carriage return, line feed, backslash, quote, backspace, form feed
abbrev pub escape_of : ℕ → Option ℕ
escape_of b =
    if b == byte "t" then Some tab
    else (if b == byte "r" then Some carriage_return
    else (if b == byte "n" then Some line_feed
    else (if b == backslash then Some backslash
    else (if b == quote then Some quote
    else (if b == byte "b" then Some backspace
    else (if b == byte "f" then Some form_feed else None))))))

abbrev pub is_hex_digit : ℕ → Bool
is_hex_digit b =
    is_digit b
    || ((nat_le (byte "a") b && nat_le b (byte "f"))
    || (nat_le (byte "A") b && nat_le b (byte "F")))

abbrev pub hex_value : ℕ → ℕ
hex_value b =
    if is_digit b
    then b - byte "0"
    else (if nat_le (byte "a") b then b - byte "a" + 10 else b - byte "A" + 10)

-- four hexadecimal digits, and the character that they number, which is no surrogate
pub record IsCode (a b c d code : ℕ) : Type 0 where
  pub digits : Each is_hex_digit (a ∷ b ∷ c ∷ d ∷ [])
  pub is : code ≡ ((hex_value a * 16 + hex_value b) * 16 + hex_value c) * 16 + hex_value d
  pub no_surrogate : (code < 0xD800) ⊎ (0xE000 ≤ code)

-- from one place to a later one there are characters and escapes that spell the text
pub data Spells : List ℕ → List ℕ → List ℕ → Type 0 where
  nothing : {here : List ℕ} → Spells here [] here
  plain : {b : ℕ} {here text rest : List ℕ} → is_plain b ≡ true → Spells here text rest
      → Spells (b ∷ here) (b ∷ text) rest
  escape : {b e : ℕ} {here after text rest : List ℕ} → here ≡ backslash ∷ b ∷ after
      → escape_of b ≡ Some e → Spells after text rest
      → Spells here (e ∷ text) rest
  code : {a b c d n : ℕ} {here after text all rest : List ℕ}
      → here ≡ backslash ∷ byte "u" ∷ a ∷ b ∷ c ∷ d ∷ after → IsCode a b c d n
      → Spells after text rest → all ≡ encode_utf8 n ++ text → Spells here all rest

-- from one place to a later one there is a string between its quotes
pub record StringAt (s here rest : List ℕ) : Type 0 where
  pub inside : List ℕ
  pub opens : here ≡ quote ∷ inside
  pub spells : Spells inside s (quote ∷ rest)
  pub utf8 : IsUtf8 s
