-- The one canonical text of a form: one space between the forms of a collection and none elsewhere,
-- five escapes in a string, members in their order,
-- identifiers in lower case, and instants in UTC with three digits of a second's fraction.
-- This project's own choice.
use Rattle.std.specs.Prelude.{◌≡◌, ℕ, ◌+◌, ◌*◌, ◌<◌, ◌≤◌, ◌==◌, if◌then◌else◌, ℤ, pos, List, []}
use Rattle.std.specs.Prelude.{◌∷◌, ◌++◌, codes, flat_map}
use Rattle.std.specs.Fmt.{signed_decimal}
use Rattle.std.specs.Int.{w128, to_be_bytes}
use Rattle.jiff_core.specs.Calendar.{IsCivilDate, days_from_civil}
use Rattle.uuid.specs.Text.{lower, hyphenated_text}
use Rattle.std.specs.Str.{byte}
use Rattle.edn_model.specs.Form as form
use Rattle.edn_model.specs.Bytes.{tab, line_feed, carriage_return, space, quote, hash, open_paren}
use Rattle.edn_model.specs.Bytes.{close_paren, colon, point, open_bracket, backslash, close_bracket}
use Rattle.edn_model.specs.Bytes.{open_brace, close_brace}
use Rattle.edn_model.specs.Instants.{digits, date_text, second_text, instant_of}

-- what a string has for a byte of its text
abbrev pub escaped : ℕ → List ℕ
escaped b =
    if b == tab then codes "\\t"
    else (if b == line_feed then codes "\\n"
    else (if b == carriage_return then codes "\\r"
    else (if b == quote then backslash ∷ quote ∷ []
    else (if b == backslash then backslash ∷ backslash ∷ [] else b ∷ []))))

abbrev pub string_text : List ℕ → List ℕ
string_text s = quote ∷ (flat_map escaped s ++ quote ∷ [])

-- a date and a time of day in UTC
pub record CanonInstant (z : ℤ) (bytes : List ℕ) : Type 0 where
  pub year : ℕ
  pub month : ℕ
  pub day : ℕ
  pub hour : ℕ
  pub minute : ℕ
  pub second : ℕ
  pub milli : ℕ
  pub exists : (1 ≤ year)
      × IsCivilDate (pos year) month day
      × (hour < 24)
      × (minute < 60)
      × (second < 60)
      × (milli < 1000)
  pub text : bytes
      ≡ date_text year month day ++ byte "T"
      ∷ (second_text hour minute second ++ point ∷ (digits 3 milli ++ codes "-00:00"))
  pub is : z
      ≡ instant_of (days_from_civil (pos year) month day)
      (((hour * 60 + minute) * 60 + second) * 1000 + milli) (pos 0)

-- the members' texts between their brackets
abbrev mutual
  pub Canon : form.Form → List ℕ → Type 0
  Canon form.nil bytes = bytes ≡ codes "nil"
  Canon (form.boolean b) bytes = bytes ≡ (if b then codes "true" else codes "false")
  Canon (form.integer z) bytes = bytes ≡ signed_decimal z
  Canon (form.string s) bytes = bytes ≡ string_text s
  Canon (form.symbol s) bytes = bytes ≡ s
  Canon (form.keyword k) bytes = bytes ≡ colon ∷ k
  Canon (form.list fs) bytes =
      (inside : List ℕ) × CanonAll fs inside × (bytes ≡ open_paren ∷ (inside ++ close_paren ∷ []))
  Canon (form.vector fs) bytes =
      (inside : List ℕ)
      × CanonAll fs inside
      × (bytes ≡ open_bracket ∷ (inside ++ close_bracket ∷ []))
  Canon (form.map ps) bytes =
      (inside : List ℕ) × CanonPairs ps inside × (bytes ≡ open_brace ∷ (inside ++ close_brace ∷ []))
  Canon (form.set fs) bytes =
      (inside : List ℕ)
      × CanonAll fs inside
      × (bytes ≡ hash ∷ open_brace ∷ (inside ++ close_brace ∷ []))
  Canon (form.instant z) bytes =
      (text : List ℕ) × CanonInstant z text × (bytes ≡ codes "#inst " ++ string_text text)
  Canon (form.uuid n) bytes =
      bytes ≡ codes "#uuid " ++ string_text (hyphenated_text lower (to_be_bytes w128 n))

  -- the first without a space before it
  pub CanonAll : form.Forms → List ℕ → Type 0
  CanonAll form.no_forms bytes = bytes ≡ []
  CanonAll (form.form f fs) bytes =
      (text : List ℕ) × (rest : List ℕ) × Canon f text × CanonRest fs rest × (bytes ≡ text ++ rest)

  pub CanonRest : form.Forms → List ℕ → Type 0
  CanonRest form.no_forms bytes = bytes ≡ []
  CanonRest (form.form f fs) bytes =
      (text : List ℕ)
      × (rest : List ℕ)
      × Canon f text
      × CanonRest fs rest
      × (bytes ≡ space ∷ (text ++ rest))

  pub CanonPairs : form.Pairs → List ℕ → Type 0
  CanonPairs form.no_pairs bytes = bytes ≡ []
  CanonPairs (form.pair k v ps) bytes =
      (key : List ℕ)
      × (value : List ℕ)
      × (rest : List ℕ)
      × Canon k key
      × Canon v value
      × CanonRestPairs ps rest
      × (bytes ≡ key ++ space ∷ (value ++ rest))

  pub CanonRestPairs : form.Pairs → List ℕ → Type 0
  CanonRestPairs form.no_pairs bytes = bytes ≡ []
  CanonRestPairs (form.pair k v ps) bytes =
      (key : List ℕ)
      × (value : List ℕ)
      × (rest : List ℕ)
      × Canon k key
      × Canon v value
      × CanonRestPairs ps rest
      × (bytes ≡ space ∷ (key ++ space ∷ (value ++ rest)))
