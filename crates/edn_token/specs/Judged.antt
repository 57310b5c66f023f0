-- What a token is, by its text.
-- EDN, edn-format: "nil", "Booleans", "Symbols", "Keywords", "Integers", "Tagged elements";
-- what is unsupported is this project's own choice.
use Rattle.std.specs.Prelude.{◌≡◌, ◌≢◌, ℕ, false, Option, Some, None, List, [], ◌∷◌, drop, codes}
use Rattle.edn_model.specs.Form as form
use Rattle.edn_model.specs.Bytes.{hash, plus, minus, colon, backslash, is_digit}
use Rattle.edn_model.specs.Tokens.{IsReserved, IsAtom}
use Rattle.edn_model.specs.Faults as faults
use Rattle.edn_model.specs.Faults.{DigitsBefore, IsUnsupported, IsNoToken}
use Rattle.edn_token.specs.declared.token.Token.{Token}
use Rattle.edn_token.specs.declared.token.Token.TheVariants.{Nil, Bool, Int, Symbol, Keyword, Inst}
use Rattle.edn_token.specs.declared.token.Token.TheVariants.{Uuid, Unsupported, Bad}
use Rattle.edn_token.specs.declared.token.What.{What}
use Rattle.edn_token.specs.declared.token.What.TheVariants.{Char, Float, BigInt, Wide}
use Rattle.edn_token.specs.declared.token.What.TheVariants.{NamespacedMap, Tag}
use Rattle.edn_token.specs.Names.{IsSymbolOrWord}

-- what is unsupported, in the definitions' words
abbrev pub what_of : What → faults.What
what_of Char = faults.char
what_of Float = faults.float
what_of BigInt = faults.big_int
what_of Wide = faults.wide
what_of NamespacedMap = faults.namespaced_map
what_of Tag = faults.tag

abbrev pub TokenIs : List ℕ → Token → Type 0
TokenIs token Nil = IsAtom form.nil token
TokenIs token (Bool b) = IsAtom (form.boolean b) token
TokenIs token (Int z) = IsAtom (form.integer z) token
TokenIs token Symbol = IsAtom (form.symbol token) token
TokenIs token Keyword = IsAtom (form.keyword (drop 1 token)) token
TokenIs token Inst = token ≡ codes "#inst"
TokenIs token Uuid = token ≡ codes "#uuid"
TokenIs token (Unsupported what) = IsUnsupported (what_of what) token
TokenIs token Bad = IsNoToken token

-- ---- steps

pub record NoTag (token : List ℕ) : Type 0 where
  pub no_inst : token ≢ codes "#inst"
  pub no_uuid : token ≢ codes "#uuid"

-- text that begins with no mark of a keyword, a tag or a character
pub record BeginsWord (token : List ℕ) : Type 0 where
  pub no_end : token ≢ []
  pub no_keyword : (more : List ℕ) → token ≢ colon ∷ more
  pub no_tag : (more : List ℕ) → token ≢ hash ∷ more
  pub no_char : (more : List ℕ) → token ≢ backslash ∷ more

-- such a text that is neither a symbol nor a word
pub record NoWord (token : List ℕ) : Type 0 where
  pub begins : BeginsWord token
  pub no_word : ¬ IsReserved token
  pub no_symbol : ¬ IsSymbolOrWord token

-- the text after a sign, where there is one
pub data Unsigned (token : List ℕ) : List ℕ → Type 0 where
  behind_plus : {body : List ℕ} → token ≡ plus ∷ body → Unsigned token body
  behind_minus : {body : List ℕ} → token ≡ minus ∷ body → Unsigned token body
  without_sign : ((more : List ℕ) → token ≢ plus ∷ more) → ((more : List ℕ) → token ≢ minus ∷ more)
      → Unsigned token token

-- the one byte, itself no digit, after an optional sign and digits
abbrev pub MarkIs : List ℕ → Option ℕ → Type 0
MarkIs token (Some mark) =
    DigitsBefore mark token
    × ((other : ℕ) → is_digit other ≡ false → DigitsBefore other token → other ≡ mark)
MarkIs token None = (mark : ℕ) → is_digit mark ≡ false → ¬ DigitsBefore mark token
