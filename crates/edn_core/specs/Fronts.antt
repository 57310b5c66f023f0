-- What is at the front of some bytes that begin with neither white space nor a comment.
-- EDN, edn-format: "Built-in elements".
use Rattle.std.specs.Prelude.{◌≡◌, ◌≢◌, ℕ, true, List, [], ◌∷◌, drop}
use Rattle.edn_model.specs.Bytes.{quote, hash, open_paren, open_bracket, underscore, open_brace}
use Rattle.edn_model.specs.Bytes.{is_closing, is_token_byte}
use Rattle.edn_core.specs.declared.front.Front.{Front}
use Rattle.edn_core.specs.declared.front.Front.TheVariants.{End, Quote, Closing, Discard}
use Rattle.edn_core.specs.declared.front.Front.TheVariants.{List as List', Vector, Map, Set, Token}

-- a byte that may be in a token, and with the next one no mark of a discard or a set
pub record BeginsToken (here : List ℕ) : Type 0 where
  pub first : ℕ
  pub behind : List ℕ
  pub is : here ≡ first ∷ behind
  pub may : is_token_byte first ≡ true
  pub no_discard : (more : List ℕ) → here ≢ hash ∷ underscore ∷ more
  pub no_set : (more : List ℕ) → here ≢ hash ∷ open_brace ∷ more

abbrev pub FrontIs : List ℕ → Front → Type 0
FrontIs here End = here ≡ []
FrontIs here Quote = here ≡ quote ∷ drop 1 here
FrontIs here (Closing b) = (here ≡ b ∷ drop 1 here) × (is_closing b ≡ true)
FrontIs here Discard = here ≡ hash ∷ underscore ∷ drop 2 here
FrontIs here List' = here ≡ open_paren ∷ drop 1 here
FrontIs here Vector = here ≡ open_bracket ∷ drop 1 here
FrontIs here Map = here ≡ open_brace ∷ drop 1 here
FrontIs here Set = here ≡ hash ∷ open_brace ∷ drop 2 here
FrontIs here Token = BeginsToken here
