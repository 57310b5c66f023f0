-- Which forms there are so far, by their codes.
-- This project's own choice.
use Rattle.std.specs.Prelude.{◌≡◌, Bool, true, cond, List, ◌++◌}
use Rattle.std.specs.Cmp.Lexicographic.{slice_cmp}
use Rattle.std.specs.List.{list_any}
use Rattle.std.specs.Ordering.{eq_by_cmp, is_eq}
use Rattle.edn_model.specs.Form as form
use Rattle.edn_duplicates.specs.Code.{AreCodes}
use Rattle.edn_duplicates.specs.Order.{token_cmp, tokens_of}
use Rattle.edn_duplicates.specs.declared.coded.Coded.{Coded}
use Rattle.edn_duplicates.specs.declared.form_codes.FormCodes.{FormCodes}
use Rattle.edn_duplicates.specs.declared.token.CodeToken.{CodeToken}

-- whether one of some codes is this one
abbrev pub held : Coded → List Coded → Bool
held q codes = list_any (λ c. is_eq (slice_cmp token_cmp (tokens_of q) (tokens_of c))) codes

-- to some codes this one was added, unless it was there
abbrev pub HasOneMore : Coded → List Coded → List Coded → Type 0
HasOneMore a old new =
    (q : Coded)
    → held q new ≡ cond (is_eq (slice_cmp token_cmp (tokens_of a) (tokens_of q))) true (held q old)

-- the codes of the forms are held
pub record AreSaid (fs : form.Forms) (kept : List Coded) : Type 0 where
  pub codes : List (List CodeToken)
  pub are : AreCodes token_cmp fs codes
  pub same : (q : Coded)
      → held q kept ≡ list_any (eq_by_cmp (slice_cmp token_cmp) (tokens_of q)) codes

abbrev pub codes_in : FormCodes → List Coded
codes_in said = said.few.items ++ said.many.keys

abbrev pub HasCodesOf : form.Forms → FormCodes → Type 0
HasCodesOf fs said = AreSaid fs (codes_in said)
