-- Commands of a word alone, in the lines of the examples.
use Rattle.std.proofs.Common.{◌<◌, ℕ, List, [], ◌∷◌, ◌++◌, length, refl}
use Rattle.std.specs.Prelude.{IsTrue}
use Rattle.edn_model.specs.Form as edn
use Rattle.edn_model.specs.Bytes.{Each, open_bracket, close_bracket, colon, is_name_byte}
use Rattle.edn_model.specs.Tokens.{begins_keyword}
use Rattle.edn_model.specs.Grammar.{Text, vector, Members, member, no_members, no_gap}
use Rattle.edn_model.proofs.Pieces.{is_ascii, key_text}
use Rattle.talk_model.specs.Samples.{said}

-- [:word]
pub word : (w rest : List ℕ) → 0 < length w → Each is_name_byte w → IsTrue (begins_keyword w) → Each is_ascii w
    → Text 64 (said w []) (open_bracket ∷ colon ∷ (w ++ close_bracket ∷ rest)) rest
word w rest some each begin ascii =
    let key : Members 63 (edn.form (edn.keyword w) edn.no_forms) (colon ∷ (w ++ close_bracket ∷ rest)) (close_bracket ∷ rest) =
    member no_gap (key_text 63 w (close_bracket ∷ rest) some each begin ascii refl) (no_members no_gap) in
    vector refl key
