use Rattle.std.proofs.Common.{[], ◌∷◌, codes, pos, refl, ap, ◌++◌, sym, inr, inl, lit<}
use Rattle.std.proofs.lemmas.Str.{encode_ascii}
use Rattle.edn_model.specs.Form as form
use Rattle.edn_model.specs.Tokens.{IsDecimal, positive, negative, StringAt, IsCode, Spells, plain, code, nothing}
use Rattle.edn_model.specs.Grammar.{Text, atom, string, vector, Members, no_gap, blank, member, no_members}
use Rattle.edn_model.proofs.Pieces.{ascii_utf8}
use Rattle.edn_model.proofs.worked.vectors.Goals as goal

pub returns : goal.returns
returns c =
    let seven : IsDecimal 7 (codes "7") = record { some = lit< tt; each = refl; leading = inr refl; is = refl } in
    let zero : IsDecimal 0 (codes "0") = record { some = lit< tt; each = refl; leading = inl refl; is = refl } in
    let first : Text 63 (form.integer (pos 7)) (codes "+7,-0 \"a\\u0041\"]") (codes ",-0 \"a\\u0041\"]") =
    atom (codes "+7") (positive refl seven refl, refl) refl refl in
    let second : Text 63 (form.integer (pos 0)) (codes "-0 \"a\\u0041\"]") (codes " \"a\\u0041\"]") =
    atom (codes "-0") (negative refl zero refl, refl) refl refl in
    let letter : IsCode 48 48 52 49 65 = record { digits = refl; is = refl; no_surrogate = inl (lit< tt) } in
    let letter_a : Spells (codes "\\u0041\"]") (codes "A") (codes "\"]") =
    code {text = []} {all = codes "A"} refl letter nothing (ap (λ z. z ++ []) (sym (encode_ascii 65 (lit< tt)))) in
    let stands : StringAt (codes "aA") (codes "\"a\\u0041\"]") (codes "]") = record {
      inside = codes "a\\u0041\"]";
      opens = refl;
      spells = plain refl letter_a;
      utf8 = ascii_utf8 (codes "aA") refl;
    } in
    let members : Members 63 (form.forms (form.integer (pos 7) ∷ form.integer (pos 0) ∷ form.string (codes "aA") ∷ []))
    (codes "+7,-0 \"a\\u0041\"]") (codes "]") =
    member no_gap first (member (blank refl no_gap) second (member (blank refl no_gap) (string stands) (no_members no_gap))) in
    vector refl members
