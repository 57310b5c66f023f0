use Rattle.std.proofs.Common.{[], ◌∷◌, ◌++◌, codes, refl, lit≤, arith}
use Rattle.edn_model.specs.Form as form
use Rattle.edn_model.specs.Grammar.{no_gap, no_members}
use Rattle.edn_model.specs.Faults.{in_vector, stuck, Faultless, outside, inside, TokenAt, no_token, bad_character}
use Rattle.edn_model.proofs.Runs.{heads}
use Rattle.edn_model.proofs.Pieces.{ascii_utf8, no_character_255}
use Rattle.edn_model.proofs.worked.broken_tokens.Goals as goal

pub returns-clause-tilde : goal.returns-clause-tilde
returns-clause-tilde c =
    record {
      opens = [];
      here = codes "~a" ++ 255 ∷ [];
      place = codes "~a" ++ 255 ∷ [];
      stands = outside no_gap;
      is = stuck (no_token refl refl);
      byte_is = refl;
    }

pub returns-clause-quote : goal.returns-clause-quote
returns-clause-quote c =
    record {
      opens = [];
      here = codes "'" ++ 255 ∷ [];
      place = codes "'" ++ 255 ∷ [];
      stands = outside no_gap;
      is = stuck (no_token refl refl);
      byte_is = refl;
    }

pub returns-clause-letter : goal.returns-clause-letter
returns-clause-letter c =
    let stands : TokenAt (codes "a" ++ 255 ∷ []) (codes "a") (255 ∷ []) = record {
      is = refl;
      each = refl;
      utf8 = ascii_utf8 (codes "a") refl;
      no_discard = λ more e. let h = heads e in omega arith;
      no_set = λ more e. let h = heads e in omega arith;
    } in
    record {
      opens = [];
      here = codes "a" ++ 255 ∷ [];
      place = 255 ∷ [];
      stands = outside no_gap;
      is = stuck (bad_character refl refl stands (no_character_255 []));
      byte_is = refl;
    }

pub returns-clause-number : goal.returns-clause-number
returns-clause-number c =
    let stands : TokenAt (codes "01" ++ 255 ∷ []) (codes "01") (255 ∷ []) = record {
      is = refl;
      each = refl;
      utf8 = ascii_utf8 (codes "01") refl;
      no_discard = λ more e. let h = heads e in omega arith;
      no_set = λ more e. let h = heads e in omega arith;
    } in
    record {
      opens = [];
      here = codes "01" ++ 255 ∷ [];
      place = 255 ∷ [];
      stands = outside no_gap;
      is = stuck (bad_character refl refl stands (no_character_255 []));
      byte_is = refl;
    }

pub returns-clause-tilde_inside : goal.returns-clause-tilde_inside
returns-clause-tilde_inside c =
    let start : Faultless (codes "[~a" ++ 255 ∷ codes "]") [] (codes "[~a" ++ 255 ∷ codes "]") = outside no_gap in
    record {
      opens = in_vector form.no_forms ∷ [];
      here = codes "~a" ++ 255 ∷ codes "]";
      place = codes "~a" ++ 255 ∷ codes "]";
      stands = inside start refl (lit≤ tt) (codes "~a" ++ 255 ∷ codes "]", refl, no_members no_gap);
      is = stuck (no_token refl refl);
      byte_is = refl;
    }

pub returns-clause-quote_inside : goal.returns-clause-quote_inside
returns-clause-quote_inside c =
    let start : Faultless (codes "['" ++ 255 ∷ codes "]") [] (codes "['" ++ 255 ∷ codes "]") = outside no_gap in
    record {
      opens = in_vector form.no_forms ∷ [];
      here = codes "'" ++ 255 ∷ codes "]";
      place = codes "'" ++ 255 ∷ codes "]";
      stands = inside start refl (lit≤ tt) (codes "'" ++ 255 ∷ codes "]", refl, no_members no_gap);
      is = stuck (no_token refl refl);
      byte_is = refl;
    }

pub returns-clause-letter_inside : goal.returns-clause-letter_inside
returns-clause-letter_inside c =
    let start : Faultless (codes "[a" ++ 255 ∷ codes "]") [] (codes "[a" ++ 255 ∷ codes "]") = outside no_gap in
    let stands : TokenAt (codes "a" ++ 255 ∷ codes "]") (codes "a") (255 ∷ codes "]") = record {
      is = refl;
      each = refl;
      utf8 = ascii_utf8 (codes "a") refl;
      no_discard = λ more e. let h = heads e in omega arith;
      no_set = λ more e. let h = heads e in omega arith;
    } in
    record {
      opens = in_vector form.no_forms ∷ [];
      here = codes "a" ++ 255 ∷ codes "]";
      place = 255 ∷ codes "]";
      stands = inside start refl (lit≤ tt) (codes "a" ++ 255 ∷ codes "]", refl, no_members no_gap);
      is = stuck (bad_character refl refl stands (no_character_255 (codes "]")));
      byte_is = refl;
    }
