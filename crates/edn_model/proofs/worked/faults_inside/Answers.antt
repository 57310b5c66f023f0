use Rattle.std.proofs.Common.{[], ◌∷◌, codes, pos, refl, inr, inl, lit<, lit≤, arith}
use Rattle.edn_model.specs.Form as form
use Rattle.edn_model.specs.Tokens.{IsDecimal, Spells, plain, nothing}
use Rattle.edn_model.specs.Grammar.{TagAt, Gap, no_gap, blank, Members, member, no_members}
use Rattle.edn_model.specs.Faults.{stuck, in_list, in_vector, behind_inst, Faultless, outside, inside, StringFault, no_quote, cut_escape}
use Rattle.edn_model.specs.Faults.{few_digits, in_string, closes_nothing, no_string, TokenAt, DigitsBefore, IsUnsupported}
use Rattle.edn_model.specs.Faults.{unsupported_token, cut, float}
use Rattle.edn_model.proofs.Pieces.{ascii_utf8, int_text}
use Rattle.edn_model.proofs.Runs.{heads}
use Rattle.edn_model.proofs.worked.faults_inside.Goals as goal

one : IsDecimal 1 (codes "1")
one = record { some = lit< tt; each = refl; leading = inr refl; is = refl }

pub returns-clause-bracket : goal.returns-clause-bracket
returns-clause-bracket c =
    let start : Faultless (codes "(1]") [] (codes "(1]") = outside no_gap in
    let members : Members 63 (form.form (form.integer (pos 1)) form.no_forms) (codes "1]") (codes "]") =
    member no_gap (int_text 63 1 (codes "1") (codes "]") one refl refl) (no_members no_gap) in
    record {
      opens = in_list (form.form (form.integer (pos 1)) form.no_forms) ∷ [];
      here = codes "]";
      place = codes "]";
      stands = inside start refl (lit≤ tt) (codes "1]", refl, members);
      is = stuck (closes_nothing refl refl);
      byte_is = refl;
    }

pub returns-clause-no_string : goal.returns-clause-no_string
returns-clause-no_string c =
    let tag : TagAt (codes "inst") (codes "#inst 5") (codes " 5") = record { is = refl; ends = refl } in
    let gap : Gap 64 (codes " 5") (codes "5") = blank refl no_gap in
    let start : Faultless (codes "#inst 5") [] (codes "#inst 5") = outside no_gap in
    record {
      opens = behind_inst ∷ [];
      here = codes "5";
      place = codes "5";
      stands = inside start refl (lit≤ tt) (codes " 5", tag, gap);
      is = stuck (no_string refl refl);
      byte_is = refl;
    }

pub returns-clause-string : goal.returns-clause-string
returns-clause-string c =
    let before : Spells (codes "a") (codes "a") [] = plain refl nothing in
    let fault : StringFault (codes "a") cut [] = no_quote before (ascii_utf8 (codes "a") refl) in
    record { opens = []; here = codes "\"a"; place = []; stands = outside no_gap; is = stuck (in_string fault); byte_is = refl }

pub returns-clause-escape : goal.returns-clause-escape
returns-clause-escape c =
    let fault : StringFault (codes "\\u00") cut [] =
    cut_escape nothing (ascii_utf8 [] refl) (few_digits {digits = codes "00"} (lit< tt) refl) in
    record { opens = []; here = codes "\"\\u00"; place = []; stands = outside no_gap; is = stuck (in_string fault); byte_is = refl }

pub returns-clause-later : goal.returns-clause-later
returns-clause-later c =
    let start : Faultless (codes " [1 2.5]") [] (codes "[1 2.5]") = outside (blank refl no_gap) in
    let members : Members 63 (form.form (form.integer (pos 1)) form.no_forms) (codes "1 2.5]") (codes "2.5]") =
    member no_gap (int_text 63 1 (codes "1") (codes " 2.5]") one refl refl) (no_members (blank refl no_gap)) in
    let stands : TokenAt (codes "2.5]") (codes "2.5") (codes "]") = record {
      is = refl;
      each = refl;
      utf8 = ascii_utf8 (codes "2.5") refl;
      no_discard = λ more e. let h = heads e in omega arith;
      no_set = λ more e. let h = heads e in omega arith;
    } in
    let before : DigitsBefore 46 (codes "2.5") =
    record { sign = []; digits = codes "2"; more = codes "5"; is = refl; signs = inl refl; some = lit< tt; each = refl } in
    let what : IsUnsupported float (codes "2.5") = inl (46, refl, before) in
    record {
      opens = in_vector (form.form (form.integer (pos 1)) form.no_forms) ∷ [];
      here = codes "2.5]";
      place = codes "2.5]";
      stands = inside start refl (lit≤ tt) (codes "1 2.5]", refl, members);
      is = stuck (unsupported_token refl stands refl what);
      byte_is = refl;
    }
