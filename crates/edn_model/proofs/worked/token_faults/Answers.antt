use Rattle.std.proofs.Common.{[], codes, refl, inl, lit<, arith}
use Rattle.edn_model.specs.Tokens.{Spells, plain, nothing}
use Rattle.edn_model.specs.Faults.{stuck, outside, TokenAt, DigitsBefore, StringFault, bad_escape, unknown, in_string, unsupported_token}
use Rattle.edn_model.specs.Faults.{bad, float, big_int, tag, char, IsUnsupported}
use Rattle.edn_model.specs.Grammar.{no_gap}
use Rattle.edn_model.proofs.Runs.{heads, tails}
use Rattle.edn_model.proofs.Pieces.{ascii_utf8}
use Rattle.edn_model.proofs.worked.token_faults.Goals as goal

pub returns-clause-escape : goal.returns-clause-escape
returns-clause-escape c =
    let before : Spells (codes "a\\q\"") (codes "a") (codes "\\q\"") = plain refl nothing in
    let fault : StringFault (codes "a\\q\"") bad (codes "\\q\"") =
    bad_escape before (ascii_utf8 (codes "a") refl) (unknown refl (λ e. omega arith)) in
    record {
      opens = [];
      here = codes "\"a\\q\"";
      place = codes "\\q\"";
      stands = outside no_gap;
      is = stuck (in_string fault);
      byte_is = refl;
    }

pub returns-clause-float : goal.returns-clause-float
returns-clause-float c =
    let stands : TokenAt (codes "1.5") (codes "1.5") [] = record {
      is = refl;
      each = refl;
      utf8 = ascii_utf8 (codes "1.5") refl;
      no_discard = λ more e. let h = heads e in omega arith;
      no_set = λ more e. let h = heads e in omega arith;
    } in
    let before : DigitsBefore 46 (codes "1.5") =
    record { sign = []; digits = codes "1"; more = codes "5"; is = refl; signs = inl refl; some = lit< tt; each = refl } in
    let what : IsUnsupported float (codes "1.5") = inl (46, refl, before) in
    record {
      opens = [];
      here = codes "1.5";
      place = codes "1.5";
      stands = outside no_gap;
      is = stuck (unsupported_token refl stands refl what);
      byte_is = refl;
    }

pub returns-clause-big : goal.returns-clause-big
returns-clause-big c =
    let stands : TokenAt (codes "7N") (codes "7N") [] = record {
      is = refl;
      each = refl;
      utf8 = ascii_utf8 (codes "7N") refl;
      no_discard = λ more e. let h = heads e in omega arith;
      no_set = λ more e. let h = heads e in omega arith;
    } in
    let before : DigitsBefore 78 (codes "7N") =
    record { sign = []; digits = codes "7"; more = []; is = refl; signs = inl refl; some = lit< tt; each = refl } in
    let what : IsUnsupported big_int (codes "7N") = before in
    record {
      opens = [];
      here = codes "7N";
      place = codes "7N";
      stands = outside no_gap;
      is = stuck (unsupported_token refl stands refl what);
      byte_is = refl;
    }

pub returns-clause-tag : goal.returns-clause-tag
returns-clause-tag c =
    let stands : TokenAt (codes "#foo 1") (codes "#foo") (codes " 1") = record {
      is = refl;
      each = refl;
      utf8 = ascii_utf8 (codes "#foo") refl;
      no_discard = λ more e. let h = heads (tails e) in omega arith;
      no_set = λ more e. let h = heads (tails e) in omega arith;
    } in
    let what : IsUnsupported tag (codes "#foo") =
    (102, codes "oo", refl, refl, λ e. let h = heads (tails e) in omega arith, λ e. let h = heads (tails e) in omega arith) in
    record {
      opens = [];
      here = codes "#foo 1";
      place = codes "#foo 1";
      stands = outside no_gap;
      is = stuck (unsupported_token refl stands refl what);
      byte_is = refl;
    }

pub returns-clause-char : goal.returns-clause-char
returns-clause-char c =
    let stands : TokenAt (codes "\\a") (codes "\\a") [] = record {
      is = refl;
      each = refl;
      utf8 = ascii_utf8 (codes "\\a") refl;
      no_discard = λ more e. let h = heads e in omega arith;
      no_set = λ more e. let h = heads e in omega arith;
    } in
    let what : IsUnsupported char (codes "\\a") = (codes "a", refl) in
    record {
      opens = [];
      here = codes "\\a";
      place = codes "\\a";
      stands = outside no_gap;
      is = stuck (unsupported_token refl stands refl what);
      byte_is = refl;
    }
