use Rattle.std.proofs.Common.{[], codes, pos, refl, inr, lit<, lit≤}
use Rattle.edn_model.specs.Form as form
use Rattle.edn_model.specs.Tokens.{IsDecimal}
use Rattle.edn_model.specs.Grammar.{LastComment, Gap, no_gap, blank, last_comment, discard, Text}
use Rattle.edn_model.proofs.Pieces.{ascii_utf8, int_text}
use Rattle.edn_model.proofs.worked.gaps.Goals as goal

pub returns-clause-first : goal.returns-clause-first
returns-clause-first c =
    let one : IsDecimal 1 (codes "1") = record { some = lit< tt; each = refl; leading = inr refl; is = refl } in
    record {
      order = (lit< tt, lit≤ tt);
      start = codes "1 #_ 2 ; c";
      before = no_gap;
      text = int_text 64 1 (codes "1") (codes " #_ 2 ; c") one refl refl;
    }

pub returns-clause-rest : goal.returns-clause-rest
returns-clause-rest c =
    let two : IsDecimal 2 (codes "2") = record { some = lit< tt; each = refl; leading = inr refl; is = refl } in
    let text : Text 63 (form.integer (pos 2)) (codes "2 ; c") (codes " ; c") = int_text 63 2 (codes "2") (codes " ; c") two refl refl in
    let before : Gap 63 (codes " 2 ; c") (codes "2 ; c") = blank refl no_gap in
    let comment : LastComment (codes "; c") =
    record { text = codes " c"; is = refl; one_line = refl; utf8 = ascii_utf8 (codes " c") refl } in
    let after : Gap 64 (codes " ; c") [] = blank refl (last_comment comment) in
    let gone : Gap 64 (codes "#_ 2 ; c") [] = discard refl before text after in
    blank refl gone
