use Rattle.std.proofs.Common.{[], codes, refl, lit<, lit≤}
use Rattle.edn_model.specs.Grammar.{FormAt, LastComment, no_gap, blank, last_comment}
use Rattle.edn_model.proofs.Pieces.{ascii_utf8}
use Rattle.talk_model.specs.Samples.{said}
use Rattle.live_model.proofs.Words.{word}
use Rattle.live_model.proofs.readings.lines_that_are_whole.Goals as goal

pub returns-clause-empty : goal.returns-clause-empty
returns-clause-empty c = record { end = 0; forms = refl; ends = no_gap }

pub returns-clause-comment : goal.returns-clause-comment
returns-clause-comment c =
    let comment : LastComment (codes "; so far") =
    record { text = codes " so far"; is = refl; one_line = refl; utf8 = ascii_utf8 (codes " so far") refl } in
    record { end = 0; forms = refl; ends = last_comment comment }

pub returns-clause-two : goal.returns-clause-two
returns-clause-two c =
    let first : FormAt (codes "[:db] [:sync]") 0 (said (codes "db") []) 5 = record {
      order = (lit< tt, lit≤ tt);
      start = codes "[:db] [:sync]";
      before = no_gap;
      text = word (codes "db") (codes " [:sync]") (lit< tt) refl refl refl;
    } in
    let second : FormAt (codes "[:db] [:sync]") 5 (said (codes "sync") []) 13 = record {
      order = (lit< tt, lit≤ tt);
      start = codes "[:sync]";
      before = blank refl no_gap;
      text = word (codes "sync") [] (lit< tt) refl refl refl;
    } in
    record { end = 13; forms = (5, first, (13, second, refl)); ends = no_gap }

pub returns-clause-carriage_return : goal.returns-clause-carriage_return
returns-clause-carriage_return c =
    let first : FormAt (codes "[:db]\r") 0 (said (codes "db") []) 5 = record {
      order = (lit< tt, lit≤ tt);
      start = codes "[:db]\r";
      before = no_gap;
      text = word (codes "db") (codes "\r") (lit< tt) refl refl refl;
    } in
    record { end = 5; forms = (5, first, refl); ends = blank refl no_gap }
