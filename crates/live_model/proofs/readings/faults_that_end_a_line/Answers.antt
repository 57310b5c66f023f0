use Rattle.std.proofs.Common.{[], ◌∷◌, codes, refl, inl, inr, lit<, lit≤, arith}
use Rattle.edn_model.specs.Form as edn
use Rattle.edn_model.specs.Tokens.{IsReserved, IsLongSymbol, IsAtom, Spells, plain, nothing}
use Rattle.edn_model.specs.Grammar.{FormAt, Members, member, no_members, no_gap, blank, atom}
use Rattle.edn_model.specs.Faults.{FaultAt, Faultless, StringFault, bad, cut, stuck, outside, inside, in_vector, closes_nothing, ends, in_string, no_quote}
use Rattle.edn_model.proofs.Runs.{heads}
use Rattle.edn_model.proofs.Pieces.{ascii_utf8, key_text}
use Rattle.talk_model.specs.Samples.{said}
use Rattle.live_model.proofs.Words.{word}
use Rattle.live_model.proofs.readings.faults_that_end_a_line.Goals as goal

not_reserved : ¬ IsReserved (codes "y")
not_reserved (inl is) = let h = heads is in omega arith
not_reserved (inr (inl is)) = let h = heads is in omega arith
not_reserved (inr (inr is)) = let h = heads is in omega arith

pub returns-clause-in_the_middle : goal.returns-clause-in_the_middle
returns-clause-in_the_middle c =
    let first : FormAt (codes "[:db] ] [:sync]") 0 (said (codes "db") []) 5 = record {
      order = (lit< tt, lit≤ tt);
      start = codes "[:db] ] [:sync]";
      before = no_gap;
      text = word (codes "db") (codes " ] [:sync]") (lit< tt) refl refl refl;
    } in
    let fault : FaultAt (codes "[:db] ] [:sync]") 5 bad 6 = record {
      opens = [];
      here = codes "] [:sync]";
      place = codes "] [:sync]";
      stands = outside (blank refl no_gap);
      is = stuck (closes_nothing refl refl);
      byte_is = refl;
    } in
    record { end = 5; forms = (5, first, refl); ends = fault }

pub returns-clause-before_a_line_feed : goal.returns-clause-before_a_line_feed
returns-clause-before_a_line_feed c =
    let before : Spells (codes "x") (codes "x") [] = plain refl nothing in
    let broken : StringFault (codes "x") cut [] = no_quote before (ascii_utf8 (codes "x") refl) in
    let fault : FaultAt (codes "\"x") 0 cut 2 =
    record { opens = []; here = codes "\"x"; place = []; stands = outside no_gap; is = stuck (in_string broken); byte_is = refl } in
    record { end = 0; forms = refl; ends = fault }

pub returns-clause-behind_a_line_feed : goal.returns-clause-behind_a_line_feed
returns-clause-behind_a_line_feed c =
    let plain_word : IsLongSymbol (codes "y") = (refl, not_reserved, inl (lit< tt, refl)) in
    let name : IsAtom (edn.symbol (codes "y")) (codes "y") = (refl, (ascii_utf8 (codes "y") refl, inr plain_word)) in
    let first : FormAt (codes "y\"") 0 (edn.symbol (codes "y")) 1 =
    record { order = (lit< tt, lit≤ tt); start = codes "y\""; before = no_gap; text = atom (codes "y") name refl refl } in
    let broken : StringFault [] cut [] = no_quote nothing (ascii_utf8 [] refl) in
    let fault : FaultAt (codes "y\"") 1 cut 2 =
    record { opens = []; here = codes "\""; place = []; stands = outside no_gap; is = stuck (in_string broken); byte_is = refl } in
    record { end = 1; forms = (1, first, refl); ends = fault }

pub returns-clause-unclosed : goal.returns-clause-unclosed
returns-clause-unclosed c =
    let start : Faultless (codes "[:db") [] (codes "[:db") = outside no_gap in
    let members : Members 63 (edn.form (edn.keyword (codes "db")) edn.no_forms) (codes ":db") [] =
    member no_gap (key_text 63 (codes "db") [] (lit< tt) refl refl refl refl) (no_members no_gap) in
    let fault : FaultAt (codes "[:db") 0 cut 4 = record {
      opens = in_vector (edn.form (edn.keyword (codes "db")) edn.no_forms) ∷ [];
      here = [];
      place = [];
      stands = inside start refl (lit≤ tt) (codes ":db", refl, members);
      is = stuck ends;
      byte_is = refl;
    } in
    record { end = 0; forms = refl; ends = fault }
