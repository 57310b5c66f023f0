use Rattle.std.proofs.Common.{[], codes, pos, refl, lit<, lit≤, rules}
use Rattle.jiff_core.specs.Calendar.{days_from_civil, day_count, days_of_years, days_of_months}
use Rattle.edn_model.specs.Tokens.{StringAt}
use Rattle.edn_model.specs.Instants.{IsDate, IsFraction, part, IsTime, IsOffset, east, IsInstant, at_time}
use Rattle.edn_model.specs.Grammar.{TagAt, Gap, no_gap, blank, instant}
use Rattle.edn_model.proofs.Pieces.{ascii_utf8, spelled_plain}
use Rattle.edn_model.proofs.worked.instants.Goals as goal

leap_day : IsDate (pos 19782) (codes "2024-02-29")
unfolding days_from_civil day_count days_of_years days_of_months
leap_day = record { year = 2024; month = 2; day = 29; later = lit≤ tt; exists = search rules; text = refl; is = refl }

last_second : IsTime 86399999 (codes "23:59:59.9999")
last_second =
    let dropped : IsFraction 999 (codes ".9999") = part {digits = codes "9999"} refl refl (lit≤ tt, lit≤ tt) refl in
    record {
      hour = 23;
      minute = 59;
      second = 59;
      fraction = 999;
      ending = codes ".9999";
      exists = (lit< tt, lit< tt, lit< tt);
      part = dropped;
      text = refl;
      is = refl;
    }

in_time : IsInstant (pos 1709245799999) (codes "2024-02-29T23:59:59.9999+01:30")
in_time =
    let offset : IsOffset (pos 90) (codes "+01:30") = east 1 30 refl (lit< tt, lit< tt) refl in
    at_time {date = codes "2024-02-29"} {time = codes "23:59:59.9999"} {ending = codes "+01:30"} refl leap_day last_second offset refl refl

pub returns : goal.returns
returns c =
    let tag : TagAt (codes "inst") (codes "#inst \"2024-02-29T23:59:59.9999+01:30\"") (codes " \"2024-02-29T23:59:59.9999+01:30\"") =
    record { is = refl; ends = refl } in
    let gap : Gap 64 (codes " \"2024-02-29T23:59:59.9999+01:30\"") (codes "\"2024-02-29T23:59:59.9999+01:30\"") = blank refl no_gap in
    let stands : StringAt (codes "2024-02-29T23:59:59.9999+01:30") (codes "\"2024-02-29T23:59:59.9999+01:30\"") [] = record {
      inside = codes "2024-02-29T23:59:59.9999+01:30\"";
      opens = refl;
      spells = spelled_plain (codes "2024-02-29T23:59:59.9999+01:30") (codes "\"") refl;
      utf8 = ascii_utf8 (codes "2024-02-29T23:59:59.9999+01:30") refl;
    } in
    instant tag gap stands in_time
