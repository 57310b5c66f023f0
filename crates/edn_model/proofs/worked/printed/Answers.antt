use Rattle.std.proofs.Common.{[], codes, pos, refl, sym, lit<, lit≤, rules}
use Rattle.std.proofs.lemmas.Fmt.{decimal_digit}
use Rattle.jiff_core.specs.Calendar.{IsCivilDate, days_from_civil, day_count, days_of_years, days_of_months}
use Rattle.uuid.proofs.OnLiterals.{uuid_on_literals}
use Rattle.edn_model.specs.Canon.{CanonInstant}
use Rattle.edn_model.proofs.worked.printed.Goals as goal

pub returns-clause-vector : goal.returns-clause-vector
returns-clause-vector c = (
  codes "7 0 \"aA\"",
  (
    codes "7",
    codes " 0 \"aA\"",
    sym (decimal_digit 7 (lit< tt)),
    (codes "0", codes " \"aA\"", sym (decimal_digit 0 (lit< tt)), (codes "\"aA\"", [], refl, refl, refl), refl),
    refl,
  ),
  refl,
)

evening : CanonInstant (pos 1709245799999) (codes "2024-02-29T22:29:59.999-00:00")
unfolding days_from_civil day_count days_of_years days_of_months
evening =
    let exists : IsCivilDate (pos 2024) 2 29 = search rules in
    record {
      year = 2024;
      month = 2;
      day = 29;
      hour = 22;
      minute = 29;
      second = 59;
      milli = 999;
      exists = (lit≤ tt, exists, lit< tt, lit< tt, lit< tt, lit< tt);
      text = refl;
      is = refl;
    }

pub returns-clause-instant : goal.returns-clause-instant
returns-clause-instant c = (codes "2024-02-29T22:29:59.999-00:00", evening, refl)

pub returns-clause-uuid : goal.returns-clause-uuid
unfolding uuid_on_literals
returns-clause-uuid c = refl
