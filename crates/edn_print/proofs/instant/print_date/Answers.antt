use Rattle.std.proofs.Common.{◌≡◌, ◌++◌, ap, ◌∙◌, arith, FitsSigned, w16, unsigned_abs}
use Rattle.std.proofs.lemmas.Int.{to_z-of_z}
use Rattle.std.proofs.lemmas.Result.{on_ok_weaker}
use Rattle.jiff_core.proofs.SignedLemmas.{signed_arith}
use Rattle.edn_print.proofs.Dates.{date_is}
use Rattle.edn_print.proofs.instant.print_date.Goals as goal

pub returns-clause-ok : goal.returns-clause-ok
returns-clause-ok c =
    let d = c.from_days_since_min-date.result in
    let range = d.year_in in
    let fits : FitsSigned w16 d.year = omega (arith, signed_arith) in
    let year : c.unsigned_abs-year.result ≡ unsigned_abs d.year = simp to_z-of_z at c.unsigned_abs-year.ensures.value in
    let date =
    date_is d c.args.days c.from.result c.from-2.result c.from-3.result c.from_days_since_min-date.ensures
    (c.from.ensures ∙ year) c.from-2.ensures c.from-3.ensures in
    on_ok_weaker c.append.result
    (λ e. record { text = _; is = date; behind = e ∙ ap (λ z. c.args.out.now.items ++ z) c.civil.ensures }) c.append.ensures.ok
