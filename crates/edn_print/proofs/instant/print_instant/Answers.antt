use Rattle.std.proofs.Common.{◌≡◌, ◌++◌, ◌∷◌, ◌%◌, codes, refl, ap, ◌∙◌, subst, arith, pos, negsuc, ◌-ℤ◌, FitsSigned, w64, unsigned_abs}
use Rattle.std.proofs.lemmas.Int.{to_z-of_z}
use Rattle.std.proofs.lemmas.Result.{on_ok_weaker}
use Rattle.jiff_core.proofs.SignedLemmas.{signed_arith}
use Rattle.edn_model.specs.Canon.{CanonInstant}
use Rattle.edn_print.specs.Printed.{clock_text}
use Rattle.edn_print.specs.Printable.{nearest}
use Rattle.edn_print.proofs.Tags.{canon_plain}
use Rattle.edn_print.proofs.Moments.{in_millis, canon_instant, written}
use Rattle.edn_print.proofs.instant.print_instant.Goals as goal

pub returns-clause-ok : goal.returns-clause-ok
returns-clause-ok c =
    let z = c.clamp.result in
    let since = c.abs_diff-since_first.result in
    let given : FitsSigned w64 c.args.millis = c.ranges.millis in
    let near : z ≡ nearest c.args.millis = simp to_z-of_z at c.clamp.ensures.value in
    let low = c.clamp.ensures.lower_bound in
    let high = c.clamp.ensures.upper_bound in
    let fits : FitsSigned w64 z = omega (arith, signed_arith) in
    let apart : since ≡ unsigned_abs (z -ℤ negsuc 62135596799999) = simp to_z-of_z at c.abs_diff-since_first.ensures in
    let is : z ≡ pos since -ℤ pos 62135596800000 = in_millis z since low apart in
    let date = c.in_ok-print_date.ensures.ok in
    let clock = clock_text (since % 86400000) in
    let s = date.text ++ 84 ∷ (clock ++ codes "-00:00") in
    let text : CanonInstant z s = canon_instant z since date.text is date.is in
    let plain = canon_plain z s text in
    let timed = c.in_ok-append-3.ensures.ok ∙ ap (λ y. c.append-2.new.out.items ++ y) c.clock.ensures in
    on_ok_weaker c.append-4.result (λ e. record {
      text = _;
      is = (s, subst (λ y. CanonInstant y s) near text, refl);
      behind = written s date.text clock _ _ _ _ _ _ plain refl c.in_ok-append.ensures.ok date.behind c.in_ok-append-2.ensures.ok timed e;
    }) c.append-4.ensures.ok
