use Rattle.std.proofs.Common.{◌∙◌, Bor, ap, map}
use Rattle.std.proofs.lemmas.Result.{IfOk-weaker}
use Rattle.fb_values.specs.declared.facts.Datom.{Datom}
use Rattle.fb_scan.proofs.scans.first.Goals as goal

pub returns : goal.returns
returns g c = λ all scan.
    IfOk-weaker c.copies.result _ _
    (λ ds same. same ∙ ap (map (λ (d : Bor Datom). d.now)) c.deref.ensures.value ∙ c.in_ok-found.ensures all scan)
    c.copies.ensures
