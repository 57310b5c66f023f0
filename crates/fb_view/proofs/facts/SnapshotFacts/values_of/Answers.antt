use Rattle.std.proofs.Common.{◌∙◌, ap, map}
use Rattle.std.proofs.lemmas.Result.{IfOk-weaker}
use Rattle.fb_values.specs.declared.facts.Datom.{Datom}
use Rattle.fb_view.proofs.Answering.{values_told}
use Rattle.fb_view.proofs.facts.SnapshotFacts.values_of.Goals as goal

pub returns : goal.returns
returns c =
    IfOk-weaker c.values.result _ _
    (λ values is. is ∙ ap (map (λ (d : Datom). d.v)) (c.deref.ensures.value ∙ c.in_ok-facts.ensures.facts)
    ∙ values_told c.args.self.now c.facts_led.ensures.stands c.args.e c.args.a)
    c.values.ensures
