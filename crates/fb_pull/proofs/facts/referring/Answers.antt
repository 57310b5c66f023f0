use denote.Ref.{Bor}
use Rattle.std.proofs.Common.{◌∙◌, List, ap, sym, map}
use Rattle.std.specs.Prelude.{filter}
use Rattle.std.proofs.lemmas.List.{take-map}
use Rattle.std.proofs.lemmas.Result.{IfOk-weaker}
use Rattle.fb_values.specs.declared.facts.Datom.{Datom}
use Rattle.fb_pull.proofs.Entities.{lent_entities}
use Rattle.fb_pull.proofs.Scans.{scan_to, refers}
use Rattle.fb_pull.proofs.facts.referring.Goals as goal

pub returns : goal.returns
returns g c = λ facts sees.
    IfOk-weaker c.subjects.result _ _
    (λ list is.
    is
    ∙ ap (λ (l : List (Bor Datom)). map (λ (d : Bor Datom). d.now.e) l) c.deref.ensures.value
    ∙ lent_entities c.in_ok-datoms.datoms.items
    ∙ ap (map (λ (d : Datom). d.e))
    (c.in_ok-datoms.ensures (filter (refers c.args.e c.args.a) facts.seen)
    (scan_to c.args.db.now (g.S.Selector.selects c.args.db.now.filter) facts sees c.args.e c.args.a c.requires))
    ∙ sym (take-map (λ (d : Datom). d.e) c.args.most (filter (refers c.args.e c.args.a) facts.seen)))
    c.subjects.ensures
