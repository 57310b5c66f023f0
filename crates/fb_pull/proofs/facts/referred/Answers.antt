use denote.Ref.{Bor}
use Rattle.std.proofs.Common.{◌∙◌, ℕ, List, ap, map, take}
use Rattle.std.specs.Prelude.{filter, filter_map}
use Rattle.std.proofs.lemmas.Result.{IfOk-weaker}
use Rattle.fb_values.specs.declared.facts.Datom.{Datom}
use Rattle.fb_model.specs.Schema.{entity_in}
use Rattle.fb_pull.specs.Near.{lent}
use Rattle.fb_pull.proofs.Refs.{first_entities}
use Rattle.fb_pull.proofs.Entities.{has, under_attribute, lent_values}
use Rattle.fb_pull.proofs.facts.referred.Goals as goal

abbrev meant : List Datom → List ℕ
meant ds = filter_map entity_in (map (λ (d : Datom). d.v) ds)

pub returns-in_ok-datoms-in-Nothing : goal.returns-in_ok-datoms-in-Nothing
returns-in_ok-datoms-in-Nothing g c = λ facts sees.
    let ds = c.in_ok-datoms-in-Nothing.datoms.items in
    IfOk-weaker c.entities.result _ _
    (λ list is.
    is ∙ ap (λ (l : List (Bor Datom)). filter_map entity_in (map (λ (d : Bor Datom). d.now.v) l)) c.deref-in-Nothing.ensures.value
    ∙ ap (filter_map entity_in) (lent_values ds) ∙ ap meant (c.in_ok-datoms-in-Nothing.ensures facts sees)
    ∙ first_entities c.args.db.now (g.S.Selector.selects c.args.db.now.filter) facts sees c.entries.ensures.stands.history.lawful c.args.e
    c.args.a c.requires.refers c.args.most)
    c.entities.ensures

pub returns-in-Few : goal.returns-in-Few
returns-in-Few g c = λ facts sees.
    IfOk-weaker c.entities_among.result _ _
    (λ list is.
    is ∙ ap (λ (l : List (Bor Datom)). meant (take c.args.most (filter (has c.args.a) (lent l)))) c.deref.ensures.value
    ∙ ap (λ (l : List Datom). meant (take c.args.most l)) (under_attribute c.args.db.now (g.S.Selector.selects c.args.db.now.filter)
    c.args.e c.args.near.now c.in-Few.datoms c.in-Few.is c.requires.near facts sees c.args.a)
    ∙ first_entities c.args.db.now (g.S.Selector.selects c.args.db.now.filter) facts sees c.entries.ensures.stands.history.lawful c.args.e
    c.args.a c.requires.refers c.args.most)
    c.entities_among.ensures
