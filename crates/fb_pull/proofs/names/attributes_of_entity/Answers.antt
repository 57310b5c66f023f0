use denote.Ref.{Bor}
use Rattle.std.proofs.Common.{◌∙◌, ℕ, List, ap, sym, subst}
use Rattle.std.specs.Prelude.{filter_map}
use Rattle.std.proofs.lemmas.List.Elements.{All-weaker}
use Rattle.std.proofs.lemmas.Result.{IfOk-weaker}
use Rattle.fb_values.specs.declared.facts.Datom.{Datom}
use Rattle.fb_schema.specs.declared.attribute.Attribute.{Attribute}
use Rattle.fb_schema.specs.Described.{SchemaStands}
use Rattle.fb_schema.specs.Parts.{model_attribute}
use Rattle.pull_model.specs.Found.{names_in_order}
use Rattle.fb_pull.specs.Attributes.{name_of, names_among, IsOfSchema}
use Rattle.fb_pull.specs.Near.{lent}
use Rattle.fb_pull.proofs.Runs.{names_by_attributes, names_by_datoms}
use Rattle.fb_pull.proofs.Entities.{at_hand}
use Rattle.fb_pull.proofs.names.attributes_of_entity.Goals as goal

pub returns-in_ok-numbers-in-Nothing-clause-names : goal.returns-in_ok-numbers-in-Nothing-clause-names
returns-in_ok-numbers-in-Nothing-clause-names g c = λ facts sees.
    let h = c.args.db.now.snapshot.entries in
    let schema = c.schema-in-Nothing.result.now in
    let stands : SchemaStands schema h = subst (λ (l : List Datom). SchemaStands l h) (sym c.schema-in-Nothing.ensures.schema)
    c.schema-in-Nothing.ensures.stands.schema_is in
    IfOk-weaker c.attributes_in_order.result _ _
    (λ list has.
    has.named
    ∙ ap (λ (l : List ℕ). names_in_order (filter_map (name_of schema) l)) c.deref-in-Nothing.ensures.value
    ∙ names_by_attributes c.args.db.now (g.S.Selector.selects c.args.db.now.filter) facts sees c.args.e schema
    c.in_ok-numbers-in-Nothing.numbers.items
    (λ a. c.schemas_tell_of_attributes.ensures.attribute schema h a stands)
    c.in_ok-numbers-in-Nothing.ensures.rising c.in_ok-numbers-in-Nothing.ensures.members)
    c.attributes_in_order.ensures

pub returns-in_ok-numbers-in-Nothing-clause-own : goal.returns-in_ok-numbers-in-Nothing-clause-own
returns-in_ok-numbers-in-Nothing-clause-own g c =
    let h = c.args.db.now.snapshot.entries in
    let schema = c.schema-in-Nothing.result.now in
    let stands : SchemaStands schema h = subst (λ (l : List Datom). SchemaStands l h) (sym c.schema-in-Nothing.ensures.schema)
    c.schema-in-Nothing.ensures.stands.schema_is in
    IfOk-weaker c.attributes_in_order.result _ _
    (λ list has. All-weaker (λ (a : Bor Attribute). IsOfSchema schema a.now) _
    (λ a known. c.attributes_are_named_by_their_names.ensures h (model_attribute a.now) c.entries.ensures.stands.history.lawful
    (sym (c.schemas_tell_of_attributes.ensures.attribute schema h a.now.id stands) ∙ known))
    list.items has.known)
    c.attributes_in_order.ensures

pub returns-in-Few-clause-names : goal.returns-in-Few-clause-names
returns-in-Few-clause-names g c = λ facts sees.
    let h = c.args.db.now.snapshot.entries in
    let schema = c.schema.result.now in
    let stands : SchemaStands schema h = subst (λ (l : List Datom). SchemaStands l h) (sym c.schema.ensures.schema)
    c.schema.ensures.stands.schema_is in
    let Selects = g.S.Selector.selects c.args.db.now.filter in
    IfOk-weaker c.attributes_among.result _ _
    (λ list has.
    has.named ∙ ap (λ (l : List (Bor Datom)). names_among schema (lent l)) c.deref.ensures.value
    ∙ names_by_datoms c.args.db.now Selects facts sees c.args.e schema (lent c.in-Few.datoms.items)
    (λ a. c.schemas_tell_of_attributes.ensures.attribute schema h a stands)
    (at_hand c.args.db.now Selects c.args.e c.args.near.now c.in-Few.datoms c.in-Few.is c.requires facts sees))
    c.attributes_among.ensures

pub returns-in-Few-clause-own : goal.returns-in-Few-clause-own
returns-in-Few-clause-own g c =
    let h = c.args.db.now.snapshot.entries in
    let schema = c.schema.result.now in
    let stands : SchemaStands schema h = subst (λ (l : List Datom). SchemaStands l h) (sym c.schema.ensures.schema)
    c.schema.ensures.stands.schema_is in
    IfOk-weaker c.attributes_among.result _ _
    (λ list has. All-weaker (λ (a : Bor Attribute). IsOfSchema schema a.now) _
    (λ a known. c.attributes_are_named_by_their_names.ensures h (model_attribute a.now) c.entries.ensures.stands.history.lawful
    (sym (c.schemas_tell_of_attributes.ensures.attribute schema h a.now.id stands) ∙ known))
    list.items has.known)
    c.attributes_among.ensures
