use Rattle.std.proofs.Common.{◌≡◌, ◌∙◌, List, Option, None, Some, ap, sym, subst}
use Rattle.std.proofs.lemmas.Result.{IfOk-weaker}
use Rattle.fb_values.specs.declared.facts.Datom.{Datom}
use Rattle.fb_model.specs.Schema.{Attribute, attribute_named}
use Rattle.fb_schema.specs.Described.{SchemaStands}
use Rattle.fb_schema.specs.Parts.{model_attribute}
use Rattle.pull_pattern.specs.Names.{forward_of}
use Rattle.pull_pattern.specs.View.{model_options}
use Rattle.fb_pull.specs.declared.found.Found.TheVariants.{Absent}
use Rattle.fb_pull.proofs.Known.{by_forward, by_reversed}
use Rattle.fb_pull.proofs.found.found_under.Goals as goal

pub returns-in-Some-named : goal.returns-in-Some-named
returns-in-Some-named g c = λ facts sees.
    let h = c.args.db.now.snapshot.entries in
    let name = c.args.name.now in
    let stands : SchemaStands c.schema.result.now h = subst (λ (schema : List Datom). SchemaStands schema h) (sym c.schema.ensures.schema)
    c.schema.ensures.stands.schema_is in
    let plain : forward_of name ≡ None = sym c.reversed.ensures ∙ c.in-None.is in
    let is : attribute_named facts.schema name ≡ Some (model_attribute c.in-Some-named.attribute.now) =
    ap (λ (l : List Datom). attribute_named l name) sees.schema_is
    ∙ sym (c.schemas_tell_of_attributes.ensures.name c.schema.result.now h name stands)
    ∙ ap (attribute_named c.schema.result.now) (sym c.written.ensures) ∙ sym c.in-Some-named.ensures in
    IfOk-weaker c.found_forward.result _ _
    (λ found finds. by_forward facts c.args.e name (model_options c.args.options.now) c.args.maps plain
    (Some (model_attribute c.in-Some-named.attribute.now)) is found finds)
    (c.found_forward.ensures facts sees)

pub returns-in-None-named : goal.returns-in-None-named
returns-in-None-named g c = λ facts sees.
    let h = c.args.db.now.snapshot.entries in
    let name = c.args.name.now in
    let stands : SchemaStands c.schema.result.now h = subst (λ (schema : List Datom). SchemaStands schema h) (sym c.schema.ensures.schema)
    c.schema.ensures.stands.schema_is in
    let plain : forward_of name ≡ None = sym c.reversed.ensures ∙ c.in-None.is in
    let is : ◌≡◌ {A = Option Attribute} (attribute_named facts.schema name) None =
    ap (λ (l : List Datom). attribute_named l name) sees.schema_is
    ∙ sym (c.schemas_tell_of_attributes.ensures.name c.schema.result.now h name stands)
    ∙ ap (attribute_named c.schema.result.now) (sym c.written.ensures) ∙ sym c.in-None-named.ensures in
    by_forward facts c.args.e name (model_options c.args.options.now) c.args.maps plain None is Absent tt

pub returns-in-Some-named-2 : goal.returns-in-Some-named-2
returns-in-Some-named-2 g c = λ facts sees.
    let h = c.args.db.now.snapshot.entries in
    let name = c.args.name.now in
    let word = c.in-Some.forward in
    let stands : SchemaStands c.schema-in-Some.result.now h = subst (λ (schema : List Datom). SchemaStands schema h)
    (sym c.schema-in-Some.ensures.schema) c.schema-in-Some.ensures.stands.schema_is in
    let reversed : forward_of name ≡ Some word = sym c.reversed.ensures ∙ c.in-Some.is in
    let is : attribute_named facts.schema word ≡ Some (model_attribute c.in-Some-named-2.attribute.now) =
    ap (λ (l : List Datom). attribute_named l word) sees.schema_is
    ∙ sym (c.schemas_tell_of_attributes.ensures.name c.schema-in-Some.result.now h word stands) ∙ sym c.in-Some-named-2.ensures in
    IfOk-weaker c.found_backward.result _ _
    (λ found finds. by_reversed facts c.args.e name (model_options c.args.options.now) c.args.maps word reversed
    (Some (model_attribute c.in-Some-named-2.attribute.now)) is found finds)
    (c.found_backward.ensures facts sees)

pub returns-in-None-named-2 : goal.returns-in-None-named-2
returns-in-None-named-2 g c = λ facts sees.
    let h = c.args.db.now.snapshot.entries in
    let name = c.args.name.now in
    let word = c.in-Some.forward in
    let stands : SchemaStands c.schema-in-Some.result.now h = subst (λ (schema : List Datom). SchemaStands schema h)
    (sym c.schema-in-Some.ensures.schema) c.schema-in-Some.ensures.stands.schema_is in
    let reversed : forward_of name ≡ Some word = sym c.reversed.ensures ∙ c.in-Some.is in
    let is : ◌≡◌ {A = Option Attribute} (attribute_named facts.schema word) None =
    ap (λ (l : List Datom). attribute_named l word) sees.schema_is
    ∙ sym (c.schemas_tell_of_attributes.ensures.name c.schema-in-Some.result.now h word stands) ∙ sym c.in-None-named-2.ensures in
    by_reversed facts c.args.e name (model_options c.args.options.now) c.args.maps word reversed None is Absent tt
