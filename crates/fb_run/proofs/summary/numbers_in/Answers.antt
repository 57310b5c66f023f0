use Rattle.std.proofs.Common.{◌∙◌, ap, sym, subst, List}
use Rattle.std.specs.Option.{option_map}
use Rattle.fb_values.specs.declared.facts.Datom.{Datom}
use Rattle.fb_model.specs.Facts.{facts}
use Rattle.fb_model.specs.Schema.{attribute_named}
use Rattle.fb_schema.specs.Described.{SchemaStands}
use Rattle.fb_run.proofs.summary.numbers_in.Goals as goal

pub returns : goal.returns
returns c =
    let h = c.args.last.now.entries in
    let stands : SchemaStands c.schema.result.now h = subst (λ (schema : List Datom). SchemaStands schema h) (sym c.schema.ensures.schema)
    c.schema.ensures.stands.schema_is in
    c.id_in.ensures h stands
    ∙ ap (λ name. option_map (λ found. found.id) (attribute_named (facts h) name)) c.in_ok-name.ensures
