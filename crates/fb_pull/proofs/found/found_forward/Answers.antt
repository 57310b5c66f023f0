use Rattle.std.proofs.Common.{◌≡◌, ◌∙◌, eqb, true, false, refl, sym}
use Rattle.std.specs.Prelude.{filter_map}
use Rattle.fb_numbers.specs.Numbers.{type_ref}
use Rattle.fb_model.specs.Facts.{values_of}
use Rattle.fb_model.specs.Schema.{entity_in}
use Rattle.fb_schema.specs.Parts.{model_attribute}
use Rattle.pull_pattern.specs.View.{model_options, model_limit}
use Rattle.fb_pull.proofs.Known.{finds_refs, finds_values, entities_limited, values_limited}
use Rattle.fb_pull.proofs.found.found_forward.Goals as goal

pub returns-then-is_ref : goal.returns-then-is_ref
returns-then-is_ref g c = λ facts sees.
    let attribute = c.args.attribute.now in
    let ref : eqb attribute.kind type_ref ≡ true = sym c.is_ref.ensures ∙ c.if-is_ref.true in
    finds_refs facts c.args.e (model_attribute attribute) (model_options c.args.options.now) c.args.maps _ ref (
      refl,
      refl,
      entities_limited facts c.args.e (model_attribute attribute) (model_options c.args.options.now) c.args.maps c.most_entities.result
          (model_limit c.limit_for-limit.result) attribute.many
          (filter_map entity_in (values_of facts.seen c.args.e attribute.id)) c.in_ok-list.list.items c.most_entities.ensures
          c.limit_for-limit.ensures (c.in_ok-list.ensures facts sees),
    )

pub returns-then-not-several : goal.returns-then-not-several
returns-then-not-several g c = λ facts sees.
    let attribute = c.args.attribute.now in
    let plain : eqb attribute.kind type_ref ≡ false = sym c.is_ref.ensures ∙ c.if-is_ref.false in
    finds_values facts c.args.e (model_attribute attribute) (model_options c.args.options.now) c.args.maps _ plain
    (c.if-not-several.true, c.in_ok-value.ensures facts sees)

pub returns : goal.returns
returns g c = λ facts sees.
    let attribute = c.args.attribute.now in
    let plain : eqb attribute.kind type_ref ≡ false = sym c.is_ref.ensures ∙ c.if-is_ref.false in
    finds_values facts c.args.e (model_attribute attribute) (model_options c.args.options.now) c.args.maps _ plain (
      c.if-not-several.false,
      c.in_ok-forms.ensures facts sees
          ∙ values_limited facts c.args.e (model_attribute attribute) (model_options c.args.options.now) c.args.maps c.most_values.result
          (model_limit c.limit_for-limit.result) attribute.many
          (values_of facts.seen c.args.e attribute.id) c.most_values.ensures c.limit_for-limit.ensures,
    )
