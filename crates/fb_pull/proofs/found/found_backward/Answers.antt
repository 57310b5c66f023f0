use Rattle.std.proofs.Common.{◌≡◌, ◌∙◌, eqb, true, not, refl, sym}
use Rattle.fb_numbers.specs.Numbers.{type_ref}
use Rattle.fb_schema.specs.Parts.{model_attribute}
use Rattle.pull_model.specs.Found.{referring}
use Rattle.pull_pattern.specs.View.{model_options, model_limit}
use Rattle.fb_pull.proofs.Known.{finds_back, entities_limited}
use Rattle.fb_pull.proofs.found.found_backward.Goals as goal

pub returns : goal.returns
returns g c = λ facts sees.
    let attribute = c.args.attribute.now in
    let ref : eqb attribute.kind type_ref ≡ true = sym c.is_ref.ensures ∙ c.if-not-is_ref.false in
    finds_back facts c.args.e (model_attribute attribute) (model_options c.args.options.now) c.args.maps _ ref (
      refl,
      refl,
      entities_limited facts c.args.e (model_attribute attribute) (model_options c.args.options.now) c.args.maps c.most_entities.result
          (model_limit c.limit_for-limit.result) (not attribute.component)
          (referring facts.seen c.args.e attribute.id) c.in_ok-list.list.items c.most_entities.ensures c.limit_for-limit.ensures
          (c.in_ok-list.ensures facts sees),
    )
