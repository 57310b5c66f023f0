use Rattle.std.proofs.Common.{◌≡◌, ◌∙◌, Bool, None, Some, List, cond, sym, ap, subst}
use Rattle.std.specs.Prelude.{IfOk}
use Rattle.std.proofs.lemmas.Result.{IfOk-weaker}
use Rattle.fb_values.specs.declared.facts.Datom.{Datom}
use Rattle.fb_model.specs.Facts.{facts as facts_of}
use Rattle.fb_model.specs.Schema.{attribute_named}
use Rattle.fb_schema.specs.Parts.{model_attribute}
use Rattle.pull_model.specs.Found as model
use Rattle.pull_pattern.specs.Names.{forward_of}
use Rattle.pull_pattern.specs.View.{model_options}
use Rattle.tx_model.specs.Asks.{without_underscore}
use Rattle.fb_pull.specs.declared.found.Sought.{Sought}
use Rattle.fb_pull.specs.Finding.{CanBeSought, Finds, name_sought}
use Rattle.fb_pull.proofs.Known.{named_is, by_forward}
use Rattle.fb_pull.proofs.found.found_of.Goals as goal

pub found_forward-requires-clause-known : goal.found_forward-requires-clause-known
found_forward-requires-clause-known g c =
    let h = c.args.db.now.snapshot.entries in
    let can = subst (CanBeSought (facts_of h)) c.in-Own.is c.requires.own in
    named_is (facts_of h) c.in-Own.attribute.now.ident (model_attribute c.in-Own.attribute.now) can.0

pub returns-in-Named : goal.returns-in-Named
returns-in-Named g c = λ facts sees.
    subst (λ (s : Sought). IfOk c.found_under.result
    (λ found. Finds (model.found facts c.args.e (name_sought s)) (model_options c.args.options.now) c.args.maps found)) (sym c.in-Named.is)
    (c.found_under.ensures facts sees)

pub returns-in-Own : goal.returns-in-Own
returns-in-Own g c = λ facts sees.
    let h = c.args.db.now.snapshot.entries in
    let attribute = c.in-Own.attribute.now in
    let can = subst (CanBeSought (facts_of h)) c.in-Own.is c.requires.own in
    let plain : forward_of attribute.ident ≡ None =
    ap (λ (b : Bool). cond b (Some (without_underscore attribute.ident)) None) can.1 in
    let is : attribute_named facts.schema attribute.ident ≡ Some (model_attribute attribute) =
    ap (λ (l : List Datom). attribute_named l attribute.ident) sees.schema_is ∙ can.0 in
    subst (λ (s : Sought). IfOk c.found_forward.result
    (λ found. Finds (model.found facts c.args.e (name_sought s)) (model_options c.args.options.now) c.args.maps found)) (sym c.in-Own.is)
    (IfOk-weaker c.found_forward.result _ _
    (λ found finds. by_forward facts c.args.e attribute.ident (model_options c.args.options.now) c.args.maps plain
    (Some (model_attribute attribute)) is found finds)
    (c.found_forward.ensures facts sees))
