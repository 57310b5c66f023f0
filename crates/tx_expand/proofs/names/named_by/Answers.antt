use Rattle.std.proofs.Common.{◌≡◌, Option, ap, sym, ◌∙◌}
use Rattle.std.specs.Prelude.{option_map, unwrap_or}
use Rattle.edn_form.specs.View.{form_of}
use Rattle.tx_model.specs.Asks as asks
use Rattle.tx_model.specs.Walk as walk
use Rattle.tx_asks.specs.declared.asks.Name.{Name}
use Rattle.tx_expand.specs.View.{model_name}
use Rattle.tx_expand.proofs.MapNames.{named_by_own}
use Rattle.tx_expand.proofs.Results.{IfOk-map}
use Rattle.tx_expand.proofs.names.named_by.Goals as goal

pub returns-then-is_id-clause-name : goal.returns-then-is_id-clause-name
returns-then-is_id-clause-name c = λ all begin.
    let key = asks.key_in (form_of c.args.key.now) in
    let f = form_of c.args.value.now in
    IfOk-map (λ (name : Option Name). option_map (model_name all) name ≡ asks.name_in f)
    (λ (name : Option Name). (other : asks.Name) → unwrap_or (option_map (model_name all) name) other ≡ walk.named_by key f other)
    (λ name is other. ap (λ o. unwrap_or o other) is ∙ sym (named_by_own key f other (sym c.is_id.ensures ∙ c.if-is_id.true)))
    c.name_in.result (c.name_in.ensures.name all begin)
