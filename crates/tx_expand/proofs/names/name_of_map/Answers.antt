use Rattle.std.proofs.Common.{◌+◌, [], ◌∷◌, drop, option_map, unwrap_or, ap, sym, ◌∙◌, rules}
use Rattle.edn_model.specs.Form as edn
use Rattle.edn_form.specs.View.{pairs_of, entries}
use Rattle.tx_expand.specs.View.{model_name}
use Rattle.tx_expand.specs.Numbered.{name_at}
use Rattle.tx_expand.proofs.LookupLists.{begin_with_themselves}
use Rattle.tx_expand.proofs.MapNames.{named_here}
use Rattle.tx_expand.proofs.names.name_of_map.Goals as goal

pub loop-key-preserved : goal.loop-key-preserved
loop-key-preserved c =
    let all = c.named_by.new.lookups.items in
    let i = c.loop-key.key-index in
    let es = entries c.args.pairs.now in
    let behind = name_at c.args.next (edn.pairs (pairs_of (drop (i + 1) es))) in (
      named_here (c.args.next ∷ []) es i c.loop-key-item.result behind c.loop-key.invariant.0 (search rules) (search rules)
          (ap (λ o. unwrap_or (option_map (model_name all) o) behind) (sym c.in_default.is)
          ∙ c.in_ok-name.ensures.name all (begin_with_themselves all) behind),
      λ all begin. c.loop-key.invariant.1 all (c.in_ok-name.ensures.kept all begin),
    )

pub returns-in-Some-clause-name : goal.returns-in-Some-clause-name
returns-in-Some-clause-name c = λ all begin.
    let i = c.loop-key.key-index in
    let es = entries c.args.pairs.now in
    let behind = name_at c.args.next (edn.pairs (pairs_of (drop (i + 1) es))) in
    named_here (c.args.next ∷ []) es i c.loop-key-item.result (model_name all c.in-Some.name) c.loop-key.invariant.0 (search rules)
    (search rules)
    (ap (λ o. unwrap_or (option_map (model_name all) o) behind) (sym c.in-Some.is) ∙ c.in_ok-name.ensures.name all begin behind)
