use Rattle.std.proofs.Common.{◌≡◌, ◌+◌, [], ◌∷◌, ◌++◌, drop, map, ap, sym, ◌∙◌, rules}
use Rattle.std.specs.Prelude.{filter}
use Rattle.std.proofs.lemmas.List.{drop_more, drop_all, append_assoc}
use Rattle.std.proofs.lemmas.List.Elements.{All-drop}
use Rattle.tx_expand.specs.View.{model_ask}
use Rattle.tx_expand.specs.Known.{IsAskLookedUp}
use Rattle.tx_expand.specs.Faults.{either, form_faults, ask_read, is_kept}
use Rattle.tx_expand.proofs.OneMore.{append_none}
use Rattle.tx_expand.proofs.Together.{either_of_none, faults_then, one_kept}
use Rattle.tx_expand.proofs.judge.judge_all.Goals as goal

pub loop-raw-preserved : goal.loop-raw-preserved
loop-raw-preserved c =
    let facts = c.args.schema.now in
    let raws = c.args.raws.now in
    let i = c.loop-raw.raw-index in
    let r = c.raw-item.result in
    let rest = drop (i + 1) raws in
    let here : drop i raws ≡ r ∷ rest = drop_more raws i r (search rules) ∙ ap (λ q. q ∷ rest) (sym c.raw-item.is) in
    record {
      faults = λ all judged.
          ap (λ x. either x (form_faults facts (map (model_ask all) rest))) c.or-faults.ensures
          ∙ ap (λ x. either (either c.loop-raw.faults x) (form_faults facts (map (model_ask all) rest)))
          (c.in_ok-judge.ensures.faults all judged)
          ∙ faults_then facts c.loop-raw.faults (model_ask all r) (map (model_ask all) rest)
          ∙ ap (λ xs. either c.loop-raw.faults (form_faults facts (map (model_ask all) xs))) (sym here)
          ∙ c.loop-raw.invariant.faults all judged;
      asks = λ all.
          ap (λ xs. xs ++ filter (is_kept facts) (map (model_ask all) rest)) (c.in_ok-judge.ensures.asks all)
          ∙ append_assoc (map (ask_read all) c.loop-raw.asks.items) (filter (is_kept facts) (model_ask all r ∷ []))
          (filter (is_kept facts) (map (model_ask all) rest))
          ∙ ap (λ xs. map (ask_read all) c.loop-raw.asks.items ++ xs)
          (one_kept (is_kept facts) (model_ask all r) (map (model_ask all) rest))
          ∙ ap (λ xs. map (ask_read all) c.loop-raw.asks.items ++ filter (is_kept facts) (map (model_ask all) xs)) (sym here)
          ∙ c.loop-raw.invariant.asks all;
      known = All-drop (IsAskLookedUp facts) (i + 1) raws c.requires.known;
      read = c.in_ok-judge.ensures.read;
    }

pub returns-clause-faults : goal.returns-clause-faults
returns-clause-faults c = λ all judged.
    let facts = c.args.schema.now in
    let at_end : drop c.loop-raw.raw-index c.args.raws.now ≡ [] = drop_all c.loop-raw.raw-index c.args.raws.now (search rules) in
    sym (either_of_none c.loop-raw.faults)
    ∙ ap (λ xs. either c.loop-raw.faults (form_faults facts (map (model_ask all) xs))) (sym at_end)
    ∙ c.loop-raw.invariant.faults all judged

pub returns-clause-asks : goal.returns-clause-asks
returns-clause-asks c = λ all.
    let facts = c.args.schema.now in
    let at_end : drop c.loop-raw.raw-index c.args.raws.now ≡ [] = drop_all c.loop-raw.raw-index c.args.raws.now (search rules) in
    sym (append_none (map (ask_read all) c.loop-raw.asks.items))
    ∙ ap (λ xs. map (ask_read all) c.loop-raw.asks.items ++ filter (is_kept facts) (map (model_ask all) xs)) (sym at_end)
    ∙ c.loop-raw.invariant.asks all
