use Rattle.std.proofs.Common.{◌≡◌, [], ◌∷◌, ◌++◌, List, map, ap, sym, ◌∙◌}
use Rattle.std.specs.Prelude.{Vec}
use Rattle.std.specs.declared.alloc.Global.{Global}
use Rattle.edn_model.specs.Form as edn
use Rattle.edn_form.specs.View.{pairs_of, entries}
use Rattle.tx_model.specs.Asks.{meets}
use Rattle.tx_forms.specs.declared.forms.TxForm.{TxForm}
use Rattle.tx_forms.specs.Parts.{parts_of}
use Rattle.tx_asks.specs.declared.asks.LookupRef.{LookupRef}
use Rattle.tx_expand.specs.declared.raw.RawAsk.{RawAsk}
use Rattle.tx_expand.specs.View.{BeginWith, model_name, model_ask, model_asks}
use Rattle.tx_expand.specs.Numbered.{visited, walk_map, walk_form, name_at, behind}
use Rattle.tx_expand.specs.Walks.{Walks}
use Rattle.tx_expand.proofs.LookupLists.{begin_same}
use Rattle.tx_expand.proofs.Results.{IfOk-map}
use Rattle.tx_expand.proofs.Telling.{tells_then, call_tells}
use Rattle.tx_expand.proofs.walk.form_asks.Goals as goal

pub returns-in_ok-raw-in-List-clause-walks : goal.returns-in_ok-raw-in-List-clause-walks
returns-in_ok-raw-in-List-clause-walks c =
    let facts = c.args.schema.now in
    let n = c.args.out.now.next in
    call_tells c.push.result c.args.out.now c.push.new.out c.list_ask.new.lookups (λ all. model_ask all c.in_ok-raw-in-List.raw ∷ [])
    (λ _. walk_form facts n (parts_of c.args.form))
    c.push.ensures.asks c.push.ensures.lookups c.push.ensures.next c.in_ok-raw-in-List.ensures.kept
    (λ all begin.
    ap (λ asks. visited asks n) (c.in_ok-raw-in-List.ensures.ask all begin)
    ∙ ap (λ (form : TxForm). walk_form facts n (parts_of form)) (sym c.in-List.is))

pub returns-in_ok-push-in-Map-clause-walks : goal.returns-in_ok-push-in-Map-clause-walks
returns-in_ok-push-in-Map-clause-walks c =
    let facts = c.args.schema.now in
    let old = c.args.out.now in
    let n = old.next in
    let pushed = c.push-in-Map.new.out in
    let new = c.map_asks.new.out in
    let name = c.in_ok-name-in-Map.name in
    let ps = edn.pairs (pairs_of (entries c.in-Map.pairs.now)) in
    let counted : pushed.next ≡ behind (name_at n ps) n = c.in_ok-push-in-Map.ensures.next ∙ c.in_ok-name-in-Map.ensures.next in
    let entered : (all : List LookupRef) → BeginWith pushed.lookups.items all → BeginWith c.enter.new.out.lookups.items all =
    λ all begin. begin_same c.enter.new.out.lookups pushed.lookups all c.in_ok-push-in-Map.ensures.lookups begin in
    let first : Walks old pushed (λ _. visited (meets (name_at n ps) ∷ []) (behind (name_at n ps) n)) =
    record {
      kept = λ all begin. c.in_ok-name-in-Map.ensures.kept all (entered all begin);
      asks = λ all begin.
          c.in_ok-push-in-Map.ensures.asks all
          ∙ ap (λ (raws : Vec RawAsk Global). map (model_ask all) raws.items ++ meets (model_name all name) ∷ [])
          c.in_ok-name-in-Map.ensures.raws
          ∙ ap (λ s. model_asks all old ++ meets s ∷ []) (c.in_ok-name-in-Map.ensures.name all (entered all begin));
      next = λ all begin. counted;
    } in
    IfOk-map (λ _. Walks pushed new (λ all. walk_map facts (model_name all name) pushed.next ps))
    (λ _. Walks old new (λ _. walk_form facts n (parts_of c.args.form)))
    (λ _.
    tells_then old pushed new (λ _. visited (meets (name_at n ps) ∷ []) (behind (name_at n ps) n))
    (λ all. walk_map facts (model_name all name) pushed.next ps)
    (λ _. walk_form facts n (parts_of c.args.form))
    (λ all begin.
    ap (λ s. visited (meets (name_at n ps) ∷ (walk_map facts s pushed.next ps).asks) (walk_map facts s pushed.next ps).next)
    (c.in_ok-name-in-Map.ensures.name all (entered all begin))
    ∙ ap (λ m. visited (meets (name_at n ps) ∷ (walk_map facts (name_at n ps) m ps).asks) (walk_map facts (name_at n ps) m ps).next) counted
    ∙ ap (λ (form : TxForm). walk_form facts n (parts_of form)) (sym c.in-Map.is))
    first)
    c.map_asks.result c.map_asks.ensures.walks
