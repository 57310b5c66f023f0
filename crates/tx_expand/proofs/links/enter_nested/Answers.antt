use Rattle.std.proofs.Common.{◌≡◌, ◌++◌, List, map, ap, ◌∙◌, append_assoc}
use Rattle.std.specs.Prelude.{Vec}
use Rattle.std.specs.declared.alloc.Global.{Global}
use Rattle.edn_model.specs.Form as edn
use Rattle.edn_form.specs.View.{pairs_of, entries}
use Rattle.tx_model.specs.Asks.{entity}
use Rattle.tx_model.specs.Walk.{links, need}
use Rattle.tx_asks.specs.declared.asks.LookupRef.{LookupRef}
use Rattle.tx_expand.specs.declared.raw.RawAsk.{RawAsk}
use Rattle.tx_expand.specs.View.{BeginWith, model_name, model_link, model_ask, model_asks}
use Rattle.tx_expand.specs.Numbered.{name_at}
use Rattle.tx_expand.proofs.LookupLists.{begin_same}
use Rattle.tx_expand.proofs.links.enter_nested.Goals as goal

pub returns-clause-walks : goal.returns-clause-walks
returns-clause-walks c =
    let entered : (all : List LookupRef) → BeginWith c.push_lack.new.out.lookups.items all → BeginWith c.enter.new.out.lookups.items all =
    λ all begin. begin_same c.enter.new.out.lookups c.push_lack.new.out.lookups all
    (c.in_ok-push_lack.ensures.lookups ∙ c.in_ok-link.ensures.lookups) begin in
    record {
      kept = λ all begin. c.in_ok-name.ensures.kept all (entered all begin);
      asks = λ all begin.
          let self = model_name all c.args.this in
          let key = model_link c.args.key.now in
          let ps = edn.pairs (pairs_of (entries c.args.pairs.now)) in
          let before = model_asks all c.args.out.now in
          let lacks = c.in_ok-lacks.lacks in
          c.in_ok-push_lack.ensures.asks all
          ∙ ap (λ asks. asks ++ need lacks) (c.in_ok-link.ensures.asks all)
          ∙ ap (λ (raws : Vec RawAsk Global). (map (model_ask all) raws.items ++ links self key (entity (model_name all c.in_ok-name.name)))
          ++ need lacks) c.in_ok-name.ensures.raws
          ∙ append_assoc before (links self key (entity (model_name all c.in_ok-name.name))) (need lacks)
          ∙ ap (λ name. before ++ (links self key (entity name) ++ need lacks)) (c.in_ok-name.ensures.name all (entered all begin))
          ∙ ap (λ b. before ++ (links self key (entity (name_at c.args.out.now.next ps)) ++ need b)) c.in_ok-lacks.ensures;
      next = λ all begin. c.in_ok-push_lack.ensures.next ∙ c.in_ok-link.ensures.next ∙ c.in_ok-name.ensures.next;
    }
