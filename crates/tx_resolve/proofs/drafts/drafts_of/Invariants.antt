use Rattle.std.proofs.Common.{◌≡◌, map, Some, take, drop}
use Rattle.std.specs.List.{list_any}
use Rattle.tx_model.specs.Tempids.{db_of}
use Rattle.tx_resolve.specs.Drafts.{draft_of, is_lost}
use Rattle.tx_resolve.proofs.drafts.drafts_of.Given as goal

abbrev pub invariant-loop-ask : goal.invariant-loop-ask
invariant-loop-ask g l =
    let db = db_of (g.F.Facts.history l.facts) in
    let looked_up = l.found in
    let met = l.met in
    record {
      found : map Some l.drafts.items ≡ map (draft_of db looked_up met) (take l.ask-index l.asks);
      lost : list_any (is_lost db looked_up met) (drop l.ask-index l.asks) ≡ list_any (is_lost db looked_up met) l.asks;
    }
