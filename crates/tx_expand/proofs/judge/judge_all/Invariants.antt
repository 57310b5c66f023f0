use Rattle.std.proofs.Common.{◌≡◌, List, ◌++◌, drop, map}
use Rattle.std.specs.Prelude.{filter}
use Rattle.std.specs.List.{All}
use Rattle.tx_asks.specs.declared.asks.LookupRef.{LookupRef}
use Rattle.tx_asks.specs.Asks.{IsTyped}
use Rattle.tx_expand.specs.View.{model_ask}
use Rattle.tx_expand.specs.Known.{IsAskLookedUp}
use Rattle.tx_expand.specs.Faults.{either, form_faults, ref_faults, ask_read, is_kept}
use Rattle.tx_expand.proofs.judge.judge_all.Given as goal

abbrev pub invariant-loop-raw : goal.invariant-loop-raw
invariant-loop-raw l =
    record {
      faults : (all : List LookupRef) → l.judged ≡ map (ref_faults l.schema) all
          → either l.faults (form_faults l.schema (map (model_ask all) (drop l.raw-index l.raws)))
          ≡ form_faults l.schema (map (model_ask all) l.raws);
      asks : (all : List LookupRef)
          → map (ask_read all) l.asks.items ++ filter (is_kept l.schema) (map (model_ask all) (drop l.raw-index l.raws))
          ≡ filter (is_kept l.schema) (map (model_ask all) l.raws);
      known : All (IsAskLookedUp l.schema) (drop l.raw-index l.raws);
      read : All (IsTyped l.schema) l.asks.items;
    }
