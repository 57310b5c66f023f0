-- What a step of the walk adds to what the forms ask. This project's own choice.
use Rattle.std.specs.Prelude.{◌≡◌, List, ◌++◌}
use Rattle.tx_asks.specs.declared.asks.LookupRef.{LookupRef}
use Rattle.tx_expand.specs.declared.raw.Out.{Out}
use Rattle.tx_expand.specs.View.{BeginWith, model_asks}
use Rattle.tx_expand.specs.Numbered.{Visited}

-- the lookup refs grow at their end,
-- and where these are all that the transaction has, the step adds this
pub record Walks (old new : Out) (visited : List LookupRef → Visited) : Type 0 where
  pub kept : (all : List LookupRef) → BeginWith new.lookups.items all
      → BeginWith old.lookups.items all
  pub asks : (all : List LookupRef) → BeginWith new.lookups.items all
      → model_asks all new ≡ model_asks all old ++ (visited all).asks
  pub next : (all : List LookupRef) → BeginWith new.lookups.items all
      → new.next ≡ (visited all).next
