use Rattle.std.proofs.Common.{◌≡◌, ◌++◌, List, drop}
use Rattle.std.specs.List.{All}
use Rattle.fb_values.specs.declared.facts.Datom.{Datom}
use Rattle.fb_values.specs.declared.indexes.Order.{Order}
use Rattle.fb_model.specs.Facts.{standing}
use Rattle.live_runs.specs.Members.{IsMember, named}
use Rattle.live_index.specs.Halves.{withdrawn}
use Rattle.live_index.specs.Ranks.{AreInOrder, datoms_of}
use Rattle.live_index.proofs.splitting.part.Given as goal

-- those so far, and those that are left
abbrev pub invariant-loop-place : goal.invariant-loop-place
invariant-loop-place l =
    record {
      holding : (order : Order) (table : List Datom) → AreInOrder order table l.rising → All (IsMember order table) l.holding.items;
      past : (order : Order) (table : List Datom) → AreInOrder order table l.rising → All (IsMember order table) l.past.items;
      stands : (order : Order) (table : List Datom) → AreInOrder order table l.rising
          → named table l.holding.items ++ standing (drop l.place (datoms_of l.rising)) ≡ standing (datoms_of l.rising);
      falls : (order : Order) (table : List Datom) → AreInOrder order table l.rising
          → named table l.past.items ++ withdrawn (drop l.place (datoms_of l.rising)) ≡ withdrawn (datoms_of l.rising);
    }
