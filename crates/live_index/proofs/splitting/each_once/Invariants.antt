use Rattle.std.proofs.Common.{◌≡◌, ◌++◌, List, drop}
use Rattle.fb_values.specs.declared.facts.Datom.{Datom}
use Rattle.live_index.specs.Ranks.{AreRanked, datoms_of}
use Rattle.live_index.specs.Splits.{once}
use Rattle.live_index.proofs.splitting.each_once.Given as goal

-- those so far, and those that are left
abbrev pub invariant-loop-place : goal.invariant-loop-place
invariant-loop-place l =
    record {
      ranked : (table : List Datom) → AreRanked l.order table l.sorted → AreRanked l.order table l.all.items;
      datoms : datoms_of l.all.items ++ once l.order (drop l.place (datoms_of l.sorted)) ≡ once l.order (datoms_of l.sorted);
    }
