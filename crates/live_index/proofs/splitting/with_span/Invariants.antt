use Rattle.std.proofs.Common.{◌≡◌, ◌-◌, ◌++◌, take, drop}
use Rattle.std.specs.Prelude.{filter}
use Rattle.live_index.specs.Growth.{is_held}
use Rattle.live_index.specs.Ranks.{AreRanked, datoms_of}
use Rattle.live_index.proofs.splitting.with_span.Given as goal

-- with the held ones of the datoms so far
abbrev pub invariant-loop-number : goal.invariant-loop-number
invariant-loop-number l =
    record {
      ranked : AreRanked l.order l.table l.all.items;
      datoms : datoms_of l.all.items
          ≡ datoms_of l.initial.all.items
          ++ filter (is_held l.covers l.order) (take (l.number - l.fn.span.from) (drop l.fn.span.from l.table));
    }
