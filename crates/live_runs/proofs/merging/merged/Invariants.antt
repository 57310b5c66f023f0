use Rattle.std.proofs.Common.{◌≡◌, ◌++◌, drop}
use Rattle.std.specs.List.{All}
use Rattle.fb_values.specs.Rising.{IsRising}
use Rattle.live_runs.specs.Members.{IsMember, changing, held_by}
use Rattle.live_runs.specs.Merged.{merged}
use Rattle.live_runs.proofs.merging.merged.Given as goal

abbrev pub invariant-loop-change : goal.invariant-loop-change
invariant-loop-change l =
    record {
      members : All (λ c. IsMember l.order l.table (changing c)) l.left;
      rising : IsRising l.order (held_by changing l.table l.left);
      whole : l.all.items ++ merged l.order l.table (drop l.change-index l.newer) l.left
          ≡ merged l.order l.table l.newer l.older;
    }
