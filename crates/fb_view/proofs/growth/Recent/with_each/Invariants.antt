use Rattle.std.proofs.Common.{◌<◌, ◌≤◌, length, take}
use Rattle.fb_view.specs.SnapshotModel.{model_snapshot, Stands}
use Rattle.fb_view.proofs.growth.Recent.with_each.Given as goal

abbrev pub invariant-loop-t : goal.invariant-loop-t
invariant-loop-t l = record {
  later : 0 < l.t;
  within : l.t ≤ length l.entries;
  stands : Stands (model_snapshot (take l.t l.entries) l.recent l.older);
}
