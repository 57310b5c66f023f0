use Rattle.std.proofs.Common.{replicate, max, option_map, ℕ, List, ◌-◌, ◌≡◌, ◌≤◌}
use Rattle.disk_model.specs.Disk.{written, Torn, Only, LeavesOnly}
use Rattle.fb_journal.proofs.zeros.write_zeros.Given as goal

abbrev pub invariant-loop-at : goal.invariant-loop-at
invariant-loop-at g l = record {
  begun : l.fn.from ≤ l.at;
  within : l.at ≤ max l.fn.from l.fn.upto;
  bytes : g.D.Disk.bytes l.disk ≡ option_map (written l.fn.from (replicate (l.at - l.fn.from) 0)) (g.D.Disk.bytes l.initial.disk);
  faults : g.D.Disk.faults l.disk ≡ g.D.Disk.faults l.initial.disk;
  crash : (file : List ℕ) → Only file (g.D.Disk.images l.initial.disk) → (image : List ℕ) → g.D.Disk.images l.disk image
      → Torn l.fn.from (l.at - l.fn.from) file image;
  any_moment : (file : List ℕ) → Only file (g.D.Disk.images l.initial.disk)
      → LeavesOnly g.D.Disk.moment g.D.Disk.images_since l.initial.disk l.disk (Torn l.fn.from (l.fn.upto - l.fn.from) file);
}

abbrev pub decreases-loop-at : goal.decreases-loop-at
decreases-loop-at g l = l.fn.upto - l.at
