use Rattle.std.proofs.Common.{◌≡◌, take, length}
use Rattle.fb_backup.proofs.same.are_same.Given as goal

-- so far they are the same
abbrev pub invariant-loop-place : goal.invariant-loop-place
invariant-loop-place l = record {
  lengths : length l.xs ≡ length l.ys;
  before : take l.place l.xs ≡ take l.place l.ys;
}
