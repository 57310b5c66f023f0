use Rattle.std.proofs.Common.{length}
use Rattle.disk_model.proofs.Calls.{torn-same}
use Rattle.test_recover.proofs.hole_tests.HoleDiskDisk.write_at.Goals as goal

pub returns-then-is_some-clause-crash : goal.returns-then-is_some-clause-crash
returns-then-is_some-clause-crash c = λ image left. (image, left, torn-same c.args.at (length c.args.piece.now) image)

pub returns-clause-crash : goal.returns-clause-crash
returns-clause-crash c = λ image left. (image, left, torn-same c.args.at (length c.args.piece.now) image)
