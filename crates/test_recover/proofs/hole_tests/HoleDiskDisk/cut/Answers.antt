use Rattle.disk_model.proofs.Calls.{torn_cut-same}
use Rattle.test_recover.proofs.hole_tests.HoleDiskDisk.cut.Goals as goal

pub returns-clause-crash : goal.returns-clause-crash
returns-clause-crash c = λ image left. (image, left, torn_cut-same c.args._len image)
