use Rattle.std.proofs.Common.{length}
use Rattle.disk_model.proofs.Calls.{torn-same}
use Rattle.real_ports.proofs.disks.FileDiskDisk.write_at.Goals as goal

pub returns-clause-crash : goal.returns-clause-crash
returns-clause-crash c = λ image left. (image, left, torn-same c.args.at (length c.args.piece.now) image)
