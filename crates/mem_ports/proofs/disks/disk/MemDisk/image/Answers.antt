use Rattle.std.proofs.Common.{◌≡◌, sym, subst, arith}
use Rattle.std.proofs.lemmas.Grind.{common_steps}
use Rattle.mem_ports.specs.MemDisks.{images_of}
use Rattle.mem_ports.specs.Images.{image_from}
use Rattle.mem_ports.proofs.Left.{leaves-image_from}
use Rattle.mem_ports.proofs.disks.disk.MemDisk.image.Goals as goal

pub returns-clause-left : goal.returns-clause-left
returns-clause-left c =
    let is : c.replay.new.image.items ≡ image_from c.args.cuts.now 0 c.args.self.now.changes c.args.self.now.first c.args.self.now.first =
    grind (arith, common_steps) in
    subst (images_of c.args.self.now) (sym is)
    (leaves-image_from c.args.cuts.now 0 c.args.self.now.changes c.args.self.now.first c.args.self.now.first)
