use Rattle.std.proofs.Common.{arith}
use Rattle.std.proofs.lemmas.Grind.{common_steps}
use Rattle.std.proofs.lemmas.List.{take-append-drop}
use Rattle.mem_ports.proofs.sources.MemSourceSource.read.Goals as goal

pub returns-clause-taken : goal.returns-clause-taken
returns-clause-taken c =
    let n : _ = c.copy_to_front-count.result in
    grind (arith, common_steps, take-append-drop n c.args.self.now.left)
