use Rattle.std.proofs.Common.{arith}
use Rattle.fb_chunks.proofs.Joined.{layered, fewer_chunks}
use Rattle.fb_chunks.proofs.lists.ChunkList.with.Goals as goal

pub with-requires-2 : goal.with-requires-2
with-requires-2 g c =
    let list = layered c.self.view_is c.self.invariant (omega arith) in
    omega (arith, fewer_chunks list, c.requires)
