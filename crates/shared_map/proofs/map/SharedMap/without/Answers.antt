use Rattle.std.proofs.Common.{arith}
use Rattle.std.specs.Arc.{arc_value}
use Rattle.shared_map.proofs.Rising.{rising-removed}
use Rattle.shared_map.proofs.map.SharedMap.without.Goals as goal

pub invariant_of-result : goal.invariant_of-result
invariant_of-result g c = (
  rw c.in_ok-root.ensures.entries (rising-removed g.met.K.Ord.total c.args.key.now (arc_value c.self.inside.root).0 c.self.invariant.0),
  omega (arith, c.in_ok-root.ensures.not_higher, c.self.invariant.1),
)
