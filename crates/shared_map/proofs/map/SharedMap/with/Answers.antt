use Rattle.std.proofs.Common.{ap, arith}
use Rattle.std.specs.Arc.{arc_value}
use Rattle.shared_map.proofs.Rising.{rising-put}
use Rattle.shared_map.proofs.map.SharedMap.with.Goals as goal

pub invariant_of-result : goal.invariant_of-result
invariant_of-result g c = (
  rw c.in_ok-root.ensures.entries (rising-put g.met.K.Ord.total c.in_ok-entry.entry (arc_value c.self.inside.root).0 c.self.invariant.0),
  omega (arith, ap (λ t. t.1) c.deref.ensures, c.height.ensures.height, c.if-height-gt-HIGHEST.false),
)
