use Rattle.std.proofs.Common.{◌≡◌, ◌<◌, ◌∷◌, length, sym, rules, arith}
use Rattle.std.specs.Arc.{arc_value}
use Rattle.std.specs.declared.cmp.Ordering.TheVariants.{Less, Equal, Greater}
use Rattle.shared_map.proofs.AtNode.{at_fork}
use Rattle.shared_map.proofs.Sides.{rising-left, rising-right, get-less, get-equal, get-greater}
use Rattle.shared_map.proofs.entries.+value_at.Goals as goal

pub value_at-requires : goal.value_at-requires
value_at-requires g t c κs within =
    let f = at_fork c.tree.view_is c.tree.invariant c.in-Fork.is in
    let left =
    rising-left g.met.K.Ord.total (arc_value c.in-Fork.left).0 (c.in-Fork.item ∷ (arc_value c.in-Fork.right).0) (rw f.is at c.requires) in
    let shorter : length c.deref.result.now.0 < length c.args.tree.now.0 = rw c.deref.ensures f.left_shorter in
    (omega (arith, shorter, c.decreases), (search rules, (search rules, (search rules, rw c.deref.ensures left))))

pub value_at-requires-in-Greater : goal.value_at-requires-in-Greater
value_at-requires-in-Greater g t c κs within =
    let f = at_fork c.tree.view_is c.tree.invariant c.in-Fork.is in
    let right =
    rising-right g.met.K.Ord.total (arc_value c.in-Fork.left).0 c.in-Fork.item (arc_value c.in-Fork.right).0 (rw f.is at c.requires) in
    let shorter : length c.deref-in-Greater.result.now.0 < length c.args.tree.now.0 = rw c.deref-in-Greater.ensures f.right_shorter in
    (omega (arith, shorter, c.decreases), (search rules, (search rules, (search rules, rw c.deref-in-Greater.ensures right))))

pub returns-in-Less : goal.returns-in-Less
returns-in-Less g t c =
    let f = at_fork c.tree.view_is c.tree.invariant c.in-Fork.is in
    let less : g.K.Ord.cmp (g.Q.Query.key c.args.query.now) c.in-Fork.item.0 ≡ Less = cc (c.compare.ensures, c.get.ensures, c.in-Less.is) in
    let found =
    get-less g.met.K.Ord.total (g.Q.Query.key c.args.query.now) (arc_value c.in-Fork.left).0 c.in-Fork.item (arc_value c.in-Fork.right).0
    less (rw f.is at c.requires) in
    rw (f.is, found) (rw c.deref.ensures at c.value_at.ensures)

pub returns-in-Equal : goal.returns-in-Equal
returns-in-Equal g t c =
    let f = at_fork c.tree.view_is c.tree.invariant c.in-Fork.is in
    let equal : g.K.Ord.cmp (g.Q.Query.key c.args.query.now) c.in-Fork.item.0 ≡ Equal =
    cc (c.compare.ensures, c.get.ensures, c.in-Equal.is) in
    let found =
    get-equal g.met.K.Ord.total (g.Q.Query.key c.args.query.now) (arc_value c.in-Fork.left).0 c.in-Fork.item (arc_value c.in-Fork.right).0
    equal (rw f.is at c.requires) in
    rw (f.is, c.get.ensures) (sym found)

pub returns-in-Greater : goal.returns-in-Greater
returns-in-Greater g t c =
    let f = at_fork c.tree.view_is c.tree.invariant c.in-Fork.is in
    let greater : g.K.Ord.cmp (g.Q.Query.key c.args.query.now) c.in-Fork.item.0 ≡ Greater =
    cc (c.compare.ensures, c.get.ensures, c.in-Greater.is) in
    let found =
    get-greater g.met.K.Ord.total (g.Q.Query.key c.args.query.now) (arc_value c.in-Fork.left).0 c.in-Fork.item (arc_value c.in-Fork.right).0
    greater (rw f.is at c.requires) in
    rw (f.is, found) (rw c.deref-in-Greater.ensures at c.value_at-in-Greater.ensures)
