use Rattle.std.proofs.Common.{◌≡◌, ◌<◌, ◌∷◌, length, true, rules, arith}
use Rattle.std.specs.Arc.{arc_value}
use Rattle.std.specs.Ordering.{is_le}
use Rattle.std.specs.declared.cmp.Ordering.TheVariants.{Greater}
use Rattle.shared_map.proofs.AtNode.{at_fork}
use Rattle.shared_map.proofs.Sides.{rising-left, rising-right, first-greater, first-not_greater, le-not_greater, copied-or}
use Rattle.shared_map.proofs.entries.+entry_from.Goals as goal

pub entry_from-requires : goal.entry_from-requires
entry_from-requires g t c κs within =
    let f = at_fork c.tree.view_is c.tree.invariant c.in-Fork.is in
    let right =
    rising-right g.met.K.Ord.total (arc_value c.in-Fork.left).0 c.in-Fork.item (arc_value c.in-Fork.right).0 (rw f.is at c.requires) in
    let shorter : length c.deref.result.now.0 < length c.args.tree.now.0 = rw c.deref.ensures f.right_shorter in
    (omega (arith, shorter, c.decreases), (search rules, (search rules, rw c.deref.ensures right)))

pub entry_from-requires-in_default : goal.entry_from-requires-in_default
entry_from-requires-in_default g t c κs within =
    let f = at_fork c.tree.view_is c.tree.invariant c.in-Fork.is in
    let left =
    rising-left g.met.K.Ord.total (arc_value c.in-Fork.left).0 (c.in-Fork.item ∷ (arc_value c.in-Fork.right).0) (rw f.is at c.requires) in
    let shorter : length c.deref-in_default.result.now.0 < length c.args.tree.now.0 = rw c.deref-in_default.ensures f.left_shorter in
    (omega (arith, shorter, c.decreases), (search rules, (search rules, rw c.deref-in_default.ensures left)))

pub returns-in-Greater : goal.returns-in-Greater
returns-in-Greater g t c =
    let f = at_fork c.tree.view_is c.tree.invariant c.in-Fork.is in
    let greater : g.K.Ord.cmp c.args.key.now c.in-Fork.item.0 ≡ Greater = cc (c.cmp.ensures, c.get-entry.ensures, c.in-Greater.is) in
    let found =
    first-greater g.met.K.Ord.total c.args.key.now (arc_value c.in-Fork.left).0 c.in-Fork.item (arc_value c.in-Fork.right).0 greater
    (rw f.is at c.requires) in
    rw (f.is, found) (rw c.deref.ensures at c.entry_from.ensures)

pub returns-in_default : goal.returns-in_default
returns-in_default g t c =
    let f = at_fork c.tree.view_is c.tree.invariant c.in-Fork.is in
    let order : c.cmp.result ≡ g.K.Ord.cmp c.args.key.now c.in-Fork.item.0 = cc (c.cmp.ensures, c.get-entry.ensures) in
    let le : is_le (g.K.Ord.cmp c.args.key.now c.in-Fork.item.0) ≡ true =
    rw order at (le-not_greater c.cmp.result c.in_default.not-Greater) in
    let found =
    first-not_greater g.met.K.Ord.total c.args.key.now (arc_value c.in-Fork.left).0 c.in-Fork.item (arc_value c.in-Fork.right).0 le in
    let left = rw c.deref-in_default.ensures at c.entry_from-in_default.ensures in
    rw (f.is, found, c.unwrap_or.ensures, ← left, ← c.get-entry.ensures) (copied-or c.entry_from-in_default.result c.get-entry.result)
