use Rattle.std.proofs.Common.{◌≡◌, ◌<◌, ◌∷◌, ◌∙◌, length, rules, arith}
use Rattle.std.specs.Arc.{arc_value}
use Rattle.std.specs.declared.cmp.Ordering.TheVariants.{Less, Equal, Greater}
use Rattle.std.proofs.lemmas.Result.{IfOk-weaker}
use Rattle.shared_map.specs.Entries.{IsRising}
use Rattle.shared_map.proofs.AtNode.{at_fork}
use Rattle.shared_map.proofs.Sides.{rising-left, rising-right, with-less, with-equal, with-greater}
use Rattle.shared_map.proofs.entries.+with_entry.Goals as goal

pub with_entry-requires : goal.with_entry-requires
with_entry-requires g t c κs within =
    let f = at_fork c.whole.view_is c.whole.invariant c.in-Fork.is in
    let rising : IsRising g.K.Ord.cmp c.deref-whole.result.now.0 = rw c.deref-whole.ensures c.requires.rising in
    let left =
    rising-left g.met.K.Ord.total (arc_value c.in-Fork.left).0 (c.in-Fork.item ∷ (arc_value c.in-Fork.right).0) (rw f.is at rising) in
    let shorter : length (arc_value c.in-Fork.left).0 < length (arc_value c.args.tree.now).0 =
    rw (← c.deref-whole.ensures) f.left_shorter in
    let high : (arc_value c.args.tree.now).1 ≡ c.in-Fork.height = rw (← c.deref-whole.ensures) f.high in
    (omega (arith, shorter, c.decreases), (search rules, (search rules, (left, omega (arith, high, f.fork.height_is, c.requires.low)))))

pub with_entry-requires-in-Greater : goal.with_entry-requires-in-Greater
with_entry-requires-in-Greater g t c κs within =
    let f = at_fork c.whole.view_is c.whole.invariant c.in-Fork.is in
    let rising : IsRising g.K.Ord.cmp c.deref-whole.result.now.0 = rw c.deref-whole.ensures c.requires.rising in
    let right =
    rising-right g.met.K.Ord.total (arc_value c.in-Fork.left).0 c.in-Fork.item (arc_value c.in-Fork.right).0 (rw f.is at rising) in
    let shorter : length (arc_value c.in-Fork.right).0 < length (arc_value c.args.tree.now).0 =
    rw (← c.deref-whole.ensures) f.right_shorter in
    let high : (arc_value c.args.tree.now).1 ≡ c.in-Fork.height = rw (← c.deref-whole.ensures) f.high in
    (omega (arith, shorter, c.decreases), (search rules, (search rules, (right, omega (arith, high, f.fork.height_is, c.requires.low)))))

pub returns-in_ok-clone-in-Less-clause-entries : goal.returns-in_ok-clone-in-Less-clause-entries
returns-in_ok-clone-in-Less-clause-entries g t c =
    let f = at_fork c.whole.view_is c.whole.invariant c.in-Fork.is in
    let less : g.K.Ord.cmp c.args.entry.0 c.in-Fork.item.0 ≡ Less =
    cc (c.cmp.ensures, c.get.ensures, c.get-in-Fork.ensures, c.in-Less.is) in
    let right : (arc_value c.in_ok-clone-in-Less.field-0).0 ≡ (arc_value c.in-Fork.right).0 = cc (c.in_ok-clone-in-Less.ensures.cases) in
    let made =
    with-less g.met.K.Ord.total c.args.entry c.deref-whole.result.now.0 (arc_value c.in-Fork.left).0 c.in-Fork.item
    (arc_value c.in-Fork.right).0 (arc_value c.in_ok-left-in-Less.left).0 c.in_ok-share-in-Less.field-0
    (arc_value c.in_ok-clone-in-Less.field-0).0 f.is less c.in_ok-left-in-Less.ensures.entries c.in_ok-share-in-Less.ensures right in
    rw (← c.deref-whole.ensures) (IfOk-weaker c.balance.result _ _ (λ new is. is ∙ made) c.balance.ensures.items)

pub returns-in_ok-clone-in-Equal-2-clause-entries : goal.returns-in_ok-clone-in-Equal-2-clause-entries
returns-in_ok-clone-in-Equal-2-clause-entries g t c =
    let f = at_fork c.whole.view_is c.whole.invariant c.in-Fork.is in
    let rising : IsRising g.K.Ord.cmp c.deref-whole.result.now.0 = rw c.deref-whole.ensures c.requires.rising in
    let equal : g.K.Ord.cmp c.args.entry.0 c.in-Fork.item.0 ≡ Equal =
    cc (c.cmp.ensures, c.get.ensures, c.get-in-Fork.ensures, c.in-Equal.is) in
    let left : (arc_value c.in_ok-clone-in-Equal.field-0).0 ≡ (arc_value c.in-Fork.left).0 = cc (c.in_ok-clone-in-Equal.ensures.cases) in
    let right : (arc_value c.in_ok-clone-in-Equal-2.field-0).0 ≡ (arc_value c.in-Fork.right).0 =
    cc (c.in_ok-clone-in-Equal-2.ensures.cases) in
    let made =
    with-equal g.met.K.Ord.total c.args.entry c.deref-whole.result.now.0 (arc_value c.in-Fork.left).0 c.in-Fork.item
    (arc_value c.in-Fork.right).0 (arc_value c.in_ok-clone-in-Equal.field-0).0 (arc_value c.entry-in-Fork.inside.value)
    (arc_value c.in_ok-clone-in-Equal-2.field-0).0 f.is equal rising left c.entry-in-Fork.view_is right in
    rw (← c.deref-whole.ensures) (IfOk-weaker c.fork-in-Equal.result _ _ (λ new is. is ∙ made) c.fork-in-Equal.ensures.items)

pub returns-in_ok-share-in-Greater-clause-entries : goal.returns-in_ok-share-in-Greater-clause-entries
returns-in_ok-share-in-Greater-clause-entries g t c =
    let f = at_fork c.whole.view_is c.whole.invariant c.in-Fork.is in
    let rising : IsRising g.K.Ord.cmp c.deref-whole.result.now.0 = rw c.deref-whole.ensures c.requires.rising in
    let greater : g.K.Ord.cmp c.args.entry.0 c.in-Fork.item.0 ≡ Greater =
    cc (c.cmp.ensures, c.get.ensures, c.get-in-Fork.ensures, c.in-Greater.is) in
    let left : (arc_value c.in_ok-clone-in-Greater.field-0).0 ≡ (arc_value c.in-Fork.left).0 =
    cc (c.in_ok-clone-in-Greater.ensures.cases) in
    let made =
    with-greater g.met.K.Ord.total c.args.entry c.deref-whole.result.now.0 (arc_value c.in-Fork.left).0 c.in-Fork.item
    (arc_value c.in-Fork.right).0 (arc_value c.in_ok-clone-in-Greater.field-0).0 c.in_ok-share-in-Greater.field-0
    (arc_value c.in_ok-right-in-Greater.right).0 f.is greater rising left c.in_ok-share-in-Greater.ensures
    c.in_ok-right-in-Greater.ensures.entries in
    rw (← c.deref-whole.ensures) (IfOk-weaker c.balance-in-Greater.result _ _ (λ new is. is ∙ made) c.balance-in-Greater.ensures.items)
