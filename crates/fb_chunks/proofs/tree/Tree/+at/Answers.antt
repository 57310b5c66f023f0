use Rattle.std.proofs.Common.{◌≡◌, ◌/◌, ◌%◌, length, Some, refl, sym, rules, arith}
use Rattle.std.proofs.lemmas.List.{length-map}
use Rattle.std.proofs.lemmas.Option.{slice_get_read, get_or_from_slice_get}
use Rattle.std.specs.Arc.{arc_value}
use Rattle.std.specs.List.{slice_get}
use Rattle.fb_chunks.proofs.AtNode.{at_leaf, at_fork, side_read}
use Rattle.fb_chunks.proofs.Joined.{chunk_le-before_last, in_chunk, found_in_chunk, in_last, found_in_last}
use Rattle.fb_chunks.proofs.tree.Tree.+at.Goals as goal

pub at-requires : goal.at-requires
at-requires g t c κs within =
    let f = at_fork c.self.view_is c.self.invariant c.in-Fork.is in
    let is =
    side_read c.in-Fork.full.items (c.args.place / c.in-Fork.each) c.index-then-side-len.result.now
    (omega arith) c.index-then-side-len.ensures in
    let shorter = chunk_le-before_last f.list c.args.place _ is in
    (search rules, (search rules, rw c.deref.ensures (in_chunk f.list c.args.place _ is)))

pub at-requires-else-side-len : goal.at-requires-else-side-len
at-requires-else-side-len g t c κs within =
    let f = at_fork c.self.view_is c.self.invariant c.in-Fork.is in (
      search rules,
      (
        search rules,
        rw c.deref-else-side-len.ensures
            (in_last f.list c.args.place c.requires (omega (arith, length-map c.in-Fork.full.items arc_value))),
      ),
    )

pub returns-in-Leaf : goal.returns-in-Leaf
returns-in-Leaf g t c =
    let is = at_leaf c.self.view_is c.in-Leaf.is in
    slice_get_read c.args.self.now (length c.args.self.now) c.args.place c.index.result.now refl c.requires (rw is c.index.ensures)

pub returns-then-side-len : goal.returns-then-side-len
returns-then-side-len g t c =
    let f = at_fork c.self.view_is c.self.invariant c.in-Fork.is in
    let side = arc_value c.index-then-side-len.result.now in
    let place = c.args.place % c.in-Fork.each in
    let x = c.at.result.now in
    let is =
    side_read c.in-Fork.full.items (c.args.place / c.in-Fork.each) c.index-then-side-len.result.now
    (omega arith) c.index-then-side-len.ensures in
    let found : slice_get side place ≡ Some x = rw (← c.deref.ensures) c.at.ensures in
    found_in_chunk f.list c.args.place side is x (sym (get_or_from_slice_get side place x x found))

pub returns-else-side-len : goal.returns-else-side-len
returns-else-side-len g t c =
    let f = at_fork c.self.view_is c.self.invariant c.in-Fork.is in
    let side = arc_value c.in-Fork.last in
    let place = c.args.place % c.in-Fork.each in
    let x = c.at-else-side-len.result.now in
    let found : slice_get side place ≡ Some x = rw (← c.deref-else-side-len.ensures) c.at-else-side-len.ensures in
    found_in_last f.list c.args.place c.requires (omega (arith, length-map c.in-Fork.full.items arc_value)) x
    (sym (get_or_from_slice_get side place x x found))
