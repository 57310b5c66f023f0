use Rattle.std.proofs.Common.{length, ap, arith}
use Rattle.std.proofs.lemmas.List.{length-map}
use Rattle.std.specs.Arc.{arc_value}
use Rattle.fb_chunks.proofs.AtNode.{at_fork}
use Rattle.fb_chunks.proofs.Joined.{fewer_chunks}
use Rattle.fb_chunks.proofs.tree.+with.Goals as goal

pub copy_sides-requires : goal.copy_sides-requires
copy_sides-requires g t c =
    let f = at_fork c.whole.view_is c.whole.invariant c.in-Fork.is in
    omega (
      arith,
      ap length c.deref-whole.ensures,
      ap length c.deref-then-len-each.ensures.value,
      length-map c.in-Fork.full.items arc_value,
      c.requires,
      fewer_chunks {whole = c.deref-whole.result.now} f.list,
    )
