use Rattle.std.proofs.Common.{◌≡◌, ◌/◌, ◌%◌, ◌∙◌, Some, length, get_or, ap, arith, sym}
use Rattle.std.proofs.lemmas.Option.{get_or_from_slice_get}
use Rattle.std.specs.Arc.{arc_value}
use Rattle.std.specs.List.{slice_get}
use Rattle.fb_chunks.specs.declared.chunks.TheConstants.{CHUNK}
use Rattle.fb_chunks.specs.Tails.{items_up_to}
use Rattle.fb_chunks.proofs.Joined.{layered, found_in_chunk, in_last, found_in_last}
use Rattle.fb_chunks.proofs.lists.ChunkList.at.Goals as goal

pub at-requires-else-chunk-len : goal.at-requires-else-chunk-len
at-requires-else-chunk-len g c =
    let list = layered c.self.view_is c.self.invariant (omega arith) in
    in_last list c.args.place c.requires (omega (arith, c.if-chunk-len.false, c.len.ensures, ap length c.deref.ensures))

pub returns-then-chunk-len : goal.returns-then-chunk-len
returns-then-chunk-len g c =
    let list = layered c.self.view_is c.self.invariant (omega arith) in
    let is : slice_get (arc_value c.self.inside.full) (c.args.place / CHUNK) ≡ Some c.at.result.now =
    rw (← c.deref-then-chunk-len.ensures) c.at.ensures in
    let x = c.index-as_slice-place.result in
    found_in_chunk list c.args.place c.at.result.now is x
    (c.index-as_slice-place.is ∙ ap (λ chunk. get_or chunk (c.args.place % CHUNK) x) c.as_slice.ensures)

pub returns-else-chunk-len : goal.returns-else-chunk-len
returns-else-chunk-len g c =
    let list = layered c.self.view_is c.self.invariant (omega arith) in
    let x = c.at-else-chunk-len.result.now in
    found_in_last list c.args.place c.requires (omega (arith, c.if-chunk-len.false, c.len.ensures, ap length c.deref.ensures)) x
    (sym (get_or_from_slice_get (items_up_to c.self.inside.tail) (c.args.place % CHUNK) x x c.at-else-chunk-len.ensures))
