use Rattle.std.proofs.Common.{◌%◌, ◌∙◌, get_or, ap, arith}
use Rattle.fb_chunks.proofs.Joined.{layered, found_in_chunk, in_last, found_in_last}
use Rattle.live_runs.specs.declared.table.TheConstants.{TOGETHER}
use Rattle.live_runs.proofs.table.Table.at.Goals as goal

pub bounds-as_slice-place-else-block-block_count : goal.bounds-as_slice-place-else-block-block_count
bounds-as_slice-place-else-block-block_count c =
    let list = layered c.self.view_is c.self.invariant.layer (omega arith) in
    rw c.as_slice-else-block-block_count.ensures.value
    (in_last list c.args.number c.requires (omega (arith, c.if-block-block_count.false, c.block_count.ensures)))

pub returns-then-block-block_count : goal.returns-then-block-block_count
returns-then-block-block_count c =
    let list = layered c.self.view_is c.self.invariant.layer (omega arith) in
    let x = c.index-as_slice-place.result in
    found_in_chunk list c.args.number c.block_at.result.now c.block_at.ensures x
    (c.index-as_slice-place.is ∙ ap (λ block. get_or block (c.args.number % TOGETHER) x) c.as_slice.ensures)

pub returns-else-block-block_count : goal.returns-else-block-block_count
returns-else-block-block_count c =
    let list = layered c.self.view_is c.self.invariant.layer (omega arith) in
    let x = c.index-as_slice-place-else-block-block_count.result in
    found_in_last list c.args.number c.requires (omega (arith, c.if-block-block_count.false, c.block_count.ensures)) x
    (c.index-as_slice-place-else-block-block_count.is
    ∙ ap (λ block. get_or block (c.args.number % TOGETHER) x) c.as_slice-else-block-block_count.ensures.value)
