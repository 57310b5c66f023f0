use Rattle.std.proofs.Common.{◌≡◌, refl, arith}
use Rattle.live_runs.specs.Tables.{blocks_of}
use Rattle.live_runs.proofs.Blocks.{counted, more_table}
use Rattle.live_runs.proofs.table.of_blocks.Goals as goal

pub with_block-requires : goal.with_block-requires
with_block-requires c =
    omega (arith, counted {blocks = blocks_of c.args.full} {last = c.args.last.items} refl c.requires.layer, c.requires.few)

pub invariant_of-result : goal.invariant_of-result
invariant_of-result c =
    let same : c.in_ok-block.block ≡ c.args.last.items = cc (c.in_ok-block.ensures, c.of.ensures) in
    more_table (blocks_of c.args.full) c.in_ok-full.full c.args.last.items c.in_ok-block.block c.in_ok-with_capacity.field-0.items c.requires.layer
    c.requires.whole c.requires.few same c.in_ok-full.ensures c.in_ok-with_capacity.ensures.items
