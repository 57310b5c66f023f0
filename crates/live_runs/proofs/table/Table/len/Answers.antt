use Rattle.std.proofs.Common.{ap, length, arith}
use Rattle.live_runs.proofs.Blocks.{counted}
use Rattle.live_runs.proofs.table.Table.len.Goals as goal

pub overflow_mul-result : goal.overflow_mul-result
overflow_mul-result c =
    omega (arith, counted c.self.view_is c.self.invariant.layer, ap length c.self.view_is, c.self.invariant.few, c.block_count.ensures)

pub overflow_add-result : goal.overflow_add-result
overflow_add-result c =
    omega (
      arith,
      counted c.self.view_is c.self.invariant.layer,
      ap length c.self.view_is,
      c.self.invariant.few,
      c.block_count.ensures,
      ap length c.as_slice.ensures.value,
    )

pub returns-clause-value : goal.returns-clause-value
returns-clause-value c =
    omega (arith, counted c.self.view_is c.self.invariant.layer, c.block_count.ensures, ap length c.as_slice.ensures.value)

pub returns-clause-few : goal.returns-clause-few
returns-clause-few c =
    omega (
      arith,
      counted c.self.view_is c.self.invariant.layer,
      ap length c.self.view_is,
      c.self.invariant.few,
      c.block_count.ensures,
      ap length c.as_slice.ensures.value,
    )
